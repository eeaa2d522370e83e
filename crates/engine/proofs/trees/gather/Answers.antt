use Rattle.std.proofs.Common.{arith}
use Rattle.engine.proofs.Gathered.{gathered_less, gathered_more}
use Rattle.engine.proofs.trees.gather.Goals as goal
use Rattle.engine.proofs.trees.gather.Goals.{then-arounds-k-gt0, else-arounds-k-gt0}

pub loop-k-preserved : goal.loop-k-preserved
loop-k-preserved c =
    let i = c.loop-k.invariant in
    let few = i.few in
    elim c.if-arounds-k-gt0.branch [
      | then-arounds-k-gt0 w ↦ rw (w.lowest-is, w.arounds-is, w.roots-is, w.count-is)
          (gathered_more c.args.arounds.now c.args.roots.now c.loop-k.lowest c.loop-k.arounds c.loop-k.roots c.loop-k.k c.loop-k.count i w.if-arounds-k-gt0.true (omega arith) (omega arith) (omega arith))
      | else-arounds-k-gt0 w ↦ rw (w.lowest-is, w.arounds-is, w.roots-is, w.count-is)
          (gathered_less c.args.arounds.now c.args.roots.now c.loop-k.lowest c.loop-k.arounds c.loop-k.roots c.loop-k.k c.loop-k.count i w.if-arounds-k-gt0.false)
    ]
