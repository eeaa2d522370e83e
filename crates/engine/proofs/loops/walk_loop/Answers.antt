use Rattle.std.proofs.Common.{length, arith}
use Rattle.forest.specs.Loops.{hop}
use Rattle.engine.specs.Marking.{marked}
use Rattle.engine.proofs.Walking.{walk_more}
use Rattle.engine.proofs.loops.walk_loop.Goals as goal

pub loop-position-preserved : goal.loop-position-preserved
loop-position-preserved g c =
    let step = hop (g.S.ReadingSurface.mesh c.args.s.now).triangles (marked c.args.marking.now.keys.now c.args.marking.now.marks.now) c.args.mirror in
    let l = c.loop-position in
    record {
      low = c.hop-side.ensures.bound;
      done = walk_more step l.out (length c.args.out.now) l.position-index l.side c.hop-side.result _ l.invariant.done (omega arith) (omega arith) c.hop-side.ensures.side;
    }
