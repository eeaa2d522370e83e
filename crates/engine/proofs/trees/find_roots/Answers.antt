use Rattle.std.proofs.Common.{◌-◌, arith}
use Rattle.engine.proofs.Gathered.{leaf_at}
use Rattle.engine.proofs.trees.find_roots.Goals as goal

pub loop-v-preserved-then-counts-v-eq1 : goal.loop-v-preserved-then-counts-v-eq1
loop-v-preserved-then-counts-v-eq1 c = λ u q l one.
    let v = c.loop-v.v - 1 in
    let f = c.requires.falling.each v (omega arith) in
    leaf_at c.args.labels.now c.args.counts.now c.args.others.now c.loop-v.roots v u (omega arith) c.if-counts-v-eq1.true q
    (λ h. c.loop-v.invariant u (omega arith) l one)
