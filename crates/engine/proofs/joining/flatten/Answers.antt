use Rattle.std.proofs.Common.{◌<◌, length, arith}
use Rattle.engine.proofs.Parents.{up_falling, up_links, flat_more}
use Rattle.engine.proofs.joining.flatten.Goals as goal

pub loop-v-preserved : goal.loop-v-preserved
loop-v-preserved c =
    let ps = c.loop-v.parents in
    let v = c.loop-v.v in
    let h : v < length ps = omega arith in
    let f = c.loop-v.invariant.0 in (
      up_falling ps v h f,
      λ l o. let w = c.loop-v.invariant.1 l o in (up_links ps v h f l w.0, flat_more ps l v h f w.0 w.1),
    )
