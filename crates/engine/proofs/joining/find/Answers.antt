use Rattle.std.proofs.Common.{◌<◌, length, sym, ◌∙◌, arith, length-set}
use Rattle.engine.proofs.Parents.{up, up_le, up_falling, up_label, up_links}
use Rattle.engine.proofs.joining.find.Goals as goal

pub loop-parents-preserved : goal.loop-parents-preserved
loop-parents-preserved c =
    let ps = c.loop-parents.parents in
    let v = c.loop-parents.v in
    let h : v < length ps = c.loop-parents.invariant.0 in
    let f = c.loop-parents.invariant.1 in
    let low = up_le ps v h f in
    let e = length-set ps v (up ps v) in (
      omega arith,
      up_falling ps v h f,
      λ l o. let w = c.loop-parents.invariant.2 l o in (w.0 ∙ sym (up_label ps v h f l w.1), up_links ps v h f l w.1),
    )
