use Rattle.std.proofs.Common.{refl, ◌∙◌, arith}
use Rattle.engine.proofs.Exchanging.{exchange_next, exchange_start, exchange_end}
use Rattle.engine.proofs.writing.replace_corners.Goals as goal

pub overflow_cast-i : goal.overflow_cast-i
overflow_cast-i g c =
    let few = (g.S.ReadingSurface.limited c.args.store.now).few_triangles in
    let whole = c.requires.whole in
    let here = c.loop-i-test.true in
    omega arith

pub loop-i-init : goal.loop-i-init
loop-i-init g c =
    (exchange_start (g.S.ReadingSurface.mesh c.args.store.now) c.args.corners.now c.requires.exchangeable c.requires.whole, refl, refl)

pub loop-i-preserved : goal.loop-i-preserved
loop-i-preserved g c =
    let v = c.loop-i.invariant in
    let n = exchange_next (g.S.ReadingSurface.mesh c.args.store.now) c.args.corners.now c.requires.exchangeable c.requires.whole c.loop-i.i _ _ _ _ _ _ c.loop-i-test.true refl refl refl v.0 c.replace_corner.ensures.answer c.replace_corner.ensures.after in
    (n, c.replace_corner.ensures.room.0 ∙ v.1, c.replace_corner.ensures.room.1 ∙ v.2)

pub returns : goal.returns
returns g c =
    let v = c.loop-i.invariant in
    record { mesh = v.0 ∙ exchange_end (g.S.ReadingSurface.mesh c.args.store.now) c.args.corners.now c.requires.exchangeable c.requires.whole c.loop-i.i c.loop-i-test.false; room = (v.1, v.2) }
