use Rattle.std.proofs.Common.{false, true, sym, ◌∙◌}
use Rattle.engine.proofs.Displacing.{refused_test}
use Rattle.engine.proofs.places.first_refused.Goals as goal

pub returns-then-is_none : goal.returns-then-is_none
returns-then-is_none g c =
    let w = c.DISPLACEMENT_WIDTH.ensures ∙ g.met.P.Place.constant.displacement_width_told in
    let t = refused_test g.P.Place.kind g.met.P.Place.lawful (g.S.ReadingSurface.mesh c.args.s.now).vertices c.args.positions.now c.args.numbers.now c.args.displacements.now c.loop-i.i c.DISPLACEMENT_WIDTH.result c.displaced.result false
    c.requires.numbered c.requires.enough c.loop-i-test.true w c.displaced.ensures c.if-is_none.ensures in
    sym t ∙ c.loop-i.invariant

pub loop-i-preserved : goal.loop-i-preserved
loop-i-preserved g c =
    let w = c.DISPLACEMENT_WIDTH.ensures ∙ g.met.P.Place.constant.displacement_width_told in
    let t = refused_test g.P.Place.kind g.met.P.Place.lawful (g.S.ReadingSurface.mesh c.args.s.now).vertices c.args.positions.now c.args.numbers.now c.args.displacements.now c.loop-i.i c.DISPLACEMENT_WIDTH.result c.displaced.result true
    c.requires.numbered c.requires.enough c.loop-i-test.true w c.displaced.ensures c.if-is_none.ensures in
    sym t ∙ c.loop-i.invariant
