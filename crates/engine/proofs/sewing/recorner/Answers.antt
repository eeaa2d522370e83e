use Rattle.std.proofs.Common.{◌≡◌, length, refl, ◌∙◌}
use Rattle.engine.specs.Marking.{marked}
use Rattle.engine.proofs.Laying.{counted, numbers_counted, renumbers}
use Rattle.engine.proofs.sewing.recorner.Goals as goal

pub renumber_corners-requires-clause-positions : goal.renumber_corners-requires-clause-positions
renumber_corners-requires-clause-positions g c =
    let m = g.S.ReadingSurface.mesh c.args.s.now in
    let f = c.args.forest.now in
    counted (length m.vertices) m.triangles f.keys.now f.marks.now f.arounds.now f.roots.now f.mirrors.now c.requires.closed c.requires.standing c.args.positions.now c.requires.positions

pub renumber_corners-requires-clause-numbers : goal.renumber_corners-requires-clause-numbers
renumber_corners-requires-clause-numbers g c =
    let m = g.S.ReadingSurface.mesh c.args.s.now in
    let f = c.args.forest.now in
    numbers_counted (length m.vertices) m.triangles f.keys.now f.marks.now f.arounds.now f.roots.now f.mirrors.now c.requires.closed c.requires.standing c.args.numbers.now c.requires.numbers
    ∙ counted (length m.vertices) m.triangles f.keys.now f.marks.now f.arounds.now f.roots.now f.mirrors.now c.requires.closed c.requires.standing c.args.positions.now c.requires.positions

pub returns : goal.returns
returns g c =
    let m = g.S.ReadingSurface.mesh c.args.s.now in
    let f = c.args.forest.now in
    let e : marked c.new-marking.result.keys.now c.new-marking.result.marks.now ≡ marked f.keys.now f.marks.now = rw (c.new-marking.ensures.keys, c.new-marking.ensures.marks) refl in
    c.renumber_corners.ensures
    ∙ renumbers (length m.vertices) m.triangles f.keys.now f.marks.now f.arounds.now f.roots.now f.mirrors.now c.requires.closed c.requires.standing _ c.args.positions.now c.args.numbers.now e c.requires.positions c.requires.numbers
