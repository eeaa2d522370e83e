use Rattle.std.proofs.Common.{◌≡◌, Some, None, length, map, sym, ap, ◌∙◌, arith}
use Rattle.std.specs.Option.{option_map}
use Rattle.fault.specs.declared.fault.Fault.TheVariants.{CodesOffTree}
use Rattle.forest.specs.Trees.{trees}
use Rattle.forest.specs.Splitting.{added_triangles, first_unclosed}
use Rattle.forest.specs.Tables.{unclosed_from}
use Rattle.runs.specs.Parts.{code_of}
use Rattle.engine.specs.Sewing.{marked_in}
use Rattle.engine.proofs.Laying.{coded, codes_few, fills, marks_few, numbers_counted, std_total, total, trees_few, unclosed}
use Rattle.engine.proofs.sewing.fill.Goals as goal

pub first_unclosed-requires-clause-trees : goal.first_unclosed-requires-clause-trees
first_unclosed-requires-clause-trees g c =
    let m = g.S.ReadingSurface.mesh c.args.s.now in
    let f = c.args.forest.now in
    let a = trees_few (length m.vertices) m.triangles f.keys.now f.marks.now f.arounds.now f.roots.now f.mirrors.now c.requires.closed c.requires.standing in
    let b = (g.S.ReadingSurface.limited c.args.s.now).few_vertices in
    omega arith

pub first_unclosed-requires-clause-codes : goal.first_unclosed-requires-clause-codes
first_unclosed-requires-clause-codes g c =
    let m = g.S.ReadingSurface.mesh c.args.s.now in
    let f = c.args.forest.now in
    let a = codes_few (length m.vertices) m.triangles f.keys.now f.marks.now f.arounds.now f.roots.now f.mirrors.now c.requires.closed c.requires.standing _ c.requires.sound in
    let b = (g.S.ReadingSurface.limited c.args.s.now).few_triangles in
    let r = c.requires.codes_room in
    let l = c.set_codes.auto.codes in
    omega arith

pub returns-in-Some-clause-fault : goal.returns-in-Some-clause-fault
returns-in-Some-clause-fault g c =
    let m = g.S.ReadingSurface.mesh c.args.s.now in
    let f = c.args.forest.now in
    let e : Some c.in-Some.tree ≡ unclosed_from 0 f.arounds.now (map code_of c.set_codes.new.codes) = c.in-Some.ensures in
    ap (option_map CodesOffTree) (e ∙ (unclosed (length m.vertices) m.triangles f.keys.now f.marks.now f.arounds.now f.roots.now f.mirrors.now c.requires.closed c.requires.standing (map code_of c.set_codes.new.codes)
    ∙ ap (λ ns. first_unclosed (marked_in m.triangles f.marks.now) 0 (trees (length m.vertices) (marked_in m.triangles f.marks.now)) (map code_of ns)) c.set_codes.ensures))

pub fill_polygons-requires-clause-few : goal.fill_polygons-requires-clause-few
fill_polygons-requires-clause-few g c =
    let m = g.S.ReadingSurface.mesh c.args.s.now in
    let f = c.args.forest.now in
    let a = numbers_counted (length m.vertices) m.triangles f.keys.now f.marks.now f.arounds.now f.roots.now f.mirrors.now c.requires.closed c.requires.standing c.args.numbers.now c.requires.numbers in
    let t = total (length m.vertices) m.triangles f.keys.now f.marks.now f.arounds.now f.roots.now f.mirrors.now c.requires.closed c.requires.standing in
    let few = marks_few (length m.vertices) m.triangles f.keys.now f.marks.now f.arounds.now f.roots.now f.mirrors.now c.requires.closed c.requires.standing in
    let b = (g.S.ReadingSurface.limited c.args.s.now).few_triangles in
    omega arith

pub fill_polygons-requires-clause-numbered : goal.fill_polygons-requires-clause-numbered
fill_polygons-requires-clause-numbered g c =
    let m = g.S.ReadingSurface.mesh c.args.s.now in
    let f = c.args.forest.now in
    let a = numbers_counted (length m.vertices) m.triangles f.keys.now f.marks.now f.arounds.now f.roots.now f.mirrors.now c.requires.closed c.requires.standing c.args.numbers.now c.requires.numbers in
    let t = std_total (length m.vertices) m.triangles f.keys.now f.marks.now f.arounds.now f.roots.now f.mirrors.now c.requires.closed c.requires.standing in
    omega arith

pub fill_polygons-requires-clause-coded : goal.fill_polygons-requires-clause-coded
fill_polygons-requires-clause-coded g c =
    let m = g.S.ReadingSurface.mesh c.args.s.now in
    let f = c.args.forest.now in
    coded (length m.vertices) m.triangles f.keys.now f.marks.now f.arounds.now f.roots.now f.mirrors.now c.requires.closed c.requires.standing _ c.requires.sound ∙ (sym c.requires.codes_room ∙ sym c.set_codes.auto.codes)

pub returns-clause-fault : goal.returns-clause-fault
returns-clause-fault g c =
    let m = g.S.ReadingSurface.mesh c.args.s.now in
    let f = c.args.forest.now in
    let e : None ≡ unclosed_from 0 f.arounds.now (map code_of c.set_codes.new.codes) = c.in_default.ensures in
    ap (option_map CodesOffTree) (e ∙ (unclosed (length m.vertices) m.triangles f.keys.now f.marks.now f.arounds.now f.roots.now f.mirrors.now c.requires.closed c.requires.standing (map code_of c.set_codes.new.codes)
    ∙ ap (λ ns. first_unclosed (marked_in m.triangles f.marks.now) 0 (trees (length m.vertices) (marked_in m.triangles f.marks.now)) (map code_of ns)) c.set_codes.ensures))

pub returns-clause-filled : goal.returns-clause-filled
returns-clause-filled g c =
    let m = g.S.ReadingSurface.mesh c.args.s.now in
    let f = c.args.forest.now in
    c.fill_polygons.ensures
    ∙ (fills (length m.vertices) m.triangles f.keys.now f.marks.now f.arounds.now f.roots.now f.mirrors.now c.requires.closed c.requires.standing c.args.numbers.now (map code_of c.set_codes.new.codes) c.requires.numbers
    ∙ ap (λ ns. added_triangles (length m.vertices) m.triangles (marked_in m.triangles f.marks.now) (map code_of ns)) c.set_codes.ensures)
