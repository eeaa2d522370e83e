use Rattle.std.proofs.Common.{◌≡◌, [], length, refl, ap, ◌∙◌, arith}
use Rattle.std.proofs.lemmas.List.{length-map}
use Rattle.forest.specs.Numbering.{numbers, parents}
use Rattle.forest.specs.Tables.{key_side, key_sides}
use Rattle.forest.proofs.Numbers.{parents_counted, unused_le}
use Rattle.engine.specs.Marking.{marked}
use Rattle.engine.proofs.Laying.{marks_few, parents_le, starts, total, walks}
use Rattle.engine.proofs.sewing.lay_out.Goals as goal

pub walk_loops-requires-clause-positions : goal.walk_loops-requires-clause-positions
walk_loops-requires-clause-positions g c =
    let m = g.S.ReadingSurface.mesh c.args.s.now in
    let f = c.args.forest.now in
    total (length m.vertices) m.triangles f.keys.now f.marks.now f.arounds.now f.roots.now f.mirrors.now c.requires.closed c.requires.standing ∙ (omega arith)

pub returns-clause-positions : goal.returns-clause-positions
returns-clause-positions g c =
    let m = g.S.ReadingSurface.mesh c.args.s.now in
    let f = c.args.forest.now in
    let e : marked c.new-marking.result.keys.now c.new-marking.result.marks.now ≡ marked f.keys.now f.marks.now = rw (c.new-marking.ensures.keys, c.new-marking.ensures.marks) refl in
    c.walk_loops.ensures ∙ walks (length m.vertices) m.triangles f.keys.now f.marks.now f.arounds.now f.roots.now f.mirrors.now c.requires.closed c.requires.standing _ e

pub number_positions-all-requires-clause-within : goal.number_positions-all-requires-clause-within
number_positions-all-requires-clause-within g c =
    let m = g.S.ReadingSurface.mesh c.args.s.now in
    let f = c.args.forest.now in
    let e : marked c.new-marking.result.keys.now c.new-marking.result.marks.now ≡ marked f.keys.now f.marks.now = rw (c.new-marking.ensures.keys, c.new-marking.ensures.marks) refl in
    let p = c.walk_loops.ensures ∙ walks (length m.vertices) m.triangles f.keys.now f.marks.now f.arounds.now f.roots.now f.mirrors.now c.requires.closed c.requires.standing _ e in
    let room = c.requires.seen_room in
    λ k h. let low = starts (length m.vertices) m.triangles f.keys.now f.marks.now f.arounds.now f.roots.now f.mirrors.now c.requires.closed c.requires.standing c.walk_loops.new.positions p k h in omega arith

pub number_positions-all-requires-clause-small : goal.number_positions-all-requires-clause-small
number_positions-all-requires-clause-small g c =
    let m = g.S.ReadingSurface.mesh c.args.s.now in
    let f = c.args.forest.now in
    let few = marks_few (length m.vertices) m.triangles f.keys.now f.marks.now f.arounds.now f.roots.now f.mirrors.now c.requires.closed c.requires.standing in
    let low = (g.S.ReadingSurface.limited c.args.s.now).few_triangles in
    let high = (g.S.ReadingSurface.limited c.args.s.now).few_vertices in
    let long = c.walk_loops.auto.positions in
    let room = c.requires.positions_room in
    let count = c.vertex_count-old.ensures in
    omega arith

pub returns-clause-numbers : goal.returns-clause-numbers
returns-clause-numbers g c =
    let m = g.S.ReadingSurface.mesh c.args.s.now in
    let f = c.args.forest.now in
    let e : marked c.new-marking.result.keys.now c.new-marking.result.marks.now ≡ marked f.keys.now f.marks.now = rw (c.new-marking.ensures.keys, c.new-marking.ensures.marks) refl in
    let p = c.walk_loops.ensures ∙ walks (length m.vertices) m.triangles f.keys.now f.marks.now f.arounds.now f.roots.now f.mirrors.now c.requires.closed c.requires.standing _ e in
    c.number_positions-all.ensures.numbers ∙ (ap (λ n. numbers [] n (key_sides c.walk_loops.new.positions)) c.vertex_count-old.ensures ∙ ap (numbers [] (length m.vertices)) p)

pub returns-clause-parents : goal.returns-clause-parents
returns-clause-parents g c =
    let m = g.S.ReadingSurface.mesh c.args.s.now in
    let f = c.args.forest.now in
    let e : marked c.new-marking.result.keys.now c.new-marking.result.marks.now ≡ marked f.keys.now f.marks.now = rw (c.new-marking.ensures.keys, c.new-marking.ensures.marks) refl in
    let p = c.walk_loops.ensures ∙ walks (length m.vertices) m.triangles f.keys.now f.marks.now f.arounds.now f.roots.now f.mirrors.now c.requires.closed c.requires.standing _ e in
    c.number_positions-all.ensures.parents ∙ ap (parents []) p

pub overflow_sub-result : goal.overflow_sub-result
overflow_sub-result g c =
    let low = unused_le [] c.vertex_count-old.result (key_sides c.walk_loops.new.positions) in
    let is = c.number_positions-all.ensures.value in
    omega arith

pub returns-clause-within : goal.returns-clause-within
returns-clause-within g c =
    let is = c.number_positions-all.ensures.value in
    let more = parents_counted [] c.vertex_count-old.result (key_sides c.walk_loops.new.positions) in
    let few = parents_le [] (key_sides c.walk_loops.new.positions) in
    let count = length-map c.walk_loops.new.positions key_side in
    let room = c.requires.parents_room in
    let long = c.walk_loops.auto.positions in
    omega arith
