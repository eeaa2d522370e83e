use Rattle.std.proofs.Common.{ℕ, length, sym, ap, ◌∙◌, arith, rules}
use Rattle.mesh.specs.Meshes.{vertex_total}
use Rattle.forest.specs.Splitting.{marked_of, all_positions, all_numbers}
use Rattle.forest.specs.Places.{first_refused}
use Rattle.forest.specs.Tables.{key_sides}
use Rattle.runs.specs.Parts.{record_marks, displacements_read}
use Rattle.engine.proofs.Finishing.{numbers_counted, bytes_there, refused_told}
use Rattle.engine.proofs.record_checks.check_places.Goals as goal

pub first_refused-refused-requires-clause-numbered : goal.first_refused-refused-requires-clause-numbered
first_refused-refused-requires-clause-numbered g c =
    let k = g.P.Place.kind in
    let m = g.S.ReadingSurface.mesh c.args.s.now in
    let bs = c.args.from.now.bytes.now in
    let x = c.args.from.now.edges in
    let e = c.requires.edges in
    let w = c.args.sewing.now in
    let r = c.requires in
    let p = r.sewn.positions_told ∙ ap (λ (y : ℕ). all_positions (vertex_total m) m.triangles (marked_of m.triangles (record_marks bs y))) e in
    let n = r.sewn.numbers_told ∙ ap (λ (y : ℕ). all_numbers (vertex_total m) m.triangles (marked_of m.triangles (record_marks bs y))) e in
    numbers_counted k m bs r.closed r.marks r.codes w.positions.now w.numbers.now p n

pub first_refused-refused-requires-clause-enough : goal.first_refused-refused-requires-clause-enough
first_refused-refused-requires-clause-enough g c =
    let k = g.P.Place.kind in
    let m = g.S.ReadingSurface.mesh c.args.s.now in
    let bs = c.args.from.now.bytes.now in
    let x = c.args.from.now.edges in
    let e = c.requires.edges in
    let w = c.args.sewing.now in
    let r = c.requires in
    let p = r.sewn.positions_told ∙ ap (λ (y : ℕ). all_positions (vertex_total m) m.triangles (marked_of m.triangles (record_marks bs y))) e in
    let n = r.sewn.numbers_told ∙ ap (λ (y : ℕ). all_numbers (vertex_total m) m.triangles (marked_of m.triangles (record_marks bs y))) e in
    let h = bytes_there k m bs r.closed r.marks r.codes w.positions.now w.numbers.now p n x e r.size in
    let d = ap length c.displacements.ensures in omega arith

pub returns-in-Some : goal.returns-in-Some
returns-in-Some g c =
    let k = g.P.Place.kind in
    let m = g.S.ReadingSurface.mesh c.args.s.now in
    let bs = c.args.from.now.bytes.now in
    let x = c.args.from.now.edges in
    let e = c.requires.edges in
    let w = c.args.sewing.now in
    let r = c.requires in
    let p = r.sewn.positions_told ∙ ap (λ (y : ℕ). all_positions (vertex_total m) m.triangles (marked_of m.triangles (record_marks bs y))) e in
    let n = r.sewn.numbers_told ∙ ap (λ (y : ℕ). all_numbers (vertex_total m) m.triangles (marked_of m.triangles (record_marks bs y))) e in
    let f = c.first_refused-refused.ensures ∙ ap (λ ds. first_refused k m.vertices (key_sides w.positions.now) w.numbers.now (displacements_read k (length w.positions.now) ds)) c.displacements.ensures
    ∙ refused_told k m bs r.closed r.marks r.codes w.positions.now w.numbers.now p n x e in
    let s = sym c.in-Some.is ∙ f in search (rules, s)

pub returns : goal.returns
returns g c =
    let k = g.P.Place.kind in
    let m = g.S.ReadingSurface.mesh c.args.s.now in
    let bs = c.args.from.now.bytes.now in
    let x = c.args.from.now.edges in
    let e = c.requires.edges in
    let w = c.args.sewing.now in
    let r = c.requires in
    let p = r.sewn.positions_told ∙ ap (λ (y : ℕ). all_positions (vertex_total m) m.triangles (marked_of m.triangles (record_marks bs y))) e in
    let n = r.sewn.numbers_told ∙ ap (λ (y : ℕ). all_numbers (vertex_total m) m.triangles (marked_of m.triangles (record_marks bs y))) e in
    let f = c.first_refused-refused.ensures ∙ ap (λ ds. first_refused k m.vertices (key_sides w.positions.now) w.numbers.now (displacements_read k (length w.positions.now) ds)) c.displacements.ensures
    ∙ refused_told k m bs r.closed r.marks r.codes w.positions.now w.numbers.now p n x e in
    let s = sym c.in_default.is ∙ f in search (rules, s)
