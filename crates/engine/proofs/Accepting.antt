-- What a split call leaves where no check refuses it.
use Rattle.std.proofs.Common.{◌≡◌, ℕ, ◌*◌, ◌/◌, eqb, List, ◌++◌, length, None, ap, ◌∙◌, arith, eqb-true, length-append}
use Rattle.std.proofs.lemmas.Bool.{and_parts}
use lib.ListN.{length-map}
use Rattle.fault.specs.declared.fault.Fault.TheVariants.{StoreNotOfJob}
use Rattle.fault.proofs.Orders.{test_passed}
use Rattle.place.specs.Kinds.{Kind, Lawful}
use Rattle.mesh.specs.Closed.{Closed}
use Rattle.mesh.specs.Meshes.{Mesh, mesh_of, vertex_total, triangle_total}
use Rattle.mesh.proofs.Counting.{edges_counted}
use Rattle.record.specs.Parts.{displacements_of}
use Rattle.forest.specs.Numbering.{renamed, corner_number}
use Rattle.forest.specs.Trees.{trees}
use Rattle.forest.specs.Splitting.{marked_of, all_positions, all_numbers, kept_triangles, added_triangles}
use Rattle.forest.specs.Tables.{key_sides, word_tris}
use Rattle.forest.specs.Places.{split_places}
use Rattle.forest.proofs.Keeping.{split_keeps}
use Rattle.runs.specs.Parts.{record_marks, record_codes, displacements_read, record_displacements}
use Rattle.runs.specs.Outcome.{edge_total, edges_marked, trees_formed, mesh_made, record_fault}
use Rattle.runs.specs.Splits.{SplitKept}
use Rattle.runs.proofs.Parts.{marked_counted}
use Rattle.runs.proofs.Splits.{Passed, passed, split_kept}
use Rattle.engine.specs.Calls.{expected_fault}
use Rattle.engine.specs.Stages.{Sewn}
use Rattle.engine.specs.Writing.{Writable}
use Rattle.engine.proofs.Finishing.{accepted, positions_counted, bytes_there}
use Rattle.engine.proofs.Meeting.{accepted_writable, written_mesh}

-- where the triangles are as many as expected, three for two of them are the edges
pub edges_expected : {P : Type 0} (m : Mesh P) (V T : ℕ) → Closed (vertex_total m) m.triangles → expected_fault m V T ≡ None → 3 * T / 2 ≡ edge_total m
edges_expected m V T closed e =
    let p = and_parts (eqb (vertex_total m) V) (eqb (triangle_total m) T) (test_passed _ StoreNotOfJob e) in
    let t = eqb-true (triangle_total m) T p.1 in
    let h = edges_counted (vertex_total m) m.triangles closed in omega arith

module _ {P D : Type 0} (k : Kind P D) (law : Lawful k) (vr tr : ℕ) (m : Mesh P) (bs : List ℕ) (c : Closed (vertex_total m) m.triangles) (fine : record_fault k vr tr m bs ≡ None) where
  p : Passed k vr tr m bs
  p = passed k vr tr m bs fine

  pub kept : SplitKept vr tr m (edges_marked m bs) (trees_formed m bs) (mesh_made k m bs)
  kept = split_kept k law vr tr m bs c p

  -- three for two triangles are the edges afterwards
  pub edges_after : (n : ℕ) → n ≡ triangle_total (mesh_made k m bs) → 3 * n / 2 ≡ edge_total (mesh_made k m bs)
  edges_after n e = let h = edges_counted (vertex_total (mesh_made k m bs)) (mesh_made k m bs).triangles kept.closed in omega arith

  module _ (n : ℕ) (e : n ≡ edge_total m) (ps ns corners added : List ℕ) (w : Sewn (vertex_total m) m.triangles (marked_of m.triangles (record_marks bs n)) (record_codes bs n) ps ns corners added) where
    places : key_sides ps ≡ all_positions (vertex_total m) m.triangles (marked_of m.triangles (record_marks bs (edge_total m)))
    places = w.positions_told ∙ ap (λ (x : ℕ). all_positions (vertex_total m) m.triangles (marked_of m.triangles (record_marks bs x))) e

    named : ns ≡ all_numbers (vertex_total m) m.triangles (marked_of m.triangles (record_marks bs (edge_total m)))
    named = w.numbers_told ∙ ap (λ (x : ℕ). all_numbers (vertex_total m) m.triangles (marked_of m.triangles (record_marks bs x))) e

    old : word_tris corners ≡ kept_triangles (vertex_total m) m.triangles (marked_of m.triangles (record_marks bs (edge_total m)))
    old = w.corners_told ∙ ap (λ (x : ℕ). kept_triangles (vertex_total m) m.triangles (marked_of m.triangles (record_marks bs x))) e

    more : word_tris added ≡ added_triangles (vertex_total m) m.triangles (marked_of m.triangles (record_marks bs (edge_total m))) (record_codes bs (edge_total m))
    more = w.added_told ∙ ap (λ (x : ℕ). added_triangles (vertex_total m) m.triangles (marked_of m.triangles (record_marks bs x)) (record_codes bs x)) e

    pub writable : Writable k vr tr m ps ns (displacements_of bs n) corners added
    writable =
        let marks = record_marks bs (edge_total m) in
        let codes = record_codes bs (edge_total m) in
        let acc = accepted k m bs c p.marks p.codes in
        let is = split_keeps (vertex_total m) m.triangles marks codes c acc in
        let v = is.vertices in
        let t = is.triangles in
        let f = marked_counted m.triangles bs in
        let l = length-append (kept_triangles (vertex_total m) m.triangles (marked_of m.triangles marks)) (added_triangles (vertex_total m) m.triangles (marked_of m.triangles marks) codes) in
        let ms = marked_of m.triangles marks in
        let lk : length (kept_triangles (vertex_total m) m.triangles ms) ≡ length m.triangles = length-map m.triangles (renamed (corner_number m.triangles ms (trees (vertex_total m) ms) (all_numbers (vertex_total m) m.triangles ms))) in
        let pv = p.vertices in
        let pt = p.triangles in
        accepted_writable k vr tr m marks codes ps ns (displacements_of bs n) corners added c acc places named old more
        (bytes_there k m bs c p.marks p.codes ps ns places named n e p.size) w.whole (omega arith) (omega arith)

    pub made : mesh_of (word_tris corners ++ word_tris added) (split_places k m.vertices (key_sides ps) ns (displacements_read k (length ps) (displacements_of bs n))) ≡ mesh_made k m bs
    made =
        let marks = record_marks bs (edge_total m) in
        let codes = record_codes bs (edge_total m) in
        (λ i. mesh_of (word_tris corners ++ word_tris added) (split_places k m.vertices (key_sides ps) ns (displacements_read k (positions_counted k m bs c p.marks p.codes ps ns places named i) (displacements_of bs (e i)))))
        ∙ written_mesh k vr tr m marks codes ps ns (displacements_of bs n) corners added c (accepted k m bs c p.marks p.codes) places named old more (record_displacements k bs (edge_total m))
