-- What an accepted record's positions are, as the tables hold them.
use Rattle.std.proofs.Common.{◌≡◌, ℕ, ◌*◌, ◌≤◌, List, length, None, ap, ◌∙◌, arith, eqb-true, length-drop}
use lib.ListN.{length-map}
use Rattle.fault.specs.declared.fault.Fault.TheVariants.{RecordSize}
use Rattle.fault.proofs.Orders.{test_passed}
use Rattle.place.specs.Kinds.{Kind}
use Rattle.mesh.specs.Sides.{Side}
use Rattle.mesh.specs.Closed.{Closed}
use Rattle.mesh.specs.Meshes.{Mesh, vertex_total}
use Rattle.record.specs.Parts.{displacements_from, displacements_of, set_count, due_size}
use Rattle.record.specs.Checks.{size_fault}
use Rattle.forest.specs.Splitting.{marked_of, all_positions, all_numbers, split_vertices, split_parents, forest_fault}
use Rattle.forest.specs.Tables.{key_side, key_sides}
use Rattle.forest.specs.Theorems.{Accepted, Placed}
use Rattle.forest.specs.Places.{first_refused}
use Rattle.forest.proofs.Keeping.{positions_numbered}
use Rattle.runs.specs.Parts.{record_marks, record_codes, displacements_read, record_displacements}
use Rattle.runs.specs.Outcome.{edge_total, marks_fault, codes_fault}
use Rattle.runs.proofs.Parts.{marked_counted, codes_counted}

module _ {P D : Type 0} (k : Kind P D) (m : Mesh P) (bs : List ℕ) (c : Closed (vertex_total m) m.triangles) (marks : marks_fault m bs ≡ None) (codes : codes_fault m bs ≡ None) where
  abbrev ms : List Side
  ms = marked_of m.triangles (record_marks bs (edge_total m))

  pub accepted : Accepted (vertex_total m) m.triangles (record_marks bs (edge_total m)) (record_codes bs (edge_total m))
  accepted = (ap (forest_fault (vertex_total m) m.triangles (record_marks bs (edge_total m))) (codes_counted bs (edge_total m)) ∙ marks, codes)

  pub placed : Placed (vertex_total m) ms (split_vertices (vertex_total m) m.triangles ms) (split_parents (vertex_total m) m.triangles ms) (all_positions (vertex_total m) m.triangles ms) (all_numbers (vertex_total m) m.triangles ms)
  placed = positions_numbered (vertex_total m) m.triangles (record_marks bs (edge_total m)) (record_codes bs (edge_total m)) c accepted

  module _ (ps ns : List ℕ) (p : key_sides ps ≡ all_positions (vertex_total m) m.triangles ms) (n : ns ≡ all_numbers (vertex_total m) m.triangles ms) where
    -- as many positions as displacements
    pub positions_counted : length ps ≡ 2 * set_count bs (edge_total m)
    positions_counted =
        let a = length-map ps key_side in
        let b = ap length p in
        let d = placed.count in
        let e = marked_counted m.triangles bs in omega arith

    pub numbers_counted : length ns ≡ length ps
    numbers_counted =
        let a = length-map ps key_side in
        let b = ap length p in
        let d = ap length n in
        let e = placed.numbered in omega arith

    -- their bytes are there
    pub bytes_there : (n : ℕ) → n ≡ edge_total m → size_fault k bs (edge_total m) ≡ None → length ps * k.displacement_width ≤ length (displacements_of bs n)
    bytes_there x e size =
        let s = eqb-true (length bs) (due_size k bs (edge_total m)) (test_passed _ RecordSize size) in
        let l = length-drop (displacements_from bs (edge_total m)) bs in
        let q = ap (λ (y : ℕ). length (displacements_of bs y)) e in
        let r = ap (λ (y : ℕ). y * k.displacement_width) positions_counted in omega arith

    -- the first refused place, as the tables tell it
    pub refused_told : (n : ℕ) → n ≡ edge_total m → first_refused k m.vertices (key_sides ps) ns (displacements_read k (length ps) (displacements_of bs n))
        ≡ first_refused k m.vertices (all_positions (vertex_total m) m.triangles ms) (all_numbers (vertex_total m) m.triangles ms) (record_displacements k bs (edge_total m))
    refused_told x e i =
        first_refused k m.vertices (p i) (n i) (displacements_read k (positions_counted i) (displacements_of bs (e i)))
