-- A split that is accepted may be written, and what is written is the mesh after the split.
use Rattle.std.proofs.Common.{◌≡◌, ℕ, ◌+◌, ◌*◌, ◌≤◌, Bool, List, [], ◌++◌, map, length, take, sym, ap, ◌∙◌, subst, arith}
use lib.ListN.{length-map}
use Rattle.std.proofs.Math.Seq.{take-append_seam}
use Rattle.place.specs.Kinds.{Kind}
use Rattle.mesh.specs.Lists.{Mem}
use Rattle.mesh.specs.Triangles.{Tri}
use Rattle.mesh.specs.Sides.{Side}
use Rattle.mesh.specs.Closed.{Closed}
use Rattle.mesh.specs.Meshes.{Mesh, mesh_of, vertex_total, triangle_total}
use Rattle.forest.specs.Trees.{trees}
use Rattle.forest.specs.Numbering.{corner_number, numbers, parents, renamed, unused}
use Rattle.forest.specs.Polygons.{Code}
use Rattle.forest.specs.Splitting.{added_triangles, all_numbers, all_positions, kept_triangles, marked_of, split_parents, split_triangles, split_vertices}
use Rattle.forest.specs.Places.{split_mesh, split_places}
use Rattle.forest.specs.Tables.{key_sides, word_tris}
use Rattle.forest.specs.Theorems.{Accepted, led_back}
use Rattle.forest.proofs.Checking.{marks_edges, planted, sewn_well}
use Rattle.forest.proofs.Forests.{Ready}
use Rattle.forest.proofs.Keeping.{split_keeps}
use Rattle.forest.proofs.Sewn.{in_ours, ours_small}
use Rattle.engine.specs.Writing.{Fitting, Started, Writable}

module _ {P D : Type 0} (k : Kind P D) (vr tr : ℕ) (m : Mesh P) (marks : List Bool) (codes : List Code) (ps ns bs corners added : List ℕ)
    (closed : Closed (vertex_total m) m.triangles) (accepted : Accepted (vertex_total m) m.triangles marks codes)
    (places : key_sides ps ≡ all_positions (vertex_total m) m.triangles (marked_of m.triangles marks))
    (named : ns ≡ all_numbers (vertex_total m) m.triangles (marked_of m.triangles marks))
    (kept : word_tris corners ≡ kept_triangles (vertex_total m) m.triangles (marked_of m.triangles marks))
    (more : word_tris added ≡ added_triangles (vertex_total m) m.triangles (marked_of m.triangles marks) codes)
  where
    abbrev V : ℕ
    V = vertex_total m

    abbrev ts : List Tri
    ts = m.triangles

    abbrev ms : List Side
    ms = marked_of m.triangles marks

    started : Started (vertex_total m) (all_positions (vertex_total m) m.triangles (marked_of m.triangles marks))
    started s h =
        let p = planted V ts marks (length codes) accepted.0 in
        let w = sewn_well V ts marks codes accepted.1 in
        let ready : (k : ℕ) → Mem k (trees V ms) → Ready ts ms k = λ k m. (p.long k m, w.wholes k m) in
        let edges = marks_edges V ts marks closed in
        ours_small V ts ms codes closed edges ready w.coded s (in_ours V ts ms codes closed edges ready w.coded s h)

    front : take (length ts) (split_triangles V ts ms codes) ≡ kept_triangles V ts ms
    front =
        ap (λ n. take n (split_triangles V ts ms codes)) (sym (length-map ts (renamed (corner_number ts ms (trees V ms) (all_numbers V ts ms)))))
        ∙ take-append_seam (kept_triangles V ts ms) (added_triangles V ts ms codes)

    pub accepted_writable : length ps * k.displacement_width ≤ length bs → length corners ≡ 3 * triangle_total m → split_vertices V ts ms ≤ vr → length ts + length (added_triangles V ts ms codes) ≤ tr → Writable k vr tr m ps ns bs corners added
    accepted_writable enough whole vertices triangles =
        let is = split_keeps V ts marks codes closed accepted in
        let l = ap length more in
        record {
          started = subst (λ (ss : List Side). Started V ss) (sym places) started;
          numbered = named ∙ ap (numbers [] V) (sym places);
          enough = enough;
          vertices_fit = subst (λ (ss : List Side). unused [] V ss ≤ vr) (sym places) vertices;
          triangles_fit = omega arith;
          before = closed.fits;
          after = subst (λ (ss : List Side). Fitting (unused [] V ss) (word_tris corners ++ word_tris added)) (sym places) (subst (λ (us : List Tri). Fitting (split_vertices V ts ms) us) (λ j. sym kept j ++ sym more j) is.closed.fits);
          whole = whole;
          led = (λ j. map (led_back V (parents [] (places j))) (kept j)) ∙ (ap (map (led_back V (split_parents V ts ms))) (sym front) ∙ is.old_triangles);
        }

    pub written_mesh : (ds : List D) → mesh_of (word_tris corners ++ word_tris added) (split_places k m.vertices (key_sides ps) ns ds) ≡ split_mesh k m marks codes ds
    written_mesh ds = (λ j. mesh_of (kept j ++ more j) (split_places k m.vertices (places j) (named j) ds))
