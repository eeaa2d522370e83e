-- An accepted split keeps the mesh.
use Rattle.std.proofs.Common.{◌≡◌, ℕ, ◌+◌, ◌-◌, ◌*◌, ◌≤◌, Bool, cond, List, [], ◌∷◌, ◌++◌, map, length, take, is_some, Some, None, Option, sym, refl, ap, ◌∙◌, subst, arith, leb-true}
use lib.ListN.{length-map}
use Rattle.fault.specs.declared.fault.Fault.{Fault}
use Rattle.fault.specs.declared.fault.Fault.TheVariants.{StoreNotClosed, VertexCapacity, TriangleCapacity}
use Rattle.fault.proofs.Orders.{or_none, test_passed}
use Rattle.place.specs.Kinds.{Kind, Lawful}
use Rattle.mesh.specs.Lists.{Mem, now, later}
use Rattle.mesh.specs.Triangles.{Tri}
use Rattle.mesh.specs.Sides.{Side}
use Rattle.mesh.specs.Closed.{Closed}
use Rattle.mesh.specs.Meshes.{Mesh, vertex_total, triangle_total, parents}
use Rattle.mesh.proofs.Tests.{none_some}
use Rattle.mesh.proofs.Counting.{edges_counted}
use Rattle.survey.specs.Survey.{survey_fault}
use Rattle.survey.specs.Theorems.{ClosedInLimits}
use Rattle.survey.proofs.Exact.{survey_closed}
use Rattle.record.specs.Checks.{head_fault, size_fault, code_bits_fault}
use Rattle.forest.specs.Polygons.{Code}
use Rattle.forest.specs.Trees.{trees, tree_edges}
use Rattle.forest.specs.Splitting.{marked_of, forest_fault, split_vertices, split_parents, split_triangles}
use Rattle.forest.specs.Theorems.{Accepted, Kept, followed, sum}
use Rattle.forest.proofs.Checking.{planted, marks_small}
use Rattle.forest.proofs.Means.{trees_summed}
use Rattle.forest.proofs.Keeping.{split_keeps}
use Rattle.forest.proofs.Placing.{places_moved}
use Rattle.forest.proofs.Following.{triangles_follow}
use Rattle.runs.specs.Parts.{record_marks, record_codes, record_displacements}
use Rattle.runs.specs.Outcome.{edge_total, edges_marked, trees_formed, mesh_made, table_fault, closed_fault, job_fault, marks_fault, vertex_room_fault, triangle_room_fault, codes_fault, displacements_fault, record_fault}
use Rattle.runs.specs.Splits.{SplitKept, SplitOutcomeKeeps}
use Rattle.runs.proofs.Parts.{marked_counted, codes_counted, displacements_counted}
use Rattle.runs.proofs.Figures.{figures_agree}

-- what the checks of an accepted record say
pub record Passed {P D : Type 0} (k : Kind P D) (vertex_room triangle_room : ℕ) (m : Mesh P) (bs : List ℕ) : Type 0 where
  pub marks : marks_fault m bs ≡ None
  pub size : size_fault k bs (edge_total m) ≡ None
  pub vertices : vertex_total m + edges_marked m bs - trees_formed m bs ≤ vertex_room
  pub triangles : triangle_total m + 2 * edges_marked m bs - 2 * trees_formed m bs ≤ triangle_room
  pub codes : codes_fault m bs ≡ None
  pub places : displacements_fault k m bs ≡ None

pub passed : {P D : Type 0} (k : Kind P D) (vertex_room triangle_room : ℕ) (m : Mesh P) (bs : List ℕ) → record_fault k vertex_room triangle_room m bs ≡ None → Passed k vertex_room triangle_room m bs
passed k vr tr m bs e =
    let a = or_none (head_fault k bs (edge_total m)) _ e in
    let b = or_none (marks_fault m bs) _ a.1 in
    let c = or_none (size_fault k bs (edge_total m)) _ b.1 in
    let d = or_none (vertex_room_fault vr m bs) _ c.1 in
    let f = or_none (triangle_room_fault tr m bs) _ d.1 in
    let g = or_none (code_bits_fault bs (edge_total m)) _ f.1 in
    let h = or_none (codes_fault m bs) _ g.1 in
    record {
      marks = b.0;
      size = c.0;
      vertices = leb-true _ vr (test_passed _ VertexCapacity d.0);
      triangles = leb-true _ tr (test_passed _ TriangleCapacity f.0);
      codes = h.0;
      places = h.1;
    }

-- a store that passes is closed, and within the limits
pub passed_closed : {P : Type 0} (m : Mesh P) → closed_fault m ≡ None → ClosedInLimits (vertex_total m) m.triangles
passed_closed m e = survey_closed (vertex_total m) m.triangles (go (survey_fault (vertex_total m) m.triangles) e)
  where
    go : (o : Option Fault) → cond (is_some o) (Some StoreNotClosed) None ≡ None → o ≡ None
    go None i = refl
    go (Some f) i = none_some (sym i)

-- a sum of numbers that are two at least
two_each : (f : ℕ → ℕ) (ks : List ℕ) → ((k : ℕ) → Mem k ks → 2 ≤ f k) → 2 * length ks ≤ sum (map f ks)
two_each f [] h = omega arith
two_each f (k ∷ ks) h = let a = h k now in let b = two_each f ks (λ i l. h i (later l)) in omega arith

-- the trees are half the marked edges at most
pub half_trees : (V : ℕ) (ts : List Tri) (bs : List Bool) (n : ℕ) → Closed V ts → forest_fault V ts bs n ≡ None → 2 * length (trees V (marked_of ts bs)) ≤ length (marked_of ts bs)
half_trees V ts bs n closed e =
    let p = planted V ts bs n e in
    let ms = marked_of ts bs in
    let a = two_each (λ k. length (tree_edges ms k)) (trees V ms) p.long in
    let b = trees_summed V ms (λ s l. (marks_small V ts bs closed s l).0) in
    omega arith

module _ {P D : Type 0} (k : Kind P D) (law : Lawful k) (vertex_room triangle_room : ℕ) (m : Mesh P) (bs : List ℕ) (c : Closed (vertex_total m) m.triangles) (p : Passed k vertex_room triangle_room m bs) where
  abbrev V : ℕ
  V = vertex_total m

  abbrev ts : List Tri
  ts = m.triangles

  abbrev marks : List Bool
  marks = record_marks bs (edge_total m)

  abbrev codes : List Code
  codes = record_codes bs (edge_total m)

  abbrev ds : List D
  ds = record_displacements k bs (edge_total m)

  abbrev ms : List Side
  ms = marked_of ts marks

  forest_passes : forest_fault V ts marks (length codes) ≡ None
  forest_passes = ap (forest_fault V ts marks) (codes_counted bs (edge_total m)) ∙ p.marks

  accepted : Accepted V ts marks codes
  accepted = (forest_passes, p.codes)

  counted : length ms ≡ edges_marked m bs
  counted = marked_counted ts bs

  kept : Kept V ts (length ms) (length (trees V ms)) (split_vertices V ts ms) (split_parents V ts ms) (split_triangles V ts ms codes)
  kept = split_keeps V ts marks codes c accepted

  full : length ds ≡ 2 * length ms
  full = let a = displacements_counted k law bs (edge_total m) p.size in let b = counted in omega arith

  there : vertex_total (mesh_made k m bs) ≡ split_vertices V ts ms
  there = (places_moved k m marks codes ds c accepted full p.places).count

  old : parents (mesh_made k m bs) ≡ parents m ++ split_parents V ts ms
  old = (places_moved k m marks codes ds c accepted full p.places).parents

  closed_after : Closed (vertex_total (mesh_made k m bs)) (mesh_made k m bs).triangles
  closed_after = subst (λ (n : ℕ). Closed n (split_triangles V ts ms codes)) (sym there) kept.closed

  pub split_kept : SplitKept vertex_room triangle_room m (edges_marked m bs) (trees_formed m bs) (mesh_made k m bs)
  split_kept =
      let a = kept.vertices in
      let b = kept.triangles in
      let n = counted in
      let w = there in
      let v = p.vertices in
      let t = p.triangles in
      let x = kept.euler in
      record {
        was_closed = c;
        closed = closed_after;
        vertices = omega arith;
        triangles = omega arith;
        edges =
            let y = edges_counted V ts c in let z = edges_counted (vertex_total (mesh_made k m bs)) (mesh_made k m bs).triangles closed_after in omega arith;
        half = let h = half_trees V ts marks (length codes) c forest_passes in omega arith;
        figure = figures_agree (vertex_total (mesh_made k m bs)) (edge_total (mesh_made k m bs)) (triangle_total (mesh_made k m bs)) (vertex_total m) (edge_total m) (triangle_total m) (omega arith);
        vertices_fit = omega arith;
        triangles_fit = omega arith;
        new_parents = split_parents V ts ms;
        old_parents = old;
        from_old = kept.old_parents;
        old_triangles =
            ap (λ (qs : List ℕ). map (followed qs) (take (length ts) (split_triangles V ts ms codes))) old
            ∙ triangles_follow V ts marks codes (parents m) c accepted (length-map m.vertices (λ x. x.parent));
      }

pub split_outcome_keeps : {P D : Type 0} (k : Kind P D) → Lawful k → SplitOutcomeKeeps k
split_outcome_keeps k law vr tr table m n bs e =
    let a = or_none (table_fault vr tr table) _ e in
    let b = or_none (closed_fault m) _ a.1 in
    let d = or_none (job_fault m n) _ b.1 in
    split_kept k law vr tr m bs (passed_closed m b.0).closed (passed k vr tr m bs d.1)
