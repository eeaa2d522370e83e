-- The survey of an index into which a surface was copied.
use Rattle.std.proofs.Common.{◌≡◌, ℕ, ◌≤◌, List, [], Some, None, true, ap, ◌∙◌}
use borrow.Author.Tests.{not-false}
use Rattle.std.specs.List.{slice_get}
use Rattle.std.proofs.lemmas.Bool.{and_parts}
use Rattle.mesh.specs.Triangles.{Tri}
use Rattle.mesh.specs.Meshes.{Mesh, mesh_of, vertex_total, triangle_total}
use Rattle.mesh.specs.Growth.{all_below, different}
use Rattle.mesh.specs.Copies.{copied}
use Rattle.mesh.proofs.Copied.{Fitting, copied_triangles, copied_total}
use Rattle.mesh.proofs.Firsts.{all_none}
use Rattle.survey.specs.Checks.{bad_one, first_bad}
use Rattle.survey.specs.Survey.{surveyed}

both_good : (V : ℕ) (ts : List Tri) → first_bad V ts ≡ None → (i : ℕ) (t : Tri) → slice_get ts i ≡ Some t → (all_below V t ≡ true) × (different t ≡ true)
unfolding first_bad
both_good V ts e i t h = and_parts (all_below V t) (different t) (not-false _ (all_none (λ i o. bad_one V o) ts e i t h))

module _ {P : Type 0} (vertex_room triangle_room : ℕ) (m : Mesh P) where
  -- a store with room for a surface without bad corners takes its triangles
  pub good_fitting : first_bad (vertex_total m) m.triangles ≡ None → vertex_total m ≤ vertex_room → triangle_total m ≤ triangle_room → Fitting vertex_room triangle_room m
  good_fitting e v t = record {
    few_vertices = v;
    few_triangles = t;
    corners_below = λ i x h. (both_good (vertex_total m) m.triangles e i x h).0;
    corners_differ = λ i x h. (both_good (vertex_total m) m.triangles e i x h).1;
  }

  -- and is surveyed as the surface is
  pub index_surveyed : (before after : Mesh P) → Fitting vertex_room triangle_room m → before ≡ mesh_of [] [] → after ≡ copied vertex_room triangle_room m before → surveyed (vertex_total after) after.triangles ≡ surveyed (vertex_total m) m.triangles
  index_surveyed before after c empty copy =
      let e = copy ∙ ap (copied vertex_room triangle_room m) empty in
      ap (λ (s : Mesh P). surveyed (vertex_total s) s.triangles) e ∙ (λ i. surveyed (copied_total vertex_room triangle_room m c i) (copied_triangles vertex_room triangle_room m c i))
