-- The triangles of a split, before it is known whether one has a side of another.
use Rattle.std.specs.Prelude.{◌≡◌, ℕ, ◌*◌, Bool, ◌||◌, List, map, length, None}
use Rattle.mesh.specs.Lists.{Apart}
use Rattle.mesh.specs.Triangles.{Tri, tri}
use Rattle.mesh.specs.Sides.{Side, side, sides}
use Rattle.mesh.specs.Closed.{Closed}
use Rattle.mesh.specs.Meshes.{Mesh, vertex_total, triangle_total}
use Rattle.forest.specs.Marks.{has_side}
use Rattle.forest.specs.Trees.{trees}
use Rattle.forest.specs.Polygons.{Code}
use Rattle.forest.specs.Splitting.{marked_of, kept_triangles, added_triangles, split_parents, forest_fault, first_unclosed}
use Rattle.forest.specs.Tables.{word_tris}
use Rattle.forest.specs.Theorems.{led_back}

-- one of the triangle's sides is listed
abbrev pub has_some_side : Tri → List Side → Bool
has_some_side (tri x y z) ss = has_side (side x y) ss || (has_side (side y z) ss || has_side (side z x) ss)

-- three new corners for each triangle of the mesh, which lead back to those that it has; no two triangles of the mesh have a side in common
pub record Leading {P : Type 0} (m : Mesh P) (corners parents : List ℕ) : Type 0 where
  pub whole : length corners ≡ 3 * triangle_total m
  pub led : map (led_back (vertex_total m) parents) (word_tris corners) ≡ m.triangles
  pub once : Apart (sides m.triangles)

-- The triangles `kept` and `added` are those that a split makes of the closed mesh with V vertices and the triangles ts,
-- with the parents ps of the new vertices: its marks have no fault, and its codes fill their polygons.
pub record Sewable (V : ℕ) (ts kept : List Tri) (ps : List ℕ) (added : List Tri) : Type 0 where
  pub marks : List Bool
  pub codes : List Code
  pub code_count : ℕ
  pub closed : Closed V ts
  pub marks_pass : forest_fault V ts marks code_count ≡ None
  pub codes_close : first_unclosed (marked_of ts marks) 0 (trees V (marked_of ts marks)) codes ≡ None
  pub is_kept : kept ≡ kept_triangles V ts (marked_of ts marks)
  pub has_parents : ps ≡ split_parents V ts (marked_of ts marks)
  pub is_added : added ≡ added_triangles V ts (marked_of ts marks) codes
