-- A split as it is written into a store, pass by pass.
use Rattle.std.specs.Prelude.{◌≡◌, ℕ, ◌+◌, ◌*◌, ◌<◌, ◌≤◌, cond, List, [], ◌++◌, map, length, ◌≢◌, nat_lt}
use Rattle.place.specs.Kinds.{Kind}
use Rattle.mesh.specs.Lists.{Mem}
use Rattle.mesh.specs.Triangles.{Tri}
use Rattle.mesh.specs.Sides.{Side}
use Rattle.mesh.specs.Rings.{Link}
use Rattle.mesh.specs.Meshes.{Mesh, vertex_total, triangle_total}
use Rattle.mesh.specs.Growth.{add_vertex, replace_place}
use Rattle.forest.specs.Trees.{start}
use Rattle.forest.specs.Numbering.{numbers, unused, parents}
use Rattle.forest.specs.Tables.{key_sides, word_tris}
use Rattle.forest.specs.Theorems.{led_back}
use Rattle.engine.specs.Places.{placed_by}

-- the mesh with the vertex of the position s, unless its number n is that of an old vertex
abbrev pub with_later : {P D : Type 0} → Kind P D → ℕ → ℕ → Side → List ℕ → Mesh P → Mesh P
with_later k old n s bs m = cond (nat_lt n old) m (add_vertex m (placed_by k m.vertices s bs) (start s))

-- the mesh with the vertex of the position s moved, if its number n is that of an old vertex
abbrev pub with_moved : {P D : Type 0} → Kind P D → ℕ → ℕ → Side → List ℕ → Mesh P → Mesh P
with_moved k old n s bs m = cond (nat_lt n old) (replace_place m n (placed_by k m.vertices s bs)) m

-- the positions start at vertices below V
abbrev pub Started : ℕ → List Side → Type 0
Started V ss = (s : Side) → Mem s ss → start s < V

-- each corner of the triangles is a number below n, and differs from the next
abbrev pub Fitting : ℕ → List Tri → Type 0
Fitting n ts = (v x y : ℕ) → Link ts v x y → (v < n) × (v ≢ x)

-- The triangles us, of vertices below n, are the triangles ts with other corners: each leads back to the vertex that it was
-- split from, so it is its own, or none of the vertices before the split.
pub record Exchangeable (n : ℕ) (ts us : List Tri) : Type 0 where
  pub old : ℕ
  pub parents : List ℕ
  pub before : Fitting old ts
  pub after : Fitting n us
  pub led : map (led_back old parents) us ≡ ts

-- What is known where a split may be written: the mesh m of a store with room for so many vertices and triangles, the positions
-- and their numbers, the bytes of the displacements, the old triangles' new corners, and the added triangles.
pub record Writable {P D : Type 0} (k : Kind P D) (vertex_room triangle_room : ℕ) (m : Mesh P) (ps ns bs corners added : List ℕ) : Type 0 where
  -- the positions start at old vertices, and have their numbers and displacements
  pub started : Started (vertex_total m) (key_sides ps)
  pub numbered : ns ≡ numbers [] (vertex_total m) (key_sides ps)
  pub enough : length ps * k.displacement_width ≤ length bs
  -- there is room
  pub vertices_fit : unused [] (vertex_total m) (key_sides ps) ≤ vertex_room
  pub triangles_fit : triangle_total m + length (word_tris added) ≤ triangle_room
  -- before and after, corners are vertices that differ from the next
  pub before : Fitting (vertex_total m) m.triangles
  pub after : Fitting (unused [] (vertex_total m) (key_sides ps)) (word_tris corners ++ word_tris added)
  -- each old triangle has three corners, which lead back to those that it had
  pub whole : length corners ≡ 3 * triangle_total m
  pub led : map (led_back (vertex_total m) (parents [] (key_sides ps))) (word_tris corners) ≡ m.triangles
