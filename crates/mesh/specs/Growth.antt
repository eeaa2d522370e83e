-- How a mesh grows: what may be added or replaced, and the mesh that it then is.
use Rattle.std.specs.Prelude.{◌≡◌, ℕ, zero, suc, ◌≤◌, Bool, false, cond, not, ◌&&◌, List, [], ◌∷◌, ◌++◌, Some, None, Option, ◌==◌, nat_le, nat_lt}
use Rattle.std.specs.List.{slice_get}
use Rattle.mesh.specs.Triangles.{Tri, tri}
use Rattle.mesh.specs.Meshes.{Vertex, Mesh, vertex_of, mesh_of, vertex_total, triangle_total}

-- the three corners are numbers below n
abbrev pub all_below : ℕ → Tri → Bool
all_below n (tri a b c) = nat_lt a n && (nat_lt b n && nat_lt c n)

-- no two corners are equal
abbrev pub different : Tri → Bool
different (tri a b c) = not (a == b) && (not (b == c) && not (c == a))

-- the triangle with v for its corner k
abbrev pub with_corner : ℕ → ℕ → Tri → Tri
with_corner k v (tri a b c) = cond (k == 0) (tri v b c) (cond (k == 1) (tri a v c) (tri a b v))

-- the vertex at another place
abbrev pub with_place : {P : Type 0} → P → Vertex P → Vertex P
with_place p x = vertex_of p x.parent

-- the list with its item i changed by f, and as it is where it has no item i
abbrev pub changed : {A : Type 0} → (A → A) → ℕ → List A → List A
changed f i [] = []
changed f zero (x ∷ xs) = f x ∷ xs
changed f (suc i) (x ∷ xs) = x ∷ changed f i xs

-- n vertices leave room for one more, and its parent is one of them or itself
abbrev pub vertex_fits : ℕ → ℕ → ℕ → Bool
vertex_fits room n parent = nat_lt n room && nat_le parent n

-- n triangles leave room for one more, and its corners are different vertices of m
abbrev pub triangle_fits : ℕ → ℕ → ℕ → Tri → Bool
triangle_fits room n m t = nat_lt n room && (all_below m t && different t)

-- the triangle has a corner k, v is one of m vertices, and the corners stay different
abbrev pub corner_fits : ℕ → ℕ → ℕ → Tri → Bool
corner_fits m k v t = nat_lt k 3 && (nat_lt v m && different (with_corner k v t))

-- there is a triangle, and its corner fits
abbrev pub corner_fits_in : ℕ → ℕ → ℕ → Option Tri → Bool
corner_fits_in m k v None = false
corner_fits_in m k v (Some t) = corner_fits m k v t

-- a vertex with this parent may be added, where there is room for so many
abbrev pub may_add_vertex : {P : Type 0} → ℕ → Mesh P → ℕ → Bool
may_add_vertex room m parent = vertex_fits room (vertex_total m) parent

-- the mesh with one more vertex, the last
abbrev pub add_vertex : {P : Type 0} → Mesh P → P → ℕ → Mesh P
add_vertex m p parent = mesh_of m.triangles (m.vertices ++ (vertex_of p parent ∷ []))

-- the triangle may be added, where there is room for so many
abbrev pub may_add_triangle : {P : Type 0} → ℕ → Mesh P → Tri → Bool
may_add_triangle room m t = triangle_fits room (triangle_total m) (vertex_total m) t

-- the mesh with one more triangle, the last
abbrev pub add_triangle : {P : Type 0} → Mesh P → Tri → Mesh P
add_triangle m t = mesh_of (m.triangles ++ (t ∷ [])) m.vertices

-- corner k of triangle t may become v
abbrev pub may_replace_corner : {P : Type 0} → Mesh P → ℕ → ℕ → ℕ → Bool
may_replace_corner m t k v = corner_fits_in (vertex_total m) k v (slice_get m.triangles t)

-- the mesh in which corner k of triangle t is v
abbrev pub replace_corner : {P : Type 0} → Mesh P → ℕ → ℕ → ℕ → Mesh P
replace_corner m t k v = mesh_of (changed (with_corner k v) t m.triangles) m.vertices

-- there is a vertex v, whose place may be another
abbrev pub may_replace_place : {P : Type 0} → Mesh P → ℕ → Bool
may_replace_place m v = nat_lt v (vertex_total m)

-- the mesh in which vertex v is at p
abbrev pub replace_place : {P : Type 0} → Mesh P → ℕ → P → Mesh P
replace_place m v p = mesh_of m.triangles (changed (with_place p) v m.vertices)

-- the capacities are no more than a mesh may have
pub record RoomInLimits (vertices triangles : ℕ) : Type 0 where
  pub vertices_few : vertices ≤ 16384
  pub triangles_few : triangles ≤ 32768

-- the mesh has no more vertices and triangles than there is room for
pub record WithinRoom {P : Type 0} (vertices triangles : ℕ) (m : Mesh P) : Type 0 where
  pub vertices_fit : vertex_total m ≤ vertices
  pub triangles_fit : triangle_total m ≤ triangles

-- both capacities are the same
abbrev pub SameRoom : {S : Type 0} → (S → ℕ) → (S → ℕ) → S → S → Type 0
SameRoom vertices triangles before after = (vertices after ≡ vertices before) × (triangles after ≡ triangles before)
