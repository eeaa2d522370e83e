-- A surface copied into a store: each vertex is offered to it, and then each triangle.
use Rattle.std.specs.Prelude.{ℕ, cond, List, [], ◌∷◌}
use Rattle.mesh.specs.Triangles.{Tri}
use Rattle.mesh.specs.Meshes.{Mesh, vertex_total, places}
use Rattle.mesh.specs.Growth.{may_add_vertex, add_vertex, may_add_triangle, add_triangle}

-- the mesh after a vertex at p, its own parent, was offered where there is room for so many
abbrev pub with_vertex : {P : Type 0} → ℕ → Mesh P → P → Mesh P
with_vertex room m p = cond (may_add_vertex room m (vertex_total m)) (add_vertex m p (vertex_total m)) m

-- and after one was offered at each of the places
abbrev pub with_vertices : {P : Type 0} → ℕ → Mesh P → List P → Mesh P
with_vertices room m [] = m
with_vertices room m (p ∷ ps) = with_vertices room (with_vertex room m p) ps

-- the mesh after a triangle was offered where there is room for so many
abbrev pub with_triangle : {P : Type 0} → ℕ → Mesh P → Tri → Mesh P
with_triangle room m t = cond (may_add_triangle room m t) (add_triangle m t) m

-- and after each triangle of a list was offered
abbrev pub with_triangles : {P : Type 0} → ℕ → Mesh P → List Tri → Mesh P
with_triangles room m [] = m
with_triangles room m (t ∷ ts) = with_triangles room (with_triangle room m t) ts

-- the mesh after the vertices of another were offered, and then its triangles
abbrev pub copied : {P : Type 0} → ℕ → ℕ → Mesh P → Mesh P → Mesh P
copied vertex_room triangle_room from m = with_triangles triangle_room (with_vertices vertex_room m (places from)) from.triangles
