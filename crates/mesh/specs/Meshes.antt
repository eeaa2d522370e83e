-- What a surface means: a list of triangles, and a list of vertices with place and parent.
use Rattle.std.specs.Prelude.{ℕ, ◌≤◌, List, map, length, Option}
use Rattle.std.specs.Option.{option_map}
use Rattle.std.specs.List.{slice_get}
use Rattle.mesh.specs.Triangles.{Tri}

-- a vertex: its place, and the vertex that it was split from
pub record Vertex (P : Type 0) : Type 0 where
  pub place : P
  pub parent : ℕ

pub record Mesh (P : Type 0) : Type 0 where
  pub triangles : List Tri
  pub vertices : List (Vertex P)

abbrev pub vertex_of : {P : Type 0} → P → ℕ → Vertex P
vertex_of p n = record { place = p; parent = n }

abbrev pub mesh_of : {P : Type 0} → List Tri → List (Vertex P) → Mesh P
mesh_of ts vs = record { triangles = ts; vertices = vs }

abbrev pub triangle_total : {P : Type 0} → Mesh P → ℕ
triangle_total m = length m.triangles

abbrev pub vertex_total : {P : Type 0} → Mesh P → ℕ
vertex_total m = length m.vertices

-- the place of vertex v, and its parent; none if there is no such vertex
abbrev pub place_at : {P : Type 0} → Mesh P → ℕ → Option P
place_at m v = option_map (λ x. x.place) (slice_get m.vertices v)

abbrev pub parent_at : {P : Type 0} → Mesh P → ℕ → Option ℕ
parent_at m v = option_map (λ x. x.parent) (slice_get m.vertices v)

-- the places of the vertices, in order, and their parents
abbrev pub places : {P : Type 0} → Mesh P → List P
places m = map (λ x. x.place) m.vertices

abbrev pub parents : {P : Type 0} → Mesh P → List ℕ
parents m = map (λ x. x.parent) m.vertices

-- the lists are no longer than a mesh may be
pub record InLimits {P : Type 0} (m : Mesh P) : Type 0 where
  pub few_vertices : vertex_total m ≤ 16384
  pub few_triangles : triangle_total m ≤ 32768
