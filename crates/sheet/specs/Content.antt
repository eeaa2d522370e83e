-- What the bytes of a sheet mean.
use Rattle.std.specs.Prelude.{◌≡◌, ℕ, ◌+◌, ◌<◌, Bool, not, List, map, length, drop, is_some, Some, None, Option, slice_index}
use Rattle.std.specs.List.{range_with_len, slice_get}
use Rattle.std.specs.Option.{option_map, unwrap_or}
use Rattle.fault.specs.declared.fault.Fault.{Fault}
use Rattle.fault.specs.declared.fault.Fault.TheVariants.{NoPlace}
use Rattle.fault.specs.Faults.{or_else}
use Rattle.place.specs.Kinds.{Kind}
use Rattle.place.specs.Words.{word}
use Rattle.mesh.specs.Triangles.{Tri, tri}
use Rattle.mesh.specs.Searches.{first_in}
use Rattle.mesh.specs.Meshes.{Mesh, Vertex, mesh_of, vertex_of, vertex_total, triangle_total, place_at, parent_at}
use Rattle.sheet.specs.Layout.{vertices_of, triangles_of, place_offset, triangle_offset, sheet_size, layout_fault, capacity_fault}

-- the triangle in the twelve bytes from an offset on
abbrev pub triangle_from : List ℕ → ℕ → Tri
triangle_from bs at = tri (word bs at) (word bs (at + 4)) (word bs (at + 8))

abbrev pub triangle_in : ℕ → List ℕ → ℕ → Tri
triangle_in width bs t = triangle_from bs (triangle_offset width (vertices_of bs) t)

-- what the bytes of place v read as
abbrev pub place_read : {P D : Type 0} → Kind P D → List ℕ → ℕ → Option P
place_read k bs v = k.read (drop (place_offset k.width v) bs)

-- A vertex of a sheet is its own parent; its place is what its bytes read as, and the kind's origin where they are no place,
-- which no sheet has that was opened.
abbrev pub vertex_in : {P D : Type 0} → Kind P D → List ℕ → ℕ → Vertex P
vertex_in k bs v = vertex_of (unwrap_or (place_read k bs v) k.origin) v

-- bytes whose layout is at fault mean no vertex and no triangle
abbrev pub count_unless : Option Fault → ℕ → ℕ
count_unless None n = n
count_unless (Some f) n = 0

unfoldable pub vertices_in : {P D : Type 0} → Kind P D → List ℕ → ℕ
vertices_in k bs = count_unless (layout_fault k bs) (vertices_of bs)

unfoldable pub triangles_in : {P D : Type 0} → Kind P D → List ℕ → ℕ
triangles_in k bs = count_unless (layout_fault k bs) (triangles_of bs)

-- the mesh that the bytes mean: its triangles and vertices in order, none of either where the layout is at fault
abbrev pub sheet_mesh : {P D : Type 0} → Kind P D → List ℕ → Mesh P
sheet_mesh k bs = mesh_of (map (triangle_in k.width bs) (range_with_len 0 (triangles_in k bs))) (map (vertex_in k bs) (range_with_len 0 (vertices_in k bs)))

-- the bytes of vertex v are no place
abbrev pub no_place : {P D : Type 0} → Kind P D → List ℕ → ℕ → Bool
no_place k bs v = not (is_some (place_read k bs v))

-- the lowest vertex whose bytes are no place
unfoldable pub place_fault : {P D : Type 0} → Kind P D → List ℕ → Option Fault
place_fault k bs = option_map NoPlace (first_in (no_place k bs) 0 (vertices_in k bs))

-- the checks before a sheet is a surface: its layout, then its places
abbrev pub sheet_fault : {P D : Type 0} → Kind P D → List ℕ → Option Fault
sheet_fault k bs = or_else (layout_fault k bs) (place_fault k bs)

-- the same with a store's capacities between the two
abbrev pub sheet_fault_within : {P D : Type 0} → Kind P D → ℕ → ℕ → List ℕ → Option Fault
sheet_fault_within k vertex_capacity triangle_capacity bs = or_else (layout_fault k bs) (or_else (capacity_fault vertex_capacity triangle_capacity bs) (place_fault k bs))

-- The bytes are laid out as the sheet of a mesh: a length of what follows, version 1, the kind, both counts, the places, the triangles.
pub record LaidOut {P D : Type 0} (k : Kind P D) (bs : List ℕ) (m : Mesh P) : Type 0 where
  pub length_field : word bs 0 + 4 ≡ length bs
  pub version : slice_index bs 4 ≡ 1
  pub kind : slice_index bs 5 ≡ k.byte
  pub vertices : vertices_of bs ≡ vertex_total m
  pub triangles : triangles_of bs ≡ triangle_total m
  pub size : sheet_size k.width (vertex_total m) (triangle_total m) ≡ length bs
  pub place : (v : ℕ) → v < vertex_total m → place_read k bs v ≡ place_at m v
  pub parent : (v : ℕ) → v < vertex_total m → parent_at m v ≡ Some v
  pub triangle : (t : ℕ) → t < triangle_total m → slice_get m.triangles t ≡ Some (triangle_from bs (triangle_offset k.width (vertex_total m) t))
