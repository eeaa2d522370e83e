-- What a list store means.
use Rattle.std.specs.Prelude.{ℕ, min, length}
use Rattle.std.proofs.Common.{arith}
use Rattle.place.specs.Kinds.{Kind}
use Rattle.mesh.specs.Triangles.{tri_of}
use Rattle.mesh.specs.Meshes.{Mesh, mesh_of, InLimits}
use Rattle.mesh.specs.Growth.{RoomInLimits, WithinRoom}
use Rattle.stores.specs.declared.list.ListStore.{ListStore}
use Rattle.stores.specs.Records.{front, front_few, vertex_in}

-- the triangles and vertices of the records in use
abbrev pub list_mesh : {P D : Type 0} → Kind P D → ListStore P → Mesh P
list_mesh k s = mesh_of (front tri_of s.triangle_count s.triangles.now) (front (vertex_in k) s.vertex_count s.vertices.now)

-- the capacities: the tables' lengths, cut to the limits
abbrev pub list_vertex_room : {P : Type 0} → ListStore P → ℕ
list_vertex_room s = min (length s.vertices.now) 16384

abbrev pub list_triangle_room : {P : Type 0} → ListStore P → ℕ
list_triangle_room s = min (length s.triangles.now) 32768

pub list_limited : {P D : Type 0} (k : Kind P D) (s : ListStore P) → InLimits (list_mesh k s)
list_limited k s =
    let v = s.vertices_fit in
    let t = s.triangles_fit in
    let a = front_few (vertex_in k) s.vertex_count s.vertices.now in
    let b = front_few tri_of s.triangle_count s.triangles.now in
    record { few_vertices = omega arith; few_triangles = omega arith }

pub list_room_limited : {P : Type 0} (s : ListStore P) → RoomInLimits (list_vertex_room s) (list_triangle_room s)
list_room_limited s = record { vertices_few = omega arith; triangles_few = omega arith }

pub list_within_room : {P D : Type 0} (k : Kind P D) (s : ListStore P) → WithinRoom (list_vertex_room s) (list_triangle_room s) (list_mesh k s)
list_within_room k s =
    let v = s.vertices_fit in
    let t = s.triangles_fit in
    let a = front_few (vertex_in k) s.vertex_count s.vertices.now in
    let b = front_few tri_of s.triangle_count s.triangles.now in
    record { vertices_fit = omega arith; triangles_fit = omega arith }
