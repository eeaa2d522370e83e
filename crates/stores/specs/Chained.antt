-- What a chain store means.
use Rattle.std.specs.Prelude.{ℕ, min, length}
use Rattle.std.proofs.Common.{arith}
use Rattle.place.specs.Kinds.{Kind}
use Rattle.mesh.specs.Meshes.{Vertex, Mesh, mesh_of, InLimits}
use Rattle.mesh.specs.Growth.{RoomInLimits, WithinRoom}
use Rattle.stores.specs.declared.chain.ChainStore.{ChainStore}
use Rattle.stores.specs.declared.chain_record.ChainVertex.{ChainVertex}
use Rattle.stores.specs.Records.{front, front_few, vertex_in}
use Rattle.stores.specs.Chains.{corners_in}

-- a record's vertex
abbrev pub chained_in : {P D : Type 0} → Kind P D → ChainVertex → Vertex P
chained_in k r = vertex_in k r.stored

-- the triangles and vertices of the records in use
abbrev pub chain_mesh : {P D : Type 0} → Kind P D → ChainStore P → Mesh P
chain_mesh k s = mesh_of (front corners_in s.triangle_count s.tables.triangles.now) (front (chained_in k) s.vertex_count s.tables.vertices.now)

-- the capacities: the tables' lengths, cut to the limits
abbrev pub chain_vertex_room : {P : Type 0} → ChainStore P → ℕ
chain_vertex_room s = min (length s.tables.vertices.now) 16384

abbrev pub chain_triangle_room : {P : Type 0} → ChainStore P → ℕ
chain_triangle_room s = min (length s.tables.triangles.now) 32768

pub chain_limited : {P D : Type 0} (k : Kind P D) (s : ChainStore P) → InLimits (chain_mesh k s)
chain_limited k s =
    let v = s.vertices_fit in
    let t = s.triangles_fit in
    let a = front_few (chained_in k) s.vertex_count s.tables.vertices.now in
    let b = front_few corners_in s.triangle_count s.tables.triangles.now in
    record { few_vertices = omega arith; few_triangles = omega arith }

pub chain_room_limited : {P : Type 0} (s : ChainStore P) → RoomInLimits (chain_vertex_room s) (chain_triangle_room s)
chain_room_limited s = record { vertices_few = omega arith; triangles_few = omega arith }

pub chain_within_room : {P D : Type 0} (k : Kind P D) (s : ChainStore P) → WithinRoom (chain_vertex_room s) (chain_triangle_room s) (chain_mesh k s)
chain_within_room k s =
    let v = s.vertices_fit in
    let t = s.triangles_fit in
    let a = front_few (chained_in k) s.vertex_count s.tables.vertices.now in
    let b = front_few corners_in s.triangle_count s.tables.triangles.now in
    record { vertices_fit = omega arith; triangles_fit = omega arith }
