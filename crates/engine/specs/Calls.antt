-- A split call where the job is told by the totals that its mesh should have.
use Rattle.std.specs.Prelude.{ℕ, List, ◌+◌, ◌-◌, ◌*◌, cond, ◌&&◌, Some, None, Option, Result, ◌==◌, nat_le}
use Rattle.fault.specs.declared.fault.Fault.{Fault}
use Rattle.fault.specs.declared.fault.Fault.TheVariants.{StoreNotOfJob, VertexCapacity, TriangleCapacity}
use Rattle.fault.specs.Faults.{or_else}
use Rattle.place.specs.Kinds.{Kind}
use Rattle.mesh.specs.Meshes.{Mesh, vertex_total, triangle_total}
use Rattle.runs.specs.Jobs.{mesh_unless}
use Rattle.runs.specs.Outcome.{SplitTold, split_told, told_unless, edges_marked, trees_formed, mesh_made, table_fault, closed_fault, record_fault}

-- the mesh has V vertices and T triangles
abbrev pub expected_fault : {P : Type 0} → Mesh P → ℕ → ℕ → Option Fault
expected_fault m V T = cond (vertex_total m == V && triangle_total m == T) None (Some StoreNotOfJob)

-- there is room for the vertices and triangles of the mesh, and those that F marked edges in K trees bring
abbrev pub growth_fault : {P : Type 0} → ℕ → ℕ → Mesh P → ℕ → ℕ → Option Fault
growth_fault vertex_room triangle_room m F K =
    or_else (cond (nat_le (vertex_total m + F - K) vertex_room) None (Some VertexCapacity))
    (cond (nat_le (triangle_total m + 2 * F - 2 * K) triangle_room) None (Some TriangleCapacity))

-- all checks of a split call with a work table of this length, in their order, where the mesh should have V vertices and T triangles
abbrev pub call_fault : {P D : Type 0} → Kind P D → ℕ → ℕ → ℕ → Mesh P → ℕ → ℕ → List ℕ → Option Fault
call_fault k vertex_room triangle_room table m V T bs =
    or_else (table_fault vertex_room triangle_room table) (or_else (closed_fault m) (or_else (expected_fault m V T) (record_fault k vertex_room triangle_room m bs)))

-- what the call answers: what the mesh that the record makes tells, or the first fault
abbrev pub call_answer : {P D : Type 0} → Kind P D → ℕ → ℕ → ℕ → Mesh P → ℕ → ℕ → List ℕ → Result SplitTold Fault
call_answer k vertex_room triangle_room table m V T bs =
    told_unless (call_fault k vertex_room triangle_room table m V T bs) (split_told (mesh_made k m bs) (edges_marked m bs) (trees_formed m bs))

-- the store's mesh after the call
abbrev pub call_mesh : {P D : Type 0} → Kind P D → ℕ → ℕ → ℕ → Mesh P → ℕ → ℕ → List ℕ → Mesh P
call_mesh k vertex_room triangle_room table m V T bs = mesh_unless (call_fault k vertex_room triangle_room table m V T bs) m (mesh_made k m bs)
