-- What a job keeps, and what its base call does.
use Rattle.std.specs.Prelude.{ℕ, ◌+◌, ◌-◌, ◌*◌, Bool, cond, ◌&&◌, List, Some, None, Ok, Err, Option, Result, ◌==◌}
use Rattle.fault.specs.declared.fault.Fault.{Fault}
use Rattle.fault.specs.declared.fault.Fault.TheVariants.{StoreNotEmpty}
use Rattle.fault.specs.Faults.{or_else}
use Rattle.place.specs.Kinds.{Kind}
use Rattle.mesh.specs.Meshes.{Mesh, vertex_total, triangle_total}
use Rattle.survey.specs.Survey.{survey_fault}
use Rattle.sheet.specs.Content.{sheet_mesh, sheet_fault_within}

-- the base's counts, how many records were accepted, and the tallies over these
pub record Numbers : Type 0 where
  pub base_vertices : ℕ
  pub base_triangles : ℕ
  pub records : ℕ
  pub forest_edges : ℕ
  pub trees : ℕ

-- the numbers of a job whose base has so many vertices and triangles
abbrev pub fresh_numbers : ℕ → ℕ → Numbers
fresh_numbers V T = record { base_vertices = V; base_triangles = T; records = 0; forest_edges = 0; trees = 0 }

-- the numbers of a job with a new base
abbrev pub base_numbers : {P : Type 0} → Mesh P → Numbers
base_numbers m = fresh_numbers (vertex_total m) (triangle_total m)

-- the counts of the job's mesh: each forest edge brings a vertex and two triangles, each tree takes as many away
abbrev pub vertices_now : Numbers → ℕ
vertices_now n = n.base_vertices + n.forest_edges - n.trees

abbrev pub triangles_now : Numbers → ℕ
triangles_now n = n.base_triangles + 2 * n.forest_edges - 2 * n.trees

-- there is no vertex and no triangle
abbrev pub is_empty : {P : Type 0} → Mesh P → Bool
is_empty m = vertex_total m == 0 && triangle_total m == 0

abbrev pub empty_fault : {P : Type 0} → Mesh P → Option Fault
empty_fault m = cond (is_empty m) None (Some StoreNotEmpty)

-- the checks of the base call on a store with this room and this mesh: the store is empty, the
-- sheet is laid out as it should be, fits the store and holds places, and its mesh is closed
abbrev pub base_fault : {P D : Type 0} → Kind P D → ℕ → ℕ → Mesh P → List ℕ → Option Fault
base_fault k vertex_room triangle_room m bs =
    or_else (empty_fault m) (or_else (sheet_fault_within k vertex_room triangle_room bs) (survey_fault (vertex_total (sheet_mesh k bs)) (sheet_mesh k bs).triangles))

-- the mesh after a base call, and the job's numbers or the fault
abbrev pub mesh_unless : {P : Type 0} → Option Fault → Mesh P → Mesh P → Mesh P
mesh_unless (Some f) before after = before
mesh_unless None before after = after

abbrev pub base_mesh : {P D : Type 0} → Kind P D → ℕ → ℕ → Mesh P → List ℕ → Mesh P
base_mesh k vertex_room triangle_room m bs = mesh_unless (base_fault k vertex_room triangle_room m bs) m (sheet_mesh k bs)

abbrev pub numbers_unless : Option Fault → Numbers → Result Numbers Fault
numbers_unless (Some f) n = Err f
numbers_unless None n = Ok n

abbrev pub base_answer : {P D : Type 0} → Kind P D → ℕ → ℕ → Mesh P → List ℕ → Result Numbers Fault
base_answer k vertex_room triangle_room m bs = numbers_unless (base_fault k vertex_room triangle_room m bs) (base_numbers (sheet_mesh k bs))
