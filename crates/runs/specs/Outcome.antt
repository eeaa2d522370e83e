-- What a split call does: its checks in their order, its answer, and what it leaves.
use Rattle.std.specs.Prelude.{ℕ, ◌+◌, ◌-◌, ◌*◌, cond, ◌&&◌, List, length, replicate, is_some, Some, None, Ok, Err, Option, Result, ◌==◌, nat_le}
use Rattle.fault.specs.declared.fault.Fault.{Fault}
use Rattle.fault.specs.declared.fault.Fault.TheVariants.{ShortWorkTable, StoreNotClosed, StoreNotOfJob, VertexCapacity, TriangleCapacity}
use Rattle.fault.specs.Faults.{or_else}
use Rattle.place.specs.Kinds.{Kind}
use Rattle.mesh.specs.Edges.{edges}
use Rattle.mesh.specs.Meshes.{Mesh, vertex_total, triangle_total}
use Rattle.survey.specs.Survey.{survey_fault}
use Rattle.record.specs.Parts.{code_count, set_count}
use Rattle.record.specs.Checks.{head_fault, size_fault, code_bits_fault}
use Rattle.forest.specs.Trees.{trees}
use Rattle.forest.specs.Splitting.{marked_of, forest_fault, sewing_fault}
use Rattle.forest.specs.Places.{place_fault, split_mesh}
use Rattle.runs.specs.Jobs.{Numbers, vertices_now, triangles_now, mesh_unless}
use Rattle.runs.specs.Parts.{record_marks, record_codes, record_displacements}

-- how many edges the mesh has
abbrev pub edge_total : {P : Type 0} → Mesh P → ℕ
edge_total m = length (edges m.triangles)

-- how many marks the record sets
abbrev pub edges_marked : {P : Type 0} → Mesh P → List ℕ → ℕ
edges_marked m bs = set_count bs (edge_total m)

-- how many trees the marked edges form
abbrev pub trees_formed : {P : Type 0} → Mesh P → List ℕ → ℕ
trees_formed m bs = length (trees (vertex_total m) (marked_of m.triangles (record_marks bs (edge_total m))))

-- the mesh that the record makes of a mesh
abbrev pub mesh_made : {P D : Type 0} → Kind P D → Mesh P → List ℕ → Mesh P
mesh_made k m bs = split_mesh k m (record_marks bs (edge_total m)) (record_codes bs (edge_total m)) (record_displacements k bs (edge_total m))

-- the work table has 16 numbers for each vertex and each triangle that there is room for
abbrev pub table_fault : ℕ → ℕ → ℕ → Option Fault
table_fault vertex_room triangle_room table = cond (nat_le (16 * (vertex_room + triangle_room)) table) None (Some ShortWorkTable)

-- the survey of the store's mesh finds no fault
abbrev pub closed_fault : {P : Type 0} → Mesh P → Option Fault
closed_fault m = cond (is_some (survey_fault (vertex_total m) m.triangles)) (Some StoreNotClosed) None

-- the store's counts are the job's
abbrev pub job_fault : {P : Type 0} → Mesh P → Numbers → Option Fault
job_fault m n = cond (vertex_total m == vertices_now n && triangle_total m == triangles_now n) None (Some StoreNotOfJob)

-- the marked edges are a forest of trees with two edges or more, and the codes are as many as it asks
abbrev pub marks_fault : {P : Type 0} → Mesh P → List ℕ → Option Fault
marks_fault m bs = forest_fault (vertex_total m) m.triangles (record_marks bs (edge_total m)) (code_count bs)

-- there is room for the vertices after the split
abbrev pub vertex_room_fault : {P : Type 0} → ℕ → Mesh P → List ℕ → Option Fault
vertex_room_fault room m bs = cond (nat_le (vertex_total m + edges_marked m bs - trees_formed m bs) room) None (Some VertexCapacity)

-- there is room for the triangles after the split
abbrev pub triangle_room_fault : {P : Type 0} → ℕ → Mesh P → List ℕ → Option Fault
triangle_room_fault room m bs = cond (nat_le (triangle_total m + 2 * edges_marked m bs - 2 * trees_formed m bs) room) None (Some TriangleCapacity)

-- the codes of each tree fill its polygon, its loop comes round at its end, and no side lies in two triangles
abbrev pub codes_fault : {P : Type 0} → Mesh P → List ℕ → Option Fault
codes_fault m bs = sewing_fault (vertex_total m) m.triangles (record_marks bs (edge_total m)) (record_codes bs (edge_total m))

-- the kind takes every displaced place
abbrev pub displacements_fault : {P D : Type 0} → Kind P D → Mesh P → List ℕ → Option Fault
displacements_fault k m bs = place_fault k m (record_marks bs (edge_total m)) (record_displacements k bs (edge_total m))

-- the checks of the record's bytes on the store's mesh, in their order
abbrev pub record_fault : {P D : Type 0} → Kind P D → ℕ → ℕ → Mesh P → List ℕ → Option Fault
record_fault k vertex_room triangle_room m bs =
    or_else (head_fault k bs (edge_total m))
    (or_else (marks_fault m bs)
    (or_else (size_fault k bs (edge_total m))
    (or_else (vertex_room_fault vertex_room m bs)
    (or_else (triangle_room_fault triangle_room m bs)
    (or_else (code_bits_fault bs (edge_total m))
    (or_else (codes_fault m bs)
    (displacements_fault k m bs)))))))

-- all checks of a split call with a work table of this length, in their order
abbrev pub split_fault : {P D : Type 0} → Kind P D → ℕ → ℕ → ℕ → Mesh P → Numbers → List ℕ → Option Fault
split_fault k vertex_room triangle_room table m n bs =
    or_else (table_fault vertex_room triangle_room table)
    (or_else (closed_fault m)
    (or_else (job_fault m n)
    (record_fault k vertex_room triangle_room m bs)))

-- what an accepted split tells: the counts of the mesh as it is then, and the record's marked edges and trees
pub record SplitTold : Type 0 where
  pub vertices : ℕ
  pub edges : ℕ
  pub triangles : ℕ
  pub forest_edges : ℕ
  pub trees : ℕ

abbrev pub split_told : {P : Type 0} → Mesh P → ℕ → ℕ → SplitTold
split_told m f t = record { vertices = vertex_total m; edges = edge_total m; triangles = triangle_total m; forest_edges = f; trees = t }

abbrev pub told_unless : Option Fault → SplitTold → Result SplitTold Fault
told_unless (Some f) t = Err f
told_unless None t = Ok t

abbrev pub split_answer : {P D : Type 0} → Kind P D → ℕ → ℕ → ℕ → Mesh P → Numbers → List ℕ → Result SplitTold Fault
split_answer k vertex_room triangle_room table m n bs =
    told_unless (split_fault k vertex_room triangle_room table m n bs) (split_told (mesh_made k m bs) (edges_marked m bs) (trees_formed m bs))

-- the store's mesh after a split call
abbrev pub split_mesh_after : {P D : Type 0} → Kind P D → ℕ → ℕ → ℕ → Mesh P → Numbers → List ℕ → Mesh P
split_mesh_after k vertex_room triangle_room table m n bs = mesh_unless (split_fault k vertex_room triangle_room table m n bs) m (mesh_made k m bs)

-- one more record, with f forest edges in t trees
abbrev pub numbers_with : Numbers → ℕ → ℕ → Numbers
numbers_with n f t = record {
  base_vertices = n.base_vertices;
  base_triangles = n.base_triangles;
  records = n.records + 1;
  forest_edges = n.forest_edges + f;
  trees = n.trees + t;
}

abbrev pub numbers_kept : Option Fault → Numbers → Numbers → Numbers
numbers_kept (Some f) before after = before
numbers_kept None before after = after

-- the job's numbers after a split call
abbrev pub numbers_after : {P D : Type 0} → Kind P D → ℕ → ℕ → ℕ → Mesh P → Numbers → List ℕ → Numbers
numbers_after k vertex_room triangle_room table m n bs =
    numbers_kept (split_fault k vertex_room triangle_room table m n bs) n (numbers_with n (edges_marked m bs) (trees_formed m bs))

-- the work table after a split call, whatever the call answers
abbrev pub work_after : List ℕ → List ℕ
work_after table = replicate (length table) 0
