-- The calls on a running job and its store after the base call, what each answers, and what it leaves.
use Rattle.std.specs.Prelude.{ℕ, ◌*◌, ◌/◌, cond, List, Some, None, Ok, Err, Option, Result, nat_le, nat_lt}
use Rattle.std.specs.List.{slice_get}
use Rattle.fault.specs.declared.fault.Fault.{Fault}
use Rattle.fault.specs.declared.fault.Fault.TheVariants.{ShortBuffer}
use Rattle.place.specs.Kinds.{Kind}
use Rattle.mesh.specs.Triangles.{Tri}
use Rattle.mesh.specs.Sides.{Side, side_of}
use Rattle.mesh.specs.Edges.{edges}
use Rattle.mesh.specs.Follow.{follow_back}
use Rattle.mesh.specs.Meshes.{Mesh, vertex_total, triangle_total, place_at, parent_at, parents}
use Rattle.survey.specs.declared.counts.Counts.{Counts}
use Rattle.survey.specs.Survey.{surveyed}
use Rattle.sheet.specs.Layout.{sheet_size}
use Rattle.runs.specs.Jobs.{Numbers, vertices_now, triangles_now}
use Rattle.runs.specs.Outcome.{SplitTold, split_answer, split_mesh_after, numbers_after}

-- a running job with its store: the store's mesh and the job's numbers
pub record State (P : Type 0) : Type 0 where
  pub mesh : Mesh P
  pub numbers : Numbers

abbrev pub state_of : {P : Type 0} → Mesh P → Numbers → State P
state_of m n = record { mesh = m; numbers = n }

-- what may be asked
pub data Question : Type 0 where
  how_many_vertices : Question
  how_many_triangles : Question
  which_corners : ℕ → Question
  which_place : ℕ → Question
  which_parent : ℕ → Question
  -- the lowest triangle with the side from one to the other
  which_triangle : ℕ → ℕ → Question
  which_counts : Question
  which_edge : ℕ → Question
  which_ancestor : ℕ → Question

-- a call: a record's bytes offered with a work table of a length, a question, a sheet written into a buffer of a length
pub data Call : Type 0 where
  offer : List ℕ → ℕ → Call
  ask : Question → Call
  write_sheet : ℕ → Call

-- what a call answers
pub data Answer (P : Type 0) : Type 0 where
  split : Result SplitTold Fault → Answer P
  number : ℕ → Answer P
  corners : Option Tri → Answer P
  place : Option P → Answer P
  number_if_any : Option ℕ → Answer P
  counts : Result Counts Fault → Answer P
  edge : Option Side → Answer P
  written : Result ℕ Fault → Answer P

-- the vertex that v follows back to, none if there is no vertex v
abbrev pub ancestor : {P : Type 0} → Mesh P → ℕ → Option ℕ
ancestor m v = cond (nat_lt v (vertex_total m)) (Some (follow_back (parents m) v)) None

abbrev pub question_answer : {P : Type 0} → Mesh P → Question → Answer P
question_answer m how_many_vertices = number (vertex_total m)
question_answer m how_many_triangles = number (triangle_total m)
question_answer m (which_corners t) = corners (slice_get m.triangles t)
question_answer m (which_place v) = place (place_at m v)
question_answer m (which_parent v) = number_if_any (parent_at m v)
question_answer m (which_triangle u v) = number_if_any (side_of m.triangles u v)
question_answer m which_counts = counts (surveyed (vertex_total m) m.triangles)
question_answer m (which_edge e) = edge (slice_get (edges m.triangles) e)
question_answer m (which_ancestor v) = number_if_any (ancestor m v)

-- how many bytes the mesh's sheet has
abbrev pub mesh_size : {P D : Type 0} → Kind P D → Mesh P → ℕ
mesh_size k m = sheet_size k.width (vertex_total m) (triangle_total m)

-- the sheet is written where the buffer is long enough
abbrev pub writing_answer : {P D : Type 0} → Kind P D → Mesh P → ℕ → Result ℕ Fault
writing_answer k m room = cond (nat_le (mesh_size k m) room) (Ok (mesh_size k m)) (Err (ShortBuffer (mesh_size k m)))

-- what a call on a store with room for so many vertices and triangles answers
abbrev pub answer : {P D : Type 0} → Kind P D → ℕ → ℕ → State P → Call → Answer P
answer k vertex_room triangle_room s (offer bs table) = split (split_answer k vertex_room triangle_room table s.mesh s.numbers bs)
answer k vertex_room triangle_room s (ask q) = question_answer s.mesh q
answer k vertex_room triangle_room s (write_sheet room) = written (writing_answer k s.mesh room)

-- what it leaves: only a split that is accepted changes anything
abbrev pub next : {P D : Type 0} → Kind P D → ℕ → ℕ → State P → Call → State P
next k vertex_room triangle_room s (offer bs table) =
    state_of (split_mesh_after k vertex_room triangle_room table s.mesh s.numbers bs) (numbers_after k vertex_room triangle_room table s.mesh s.numbers bs)
next k vertex_room triangle_room s (ask q) = s
next k vertex_room triangle_room s (write_sheet room) = s

-- the fault in a result
abbrev pub fault_in : {X : Type 0} → Result X Fault → Option Fault
fault_in (Ok x) = None
fault_in (Err f) = Some f

-- the fault that an answer refuses by
abbrev pub refusal : {P : Type 0} → Answer P → Option Fault
refusal (split r) = fault_in r
refusal (number n) = None
refusal (corners t) = None
refusal (place p) = None
refusal (number_if_any n) = None
refusal (counts r) = fault_in r
refusal (edge e) = None
refusal (written r) = fault_in r

-- what a job tells when it is closed, from its numbers alone
pub record Report : Type 0 where
  pub vertices : ℕ
  pub edges : ℕ
  pub triangles : ℕ
  pub records : ℕ
  pub forest_edges : ℕ
  pub trees : ℕ

abbrev pub report : Numbers → Report
report n = record {
  vertices = vertices_now n;
  edges = 3 * triangles_now n / 2;
  triangles = triangles_now n;
  records = n.records;
  forest_edges = n.forest_edges;
  trees = n.trees;
}
