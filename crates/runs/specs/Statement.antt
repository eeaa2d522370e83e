-- What holds of any two jobs that took the same base mesh.
use Rattle.std.specs.Prelude.{◌≡◌, ℕ, ◌+◌, ◌*◌, ◌<◌, List, ◌++◌, Some, ◌≢◌}
use Rattle.std.specs.Option.{option_map}
use Rattle.std.specs.List.{AllByRecursion, slice_get}
use Rattle.fault.specs.declared.fault.Fault.TheVariants.{StoreNotClosed, StoreNotOfJob}
use Rattle.place.specs.Kinds.{Kind}
use Rattle.mesh.specs.Closed.{Closed}
use Rattle.mesh.specs.Meshes.{Mesh, vertex_total, triangle_total, parents}
use Rattle.sheet.specs.Content.{sheet_mesh}
use Rattle.forest.specs.Theorems.{followed}
use Rattle.runs.specs.Figures.{euler}
use Rattle.runs.specs.Calls.{State, Call, Answer, refusal}
use Rattle.runs.specs.Runs.{begun, after, answers, edges_marked_over, trees_formed_over, Run}

-- the answer does not say that the store's mesh is not closed, nor that it is not the job's
abbrev pub FindsNoWrongStore : {P : Type 0} → Answer P → Type 0
FindsNoWrongStore a = (refusal a ≢ Some StoreNotClosed) × (refusal a ≢ Some StoreNotOfJob)

-- what holds at the end of a run of calls from a base mesh
pub record Kept {P D : Type 0} (k : Kind P D) (vertex_room triangle_room : ℕ) (base : Mesh P) (calls : List Call) (s : State P) : Type 0 where
  -- the mesh is closed, and no call found that it was not, or that it was not the job's
  pub closed : Closed (vertex_total s.mesh) s.mesh.triangles
  pub right_store : AllByRecursion FindsNoWrongStore (answers k vertex_room triangle_room (begun base) calls)
  -- vertices less edges plus triangles is as in the base
  pub figure : euler s.mesh ≡ euler base
  -- the triangles are those of the base and two for each forest edge less two for each tree, over the run's accepted splits
  pub triangles : triangle_total s.mesh + 2 * trees_formed_over k vertex_room triangle_room (begun base) calls
      ≡ triangle_total base + 2 * edges_marked_over k vertex_room triangle_room (begun base) calls
  -- the job's tallies are these two counts
  pub forest_edges : s.numbers.forest_edges ≡ edges_marked_over k vertex_room triangle_room (begun base) calls
  pub trees : s.numbers.trees ≡ trees_formed_over k vertex_room triangle_room (begun base) calls
  -- each base triangle is still there under its number, and its corners follow back to the corners that it had in the base, in order
  pub base_triangles : (t : ℕ) → t < triangle_total base → option_map (followed (parents s.mesh)) (slice_get s.mesh.triangles t) ≡ slice_get base.triangles t

-- two base meshes are the same: as many vertices, and the same triangles in the same order
pub record SameBase {P Q : Type 0} (a : Mesh P) (b : Mesh Q) : Type 0 where
  pub vertices : vertex_total a ≡ vertex_total b
  pub triangles : a.triangles ≡ b.triangles

-- what holds of two runs from the same base mesh, that end in a and b, on stores with room for va and vb vertices and ta and tb triangles
pub record BothKept {P D Q C : Type 0} (k : Kind P D) (l : Kind Q C) (va ta vb tb : ℕ) (one : Mesh P) (two : Mesh Q) (xs ys : List Call) (a : State P) (b : State Q) : Type 0 where
  pub first : Kept k va ta one xs a
  pub second : Kept l vb tb two ys b
  -- one figure for both meshes
  pub one_figure : euler a.mesh ≡ euler b.mesh
  -- triangle t of the base follows back to the same corners in both
  pub same_corners : (t : ℕ) → t < triangle_total one → option_map (followed (parents a.mesh)) (slice_get a.mesh.triangles t) ≡ option_map (followed (parents b.mesh)) (slice_get b.mesh.triangles t)

-- So it is now, where the runs end in a and b, and so it was after every call: where the first had come to the end of the calls
-- ps, and the second to the end of rs.
pub record AlwaysKept {P D Q C : Type 0} (k : Kind P D) (l : Kind Q C) (va ta vb tb : ℕ) (one : Mesh P) (two : Mesh Q) (xs ys : List Call) (a : State P) (b : State Q) : Type 0 where
  pub now : BothKept k l va ta vb tb one two xs ys a b
  pub before : (ps qs rs ss : List Call) → ps ++ qs ≡ xs → rs ++ ss ≡ ys → BothKept k l va ta vb tb one two ps rs (after k va ta (begun one) ps) (after l vb tb (begun two) rs)

-- any two runs, by any calls, accepted or refused, on stores of any room, whose base meshes are the same, and that end in a and b
abbrev pub TwoJobs : {P D Q C : Type 0} → Kind P D → Kind Q C → State P → State Q → Type 0
TwoJobs k l a b =
    (va ta vb tb : ℕ) (sheet other : List ℕ) (xs ys : List Call)
    → Run k va ta sheet xs a
    → Run l vb tb other ys b
    → SameBase (sheet_mesh k sheet) (sheet_mesh l other)
    → AlwaysKept k l va ta vb tb (sheet_mesh k sheet) (sheet_mesh l other) xs ys a b

-- the same of all states
abbrev pub AnyTwoJobs : {P D Q C : Type 0} → Kind P D → Kind Q C → Type 0
AnyTwoJobs {P} {D} {Q} {C} k l = (a : State P) (b : State Q) → TwoJobs k l a b
