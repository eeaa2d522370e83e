-- Runs: an accepted base call on an empty store, and any calls after it.
use Rattle.std.specs.Prelude.{◌≡◌, ℕ, ◌+◌, List, [], ◌∷◌, ◌++◌, Some, None, Option}
use Rattle.fault.specs.declared.fault.Fault.{Fault}
use Rattle.place.specs.Kinds.{Kind}
use Rattle.mesh.specs.Growth.{RoomInLimits}
use Rattle.mesh.specs.Meshes.{Mesh, mesh_of}
use Rattle.sheet.specs.Content.{sheet_mesh}
use Rattle.runs.specs.Jobs.{base_numbers, base_fault, base_mesh}
use Rattle.runs.specs.Outcome.{split_fault, edges_marked, trees_formed}
use Rattle.runs.specs.Calls.{State, state_of, Call, offer, ask, write_sheet, Answer, answer, next}

-- no vertex and no triangle
abbrev pub empty_mesh : {P : Type 0} → Mesh P
empty_mesh = mesh_of [] []

-- a job that has just got its base
abbrev pub begun : {P : Type 0} → Mesh P → State P
begun m = state_of m (base_numbers m)

-- the state after all calls, one after the other
abbrev pub after : {P D : Type 0} → Kind P D → ℕ → ℕ → State P → List Call → State P
after k vertex_room triangle_room s [] = s
after k vertex_room triangle_room s (c ∷ cs) = after k vertex_room triangle_room (next k vertex_room triangle_room s c) cs

-- the answers of all calls
abbrev pub answers : {P D : Type 0} → Kind P D → ℕ → ℕ → State P → List Call → List (Answer P)
answers k vertex_room triangle_room s [] = []
answers k vertex_room triangle_room s (c ∷ cs) = answer k vertex_room triangle_room s c ∷ answers k vertex_room triangle_room (next k vertex_room triangle_room s c) cs

-- a count where there is no fault, else 0
abbrev pub if_accepted : Option Fault → ℕ → ℕ
if_accepted (Some f) n = 0
if_accepted None n = n

-- what a call adds to a count over the accepted splits, where f counts on the mesh before the split and the record's bytes
abbrev pub share : {P D : Type 0} → (Mesh P → List ℕ → ℕ) → Kind P D → ℕ → ℕ → State P → Call → ℕ
share f k vertex_room triangle_room s (offer bs table) = if_accepted (split_fault k vertex_room triangle_room table s.mesh s.numbers bs) (f s.mesh bs)
share f k vertex_room triangle_room s (ask q) = 0
share f k vertex_room triangle_room s (write_sheet room) = 0

-- the sum over the accepted splits of a run
abbrev pub summed : {P D : Type 0} → (Mesh P → List ℕ → ℕ) → Kind P D → ℕ → ℕ → State P → List Call → ℕ
summed f k vertex_room triangle_room s [] = 0
summed f k vertex_room triangle_room s (c ∷ cs) = share f k vertex_room triangle_room s c + summed f k vertex_room triangle_room (next k vertex_room triangle_room s c) cs

-- the marks set in the accepted records
abbrev pub edges_marked_over : {P D : Type 0} → Kind P D → ℕ → ℕ → State P → List Call → ℕ
edges_marked_over k = summed edges_marked k

-- the trees that they form
abbrev pub trees_formed_over : {P D : Type 0} → Kind P D → ℕ → ℕ → State P → List Call → ℕ
trees_formed_over k = summed trees_formed k

-- On a store with room for so many vertices and triangles the sheet is accepted as the base, and the calls then lead to the state s.
pub record Run {P D : Type 0} (k : Kind P D) (vertex_room triangle_room : ℕ) (sheet : List ℕ) (calls : List Call) (s : State P) : Type 0 where
  pub room : RoomInLimits vertex_room triangle_room
  pub accepted : base_fault k vertex_room triangle_room empty_mesh sheet ≡ None
  pub ends : after k vertex_room triangle_room (begun (sheet_mesh k sheet)) calls ≡ s

-- an accepted base call on an empty store begins a run
abbrev pub RunsBegin : {P D : Type 0} → Kind P D → Type 0
RunsBegin {P} {D} k =
    (vertex_room triangle_room : ℕ) (m : Mesh P) (sheet : List ℕ) → RoomInLimits vertex_room triangle_room → base_fault k vertex_room triangle_room m sheet ≡ None
    → Run k vertex_room triangle_room sheet [] (state_of (base_mesh k vertex_room triangle_room m sheet) (base_numbers (sheet_mesh k sheet)))

-- a call that leads from s to t goes on every run that ends in s
abbrev pub GoesOn : {P D : Type 0} → Kind P D → ℕ → ℕ → State P → Call → State P → Type 0
GoesOn k vertex_room triangle_room s c t =
    (sheet : List ℕ) (calls : List Call) → Run k vertex_room triangle_room sheet calls s → Run k vertex_room triangle_room sheet (calls ++ (c ∷ [])) t

-- every call goes on every run
abbrev pub RunsGoOn : {P D : Type 0} → Kind P D → Type 0
RunsGoOn {P} {D} k = (vertex_room triangle_room : ℕ) (s : State P) (c : Call) → GoesOn k vertex_room triangle_room s c (next k vertex_room triangle_room s c)
