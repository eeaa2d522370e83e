-- What a side's calls are, and what they lead to.
use Rattle.std.specs.Prelude.{ℕ, List, map}
use Rattle.place.specs.Kinds.{Kind}
use Rattle.sheet.specs.Content.{sheet_mesh}
use Rattle.runs.specs.Calls.{State, Call, offer}
use Rattle.runs.specs.Runs.{begun, after}

-- each record is offered with a work table of this length
abbrev pub offers : ℕ → List (List ℕ) → List Call
offers table records = map (λ bs. offer bs table) records

-- the job and its store after an accepted base and these records
abbrev pub played : {P D : Type 0} → Kind P D → ℕ → ℕ → ℕ → List ℕ → List (List ℕ) → State P
played k vertex_room triangle_room table sheet records = after k vertex_room triangle_room (begun (sheet_mesh k sheet)) (offers table records)
