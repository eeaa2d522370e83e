-- The levels that jobs come to.
use Rattle.std.specs.Prelude.{◌≡◌, ℕ, Bool, true, List}
use Rattle.place.specs.Kinds.{Kind}
use Rattle.mesh.specs.Meshes.{Mesh, vertex_total}
use Rattle.survey.specs.Survey.{surveyed}
use Rattle.runs.specs.Jobs.{Numbers}
use Rattle.runs.specs.Calls.{State, Call}
use Rattle.runs.specs.Runs.{Run}
use Rattle.job.specs.declared.level.Level.{Level}
use Rattle.job.specs.Answers.{report_of}
use Rattle.job.specs.Balance.{balanced}

-- what a survey finds in the mesh, and what the job's numbers tell
abbrev pub level_of : {P : Type 0} → Mesh P → Numbers → Level
level_of m n = record { found = surveyed (vertex_total m) m.triangles; told = report_of n }

-- what is found is what is told
abbrev pub level_balances : Level → Bool
level_balances l = balanced l.found l.told

-- the state's level balances, whatever run of calls from whatever base led to it
abbrev pub RunsBalance : {P D : Type 0} → Kind P D → State P → Type 0
RunsBalance k s =
    (vertex_room triangle_room : ℕ) (sheet : List ℕ) (calls : List Call) → Run k vertex_room triangle_room sheet calls s → level_balances (level_of s.mesh s.numbers) ≡ true
