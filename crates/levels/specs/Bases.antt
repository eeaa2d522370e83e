-- What is told of a base.
use Rattle.std.specs.Prelude.{◌≡◌, ℕ, ◌+◌, ◌⊎◌, IfOk, List, take, Ok, Err, Result}
use Rattle.fault.specs.declared.fault.Fault.{Fault}
use Rattle.fault.specs.declared.fault.Fault.TheVariants.{SheetLength}
use Rattle.place.specs.Words.{word}
use Rattle.place.specs.Grids.{grid_kind}
use Rattle.survey.specs.declared.counts.Counts.{Counts}
use Rattle.runs.specs.Jobs.{base_mesh, base_answer}
use Rattle.job.specs.declared.running.Running.{Running}
use Rattle.levels.specs.declared.workspace.Workspace.{Workspace}
use Rattle.levels.specs.Workspaces.{mesh_in, counted_in, started}

-- what is told of a sheet: the base call's answer, and of a base the counts that a survey tells of the mesh that the workspace holds then
abbrev pub BaseTold : Workspace → List ℕ → Workspace → Result (Running × Counts) Fault → Type 0
BaseTold w bs w' r =
    (started r ≡ base_answer grid_kind 256 512 (mesh_in w) bs)
    × (mesh_in w' ≡ base_mesh grid_kind 256 512 (mesh_in w) bs)
    × IfOk r (λ s. Ok s.1 ≡ counted_in w')

-- what is told of a buffer into which the sheet was read: that it did not come whole, or what is told of as many bytes as its first four tell
abbrev pub BaseRead : Workspace → List ℕ → Workspace → Result (Running × Counts) Fault → Type 0
BaseRead w buffer w' r = (r ≡ Err SheetLength) ⊎ BaseTold w (take (word buffer 0 + 4) buffer) w' r
