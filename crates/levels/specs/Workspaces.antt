-- A workspace: a store for 256 grid places and 512 triangles, and a work table.
use Rattle.std.specs.Prelude.{Ok, Err, Result}
use Rattle.fault.specs.declared.fault.Fault.{Fault}
use Rattle.place.specs.declared.grid.Grid.{Grid}
use Rattle.place.specs.Grids.{grid_kind}
use Rattle.mesh.specs.Meshes.{Mesh, vertex_total}
use Rattle.survey.specs.declared.counts.Counts.{Counts}
use Rattle.survey.specs.Survey.{surveyed}
use Rattle.stores.specs.Chained.{chain_mesh}
use Rattle.runs.specs.Jobs.{Numbers}
use Rattle.job.specs.declared.running.Running.{Running}
use Rattle.job.specs.Answers.{job_of}
use Rattle.levels.specs.declared.workspace.Workspace.{Workspace}

-- the mesh in the store
abbrev pub mesh_in : Workspace → Mesh Grid
mesh_in w = chain_mesh grid_kind w.store

-- what a survey tells of it
abbrev pub counted_in : Workspace → Result Counts Fault
counted_in w = surveyed (vertex_total (mesh_in w)) (mesh_in w).triangles

-- the numbers of the job that starts, or the fault
abbrev pub started : Result (Running × Counts) Fault → Result Numbers Fault
started (Ok s) = Ok (job_of s.0)
started (Err f) = Err f
