-- The survey of a sheet: its own checks, then those of the surface that it means.
use Rattle.std.specs.Prelude.{ℕ, List, Some, None, Err, Option, Result}
use Rattle.fault.specs.declared.fault.Fault.{Fault}
use Rattle.place.specs.Kinds.{Kind}
use Rattle.mesh.specs.Meshes.{Mesh, vertex_total}
use Rattle.survey.specs.declared.counts.Counts.{Counts}
use Rattle.survey.specs.Survey.{surveyed}
use Rattle.sheet.specs.Content.{sheet_mesh, sheet_fault, sheet_fault_within}

-- the survey of a mesh, unless there was a fault before
abbrev pub surveyed_unless : {P : Type 0} → Option Fault → Mesh P → Result Counts Fault
surveyed_unless (Some f) m = Err f
surveyed_unless None m = surveyed (vertex_total m) m.triangles

unfoldable pub sheet_surveyed : {P D : Type 0} → Kind P D → List ℕ → Result Counts Fault
sheet_surveyed k bs = surveyed_unless (sheet_fault k bs) (sheet_mesh k bs)

-- the same for a store of these capacities
unfoldable pub sheet_surveyed_within : {P D : Type 0} → Kind P D → ℕ → ℕ → List ℕ → Result Counts Fault
sheet_surveyed_within k vertex_capacity triangle_capacity bs = surveyed_unless (sheet_fault_within k vertex_capacity triangle_capacity bs) (sheet_mesh k bs)
