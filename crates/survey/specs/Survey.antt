-- What the survey of a surface tells.
use Rattle.std.specs.Prelude.{ℕ, List, length, pos, ◌+ℤ◌, ◌-ℤ◌, Some, None, Ok, Err, Option, Result}
use Rattle.std.specs.Option.{option_map}
use Rattle.fault.specs.declared.fault.Fault.{Fault}
use Rattle.fault.specs.declared.fault.Fault.TheVariants.{BadCorners, RepeatedSide, OpenSide, NoSingleRing}
use Rattle.fault.specs.Faults.{or_else}
use Rattle.mesh.specs.Triangles.{Tri}
use Rattle.mesh.specs.Edges.{edges}
use Rattle.mesh.specs.Limits.{counts_fault}
use Rattle.survey.specs.declared.counts.Counts.{Counts}
use Rattle.survey.specs.Checks.{first_bad, first_repeated, first_open}
use Rattle.survey.specs.Ringwalk.{first_unringed}

-- the checks of the triangles and rings, in their order, each at its lowest spot
abbrev pub shape_fault : ℕ → List Tri → Option Fault
shape_fault V ts = or_else (option_map BadCorners (first_bad V ts)) (or_else (option_map RepeatedSide (first_repeated ts)) (or_else (option_map OpenSide (first_open ts)) (option_map NoSingleRing (first_unringed V ts))))

-- the first fault of a mesh, if it has one
abbrev pub survey_fault : ℕ → List Tri → Option Fault
survey_fault V ts = or_else (counts_fault V (length ts)) (shape_fault V ts)

unfoldable pub edge_count : List Tri → ℕ
edge_count ts = length (edges ts)

-- V, E, T and V − E + T
abbrev pub counted : ℕ → ℕ → ℕ → Counts
counted v e t = record { vertices = v; edges = e; triangles = t; euler = (pos v -ℤ pos e) +ℤ pos t }

abbrev pub counted_unless : Option Fault → ℕ → List Tri → Result Counts Fault
counted_unless None V ts = Ok (counted V (edge_count ts) (length ts))
counted_unless (Some f) V ts = Err f

-- the counts of a mesh without fault, else its first fault
abbrev pub surveyed : ℕ → List Tri → Result Counts Fault
surveyed V ts = counted_unless (survey_fault V ts) V ts
