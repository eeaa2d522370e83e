-- The limits of a mesh's counts.
use Rattle.std.specs.Prelude.{ℕ, Bool, cond, ◌&&◌, Some, None, Ok, Err, Option, Result, nat_le}
use Rattle.fault.specs.declared.fault.Count.TheVariants.{Vertices, Triangles}
use Rattle.fault.specs.declared.fault.Fault.{Fault}
use Rattle.fault.specs.declared.fault.Fault.TheVariants.{SheetCounts}
use Rattle.mesh.specs.declared.limits.Totals.{Totals}

-- n is at least low and at most high
abbrev pub between : ℕ → ℕ → ℕ → Bool
between low high n = nat_le low n && nat_le n high

-- the vertices are 3 to 16,384, the triangles 2 to 32,768; the vertices are told first
abbrev pub counts_fault : ℕ → ℕ → Option Fault
counts_fault V T = cond (between 3 16384 V) (cond (between 2 32768 T) None (Some (SheetCounts Triangles))) (Some (SheetCounts Vertices))

-- the counts unless there is a fault
abbrev pub totals_unless : Option Fault → ℕ → ℕ → Result (ℕ × ℕ) Fault
totals_unless None V T = Ok (V, T)
totals_unless (Some f) V T = Err f

-- what is told of a mesh's totals
abbrev pub totals_told : Result Totals Fault → Result (ℕ × ℕ) Fault
totals_told (Ok t) = Ok (t.vertices, t.triangles)
totals_told (Err f) = Err f
