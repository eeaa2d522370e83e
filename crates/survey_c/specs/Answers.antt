-- What the survey of a sheet answers to a C program.
use Rattle.std.specs.Prelude.{ℕ, cond, List, ◌++◌, length, drop, ℤ, pos, Ok, Err, Result, ◌==◌, nat_lt, slice_index}
use Rattle.std.specs.Int.{w32}
use Rattle.std.proofs.Common.{of_z}
use Rattle.fault.specs.declared.fault.Fault.{Fault}
use Rattle.fault.specs.declared.fault.Fault.TheVariants.{ShortBuffer}
use Rattle.fault.specs.Faults.{told}
use Rattle.place.specs.Words.{word_bytes}
use Rattle.place.specs.Grids.{grid_kind}
use Rattle.place.specs.Floats.{float_kind}
use Rattle.survey.specs.declared.counts.Counts.{Counts}
use Rattle.sheet.specs.Surveying.{sheet_surveyed}

-- a sheet with the kind byte of the floats is read as floats; any other as the grid, which refuses all but its own
abbrev pub any_surveyed : List ℕ → Result Counts Fault
any_surveyed bs = cond (slice_index bs 5 == float_kind.byte) (sheet_surveyed float_kind bs) (sheet_surveyed grid_kind bs)

-- four bytes, the first the highest, in two's complement
abbrev pub signed_bytes : ℤ → List ℕ
signed_bytes z = word_bytes (of_z w32 z)

-- V, E, T and V − E + T
abbrev pub counts_bytes : Counts → List ℕ
counts_bytes c = signed_bytes (pos c.vertices) ++ (signed_bytes (pos c.edges) ++ (signed_bytes (pos c.triangles) ++ signed_bytes c.euler))

-- 0, or the refusal's number
abbrev pub number_of : Result Counts Fault → ℕ
number_of (Ok c) = 0
number_of (Err f) = (told f).number

-- the counts in front, or nothing written
abbrev pub written : Result Counts Fault → List ℕ → List ℕ
written (Ok c) out = counts_bytes c ++ drop 16 out
written (Err f) out = out

-- a buffer under 16 bytes is refused before anything else
abbrev pub answer : List ℕ → List ℕ → ℕ
answer bs out = cond (nat_lt (length out) 16) (told (ShortBuffer 16)).number (number_of (any_surveyed bs))

abbrev pub after : List ℕ → List ℕ → List ℕ
after bs out = cond (nat_lt (length out) 16) out (written (any_surveyed bs) out)
