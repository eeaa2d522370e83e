-- The limits of a record's counts.
use Rattle.std.specs.Prelude.{ℕ}

-- one mark for each edge of the largest mesh
abbrev pub max_marks : ℕ
max_marks = 49152

abbrev pub max_codes : ℕ
max_codes = 32768
