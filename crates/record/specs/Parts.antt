-- The parts of a record: its fields, and where its stretches lie for an edge count.
-- Offset 0 has the length of what follows, 4 the version, 5 the kind byte, 6 the code count, 10 the marks.
use Rattle.std.specs.Prelude.{ℕ, ◌+◌, ◌*◌, List, map, take, drop}
use Rattle.std.specs.List.{range_with_len}
use Rattle.place.specs.Words.{word}
use Rattle.place.specs.Kinds.{Kind}
use Rattle.record.specs.Packing.{bytes_for, mark_in, code_in, marks_set}

abbrev pub code_count : List ℕ → ℕ
code_count bs = word bs 6

-- where the codes begin, behind the marks
abbrev pub codes_from : ℕ → ℕ
codes_from m = 10 + bytes_for 8 m

-- where the displacements begin, behind the codes
abbrev pub displacements_from : List ℕ → ℕ → ℕ
displacements_from bs m = codes_from m + bytes_for 4 (code_count bs)

-- the bytes of each stretch
abbrev pub marks_of : List ℕ → ℕ → List ℕ
marks_of bs m = take (bytes_for 8 m) (drop 10 bs)

abbrev pub codes_of : List ℕ → ℕ → List ℕ
codes_of bs m = take (bytes_for 4 (code_count bs)) (drop (codes_from m) bs)

abbrev pub displacements_of : List ℕ → ℕ → List ℕ
displacements_of bs m = drop (displacements_from bs m) bs

-- the marks, one number for each edge, 1 where it is marked
abbrev pub marks_read : List ℕ → ℕ → List ℕ
marks_read bs m = map (mark_in (marks_of bs m)) (range_with_len 0 m)

-- the codes, as many as the record says
abbrev pub codes_read : List ℕ → ℕ → List ℕ
codes_read bs m = map (code_in (codes_of bs m)) (range_with_len 0 (code_count bs))

-- how many marks are set
abbrev pub set_count : List ℕ → ℕ → ℕ
set_count bs m = marks_set (marks_of bs m) m

-- the size that a record must have, with two displacements for each mark that is set
abbrev pub due_size : {P D : Type 0} → Kind P D → List ℕ → ℕ → ℕ
due_size k bs m = displacements_from bs m + 2 * set_count bs m * k.displacement_width
