-- The checks of a record's bytes, in their order, for a kind of place and an edge count m.
use Rattle.std.specs.Prelude.{ℕ, ◌+◌, cond, ◌&&◌, List, length, Some, None, Option, ◌==◌, nat_le, slice_index}
use Rattle.fault.specs.Faults.{or_else}
use Rattle.fault.specs.declared.fault.Fault.{Fault}
use Rattle.fault.specs.declared.fault.Fault.TheVariants.{RecordLength, RecordVersion, RecordKind, MarksCutShort, SpareMarkBit, RecordSize, SpareCodeBit}
use Rattle.place.specs.Kinds.{Kind}
use Rattle.place.specs.Words.{word}
use Rattle.record.specs.Limits.{max_marks}
use Rattle.record.specs.Packing.{spare_of, bytes_for}
use Rattle.record.specs.Parts.{code_count, codes_from, due_size}

-- the head is there, and the length is that of what follows it
abbrev pub length_fault : List ℕ → Option Fault
length_fault bs = cond (nat_le 10 (length bs) && word bs 0 + 4 == length bs) None (Some RecordLength)

abbrev pub version_fault : List ℕ → Option Fault
version_fault bs = cond (slice_index bs 4 == 1) None (Some RecordVersion)

abbrev pub kind_fault : {P D : Type 0} → Kind P D → List ℕ → Option Fault
kind_fault k bs = cond (slice_index bs 5 == k.byte) None (Some RecordKind)

-- the edges are not too many, and their marks are there
abbrev pub marks_fault : List ℕ → ℕ → Option Fault
marks_fault bs m = cond (nat_le m max_marks && nat_le (codes_from m) (length bs)) None (Some MarksCutShort)

-- no bit is set behind the last mark: it would stand in the last byte before the codes
abbrev pub spare_mark_fault : List ℕ → ℕ → Option Fault
spare_mark_fault bs m =
    let last = 9 + bytes_for 8 m in
    cond (spare_of 1 8 m (slice_index bs last) == 0) None (Some (SpareMarkBit last))

-- the head and the marks
abbrev pub head_fault : {P D : Type 0} → Kind P D → List ℕ → ℕ → Option Fault
head_fault k bs m =
    or_else (length_fault bs) (or_else (version_fault bs) (or_else (kind_fault k bs) (or_else (marks_fault bs m) (spare_mark_fault bs m))))

-- the record is as long as its parts ask
abbrev pub size_fault : {P D : Type 0} → Kind P D → List ℕ → ℕ → Option Fault
size_fault k bs m = cond (length bs == due_size k bs m) None (Some RecordSize)

-- no bit is set behind the last code: it would stand in the last byte before the displacements
abbrev pub code_bits_fault : List ℕ → ℕ → Option Fault
code_bits_fault bs m =
    let last = 9 + bytes_for 8 m + bytes_for 4 (code_count bs) in
    cond (spare_of 2 4 (code_count bs) (slice_index bs last) == 0) None (Some (SpareCodeBit last))

-- all checks of the layout call
abbrev pub layout_fault : {P D : Type 0} → Kind P D → List ℕ → ℕ → Option Fault
layout_fault k bs m = or_else (head_fault k bs m) (or_else (size_fault k bs m) (code_bits_fault bs m))
