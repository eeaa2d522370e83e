-- What is written reads back, and different parts are written as different bytes.
use Rattle.std.specs.Prelude.{◌≡◌, ℕ, ◌<◌, List, length, Some, None, ◌==◌, slice_index}
use Rattle.place.specs.Kinds.{Kind}
use Rattle.record.specs.Packing.{mark_at, code_at, Small}
use Rattle.record.specs.Parts.{marks_of, codes_of, displacements_of, marks_read, codes_read}
use Rattle.record.specs.Checks.{layout_fault}
use Rattle.record.specs.Written.{record_bytes}
use Rattle.record.specs.Refusals.{parts_fault, values_fault}

-- the writer takes the parts, if the buffer is long enough
pub record Accepted {P D : Type 0} (k : Kind P D) (ms cs ds : List ℕ) : Type 0 where
  pub parts_fit : parts_fault k ms cs ds ≡ None
  pub values_fit : values_fault ms cs ≡ None

-- for as many edges as there are marks the bytes are a record, and its stretches hold these marks, codes and displacement bytes
pub record ReadsAs {P D : Type 0} (k : Kind P D) (bs ms cs ds : List ℕ) : Type 0 where
  pub no_fault : layout_fault k bs (length ms) ≡ None
  pub same_marks : marks_read bs (length ms) ≡ ms
  pub same_codes : codes_read bs (length ms) ≡ cs
  pub same_displacements : displacements_of bs (length ms) ≡ ds
  -- the same by number, as the reading functions answer
  pub each_mark : (e : ℕ) → e < length ms → mark_at (marks_of bs (length ms)) e ≡ Some (slice_index ms e == 1)
  pub each_code : (i : ℕ) → i < length cs → code_at (codes_of bs (length ms)) i ≡ Some (slice_index cs i)

-- what the writer takes, it writes as bytes that read as it
abbrev pub ReadsBack : {P D : Type 0} → Kind P D → Type 0
ReadsBack k = (ms cs ds : List ℕ) → Accepted k ms cs ds → ReadsAs k (record_bytes k ms cs ds) ms cs ds

-- for one number of marks, different parts are different bytes
abbrev pub OneToOne : {P D : Type 0} → Kind P D → Type 0
OneToOne k = (ms cs ds ns es gs : List ℕ) → Accepted k ms cs ds → Accepted k ns es gs → length ms ≡ length ns → record_bytes k ms cs ds ≡ record_bytes k ns es gs → (ms ≡ ns) × (cs ≡ es) × (ds ≡ gs)

-- bytes that the layout call accepts are those of the parts that are read from them
abbrev pub WritesBack : {P D : Type 0} → Kind P D → Type 0
WritesBack k = (bs : List ℕ) (m : ℕ) → Small 8 bs → layout_fault k bs m ≡ None → record_bytes k (marks_read bs m) (codes_read bs m) (displacements_of bs m) ≡ bs
