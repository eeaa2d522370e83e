-- The record of some marks, codes and displacement bytes, as it is written.
use Rattle.std.specs.Prelude.{ℕ, ◌+◌, List, ◌∷◌, ◌++◌, length}
use Rattle.place.specs.Kinds.{Kind}
use Rattle.place.specs.Words.{word_bytes}
use Rattle.record.specs.Packing.{bytes_for, packed}

-- the length of what follows the length field
abbrev pub body_size : List ℕ → List ℕ → List ℕ → ℕ
body_size ms cs ds = 6 + bytes_for 8 (length ms) + bytes_for 4 (length cs) + length ds

-- the length of the whole
abbrev pub record_size : List ℕ → List ℕ → List ℕ → ℕ
record_size ms cs ds = 4 + body_size ms cs ds

-- length, version, kind byte and code count
abbrev pub head_bytes : {P D : Type 0} → Kind P D → ℕ → ℕ → List ℕ
head_bytes k size count = word_bytes size ++ (1 ∷ k.byte ∷ word_bytes count)

abbrev pub packed_marks : List ℕ → List ℕ
packed_marks ms = packed 1 8 (bytes_for 8 (length ms)) ms

abbrev pub packed_codes : List ℕ → List ℕ
packed_codes cs = packed 2 4 (bytes_for 4 (length cs)) cs

abbrev pub record_bytes : {P D : Type 0} → Kind P D → List ℕ → List ℕ → List ℕ → List ℕ
record_bytes k ms cs ds = head_bytes k (body_size ms cs ds) (length cs) ++ (packed_marks ms ++ (packed_codes cs ++ ds))
