-- Big-endian numbers of 16 and of 32 bits: the first byte is the highest.
use Rattle.std.specs.Prelude.{ℕ, ◌+◌, ◌*◌, ◌/◌, ◌%◌, cond, List, [], ◌∷◌, length, take, drop, None, Some, Option, nat_lt, slice_index}

-- the number that the two bytes from i on stand for
abbrev pub half : List ℕ → ℕ → ℕ
half bs i = slice_index bs i * 256 + slice_index bs (i + 1)

-- the two bytes of a number
abbrev pub half_bytes : ℕ → List ℕ
half_bytes n = (n / 256 % 256) ∷ (n % 256) ∷ []

-- the number that the four bytes from i on stand for
abbrev pub word : List ℕ → ℕ → ℕ
word bs i = slice_index bs i * 16777216 + slice_index bs (i + 1) * 65536 + slice_index bs (i + 2) * 256 + slice_index bs (i + 3)

-- the four bytes of a number
abbrev pub word_bytes : ℕ → List ℕ
word_bytes n = (n / 16777216 % 256) ∷ (n / 65536 % 256) ∷ (n / 256 % 256) ∷ (n % 256) ∷ []

-- the first three pieces of n bytes, none where there are fewer bytes
abbrev pub three_pieces : ℕ → List ℕ → Option (List (List ℕ))
three_pieces n bs = cond (nat_lt (length bs) (3 * n)) None (Some (take n bs ∷ take n (drop n bs) ∷ take n (drop (2 * n) bs) ∷ []))
