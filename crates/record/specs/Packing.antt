-- Numbers of w bits, n to a byte, from the top of each byte: marks have w = 1 and n = 8, codes have w = 2 and n = 4.
use Rattle.std.specs.Prelude.{◌≡◌, ℕ, zero, suc, ◌+◌, ◌-◌, ◌*◌, ◌/◌, ◌%◌, ◌^◌, ◌<◌, Bool, cond, List, [], ◌∷◌, length, drop, Some, None, Option, ◌==◌, nat_lt, slice_index}

-- numbers of w bits fill a byte, n of them, and not one alone
pub record Fills (w n : ℕ) : Type 0 where
  pub eight : w * n ≡ 8
  pub several : 1 < n

-- how many bytes hold m numbers
abbrev pub bytes_for : ℕ → ℕ → ℕ
bytes_for n m = (m + (n - 1)) / n

-- number i of the bytes
abbrev pub number_in : ℕ → ℕ → List ℕ → ℕ → ℕ
number_in w n bs i = slice_index bs (i / n) / 2 ^ (w * (n - 1 - i % n)) % 2 ^ w

-- what stands in the bits of the last byte that m numbers leave over, 0 where they leave none
abbrev pub spare_of : ℕ → ℕ → ℕ → ℕ → ℕ
spare_of w n m b = b % 2 ^ (w * ((n - m % n) % n))

-- the byte of the first n numbers of a list, with 0 for those that it lacks
abbrev pub gathered : ℕ → ℕ → List ℕ → ℕ
gathered w zero xs = 0
gathered w (suc m) xs = slice_index xs 0 * 2 ^ (w * m) + gathered w m (drop 1 xs)

-- k bytes of the numbers of a list, spare bits 0
abbrev pub packed : ℕ → ℕ → ℕ → List ℕ → List ℕ
packed w n zero xs = []
packed w n (suc k) xs = gathered w n xs ∷ packed w n k (drop n xs)

-- mark e of the marks' bytes, 1 if it is set
abbrev pub mark_in : List ℕ → ℕ → ℕ
mark_in bs e = number_in 1 8 bs e

-- code i of the codes' bytes
abbrev pub code_in : List ℕ → ℕ → ℕ
code_in bs i = number_in 2 4 bs i

-- whether mark e is set, none where its byte is not there
abbrev pub mark_at : List ℕ → ℕ → Option Bool
mark_at bs e = cond (nat_lt (e / 8) (length bs)) (Some (mark_in bs e == 1)) None

-- code i, none where its byte is not there
abbrev pub code_at : List ℕ → ℕ → Option ℕ
code_at bs i = cond (nat_lt (i / 4) (length bs)) (Some (code_in bs i)) None

-- how many of the first m marks are set
abbrev pub marks_set : List ℕ → ℕ → ℕ
marks_set bs zero = 0
marks_set bs (suc m) = marks_set bs m + mark_in bs m

-- each number has at most w bits
abbrev pub Small : ℕ → List ℕ → Type 0
Small w xs = (i : ℕ) → slice_index xs i < 2 ^ w
