-- Numbers read back from their bytes, and from the front of a list alone.
use Rattle.std.specs.Prelude.{◌≡◌, ℕ, ◌+◌, ◌*◌, ◌/◌, ◌%◌, ◌<◌, ◌≤◌, List, length, take, nat_lt}
use Rattle.std.proofs.Common.{sym, ap, ◌∙◌, arith, length-take, get_or-take}
use Rattle.std.proofs.lemmas.Nat.{shr-shr, div-add-mod'}
use Rattle.std.proofs.lemmas.Bool.Decides.{nat_tests}
use Rattle.place.specs.Words.{half, half_bytes, word, word_bytes}

pub half_back : (n : ℕ) → n < 65536 → half (half_bytes n) 0 ≡ n
half_back n h = omega arith

-- one digit at a time: each quotient with its rest is the one before
pub word_back : (n : ℕ) → n < 4294967296 → word (word_bytes n) 0 ≡ n
word_back n h =
    let top : n / 16777216 % 256 ≡ n / 16777216 = omega arith in
    let q1 : n / 65536 * 256 + n / 256 % 256 ≡ n / 256 = ap (λ (q : ℕ). q * 256 + n / 256 % 256) (sym (shr-shr n 8 8)) ∙ div-add-mod' (n / 256) 256 in
    let q2 : n / 16777216 * 256 + n / 65536 % 256 ≡ n / 65536 = ap (λ (q : ℕ). q * 256 + n / 65536 % 256) (sym (shr-shr n 16 8)) ∙ div-add-mod' (n / 65536) 256 in
    ap (λ (t : ℕ). t * 16777216 + (n / 65536 % 256) * 65536 + (n / 256 % 256) * 256 + n % 256) top
    ∙ join n (n / 256) (n / 65536) (n / 16777216) (n % 256) (n / 256 % 256) (n / 65536 % 256) (div-add-mod' n 256) q1 q2
  where
    join : (n q1 q2 q3 r0 r1 r2 : ℕ) → q1 * 256 + r0 ≡ n → q2 * 256 + r1 ≡ q1 → q3 * 256 + r2 ≡ q2 → q3 * 16777216 + r2 * 65536 + r1 * 256 + r0 ≡ n
    join n q1 q2 q3 r0 r1 r2 a b c = omega arith

pub front_length : (n : ℕ) (bs : List ℕ) → nat_lt (length (take n bs)) n ≡ nat_lt (length bs) n
front_length n bs = rw length-take (grind (arith, nat_tests))

pub half_front : (n : ℕ) (bs : List ℕ) (i : ℕ) → i + 2 ≤ n → half (take n bs) i ≡ half bs i
half_front n bs i h =
    let a = get_or-take n bs i 0 (omega arith) in
    let b = get_or-take n bs (i + 1) 0 (omega arith) in
    λ j. a j * 256 + b j

pub word_front : (n : ℕ) (bs : List ℕ) (i : ℕ) → i + 4 ≤ n → word (take n bs) i ≡ word bs i
word_front n bs i h =
    let a = get_or-take n bs i 0 (omega arith) in
    let b = get_or-take n bs (i + 1) 0 (omega arith) in
    let c = get_or-take n bs (i + 2) 0 (omega arith) in
    let d = get_or-take n bs (i + 3) 0 (omega arith) in
    λ j. a j * 16777216 + b j * 65536 + c j * 256 + d j
