-- Numbers that were read are packed again into the same bytes, where the spare bits are 0.
use Rattle.std.proofs.Common.{◌≡◌, ℕ, zero, suc, ◌+◌, ◌-◌, ◌*◌, ◌/◌, ◌%◌, ◌^◌, ◌<◌, ◌≤◌, List, map, length, get_or, drop, sym, ap, ◌∙◌, ⊎_elim, mod-eq_of_lt, mul_comm, add_comm, mul-zero, zero-add, mul-suc, arith}
use native.Mathlib.Nat.{zero-div, mod-one}
use Rattle.std.specs.List.{range_with_len}
use Rattle.std.proofs.lemmas.Nat.{mod-pow-add, field_of, div-mul-add, mod-mul-add, mul-le}
use Rattle.std.proofs.lemmas.List.FromFn.{length-map-range_with_len, get_or-map-range_with_len}
use Rattle.std.proofs.lemmas.List.{ext_get_or, get_or-drop, get_or_past}
use Rattle.std.proofs.lemmas.Bool.{cases_lt}
use Rattle.record.specs.Packing.{bytes_for, number_in, spare_of, gathered, packed}
use Rattle.record.proofs.Writing.{length_packed}
use Rattle.record.proofs.Ending.{ends}
use Rattle.record.proofs.Unpacking.{get_or_packed}

-- ---- one byte

-- the numbers of a byte make the byte
gathered_digits : (w n b : ℕ) (ys : List ℕ) → ((r : ℕ) → r < n → get_or ys r 0 ≡ b / 2 ^ (w * (n - 1 - r)) % 2 ^ w) → gathered w n ys ≡ b % 2 ^ (w * n)
gathered_digits w zero b ys same = sym (ap (λ (t : ℕ). b % 2 ^ t) (mul-zero w) ∙ mod-one b)
gathered_digits w (suc m) b ys same =
    let s = 2 ^ (w * m) in
    let e : suc m - 1 - 0 ≡ m = omega arith in
    let first : get_or ys 0 0 ≡ b / s % 2 ^ w = same 0 (omega arith) ∙ ap (λ (t : ℕ). b / 2 ^ (w * t) % 2 ^ w) e in
    let rest : gathered w m (drop 1 ys) ≡ b % s = gathered_digits w m b (drop 1 ys) later in
    ap (λ (t : ℕ). t * s + gathered w m (drop 1 ys)) first
    ∙ ap (λ (t : ℕ). b / s % 2 ^ w * s + t) rest
    ∙ sym (mod-pow-add b w (w * m))
    ∙ ap (λ (t : ℕ). b % 2 ^ t) (add_comm w (w * m) ∙ sym (mul-suc w m))
  where
    later : (r : ℕ) → r < m → get_or (drop 1 ys) r 0 ≡ b / 2 ^ (w * (m - 1 - r)) % 2 ^ w
    later r h =
        let f : suc m - 1 - (1 + r) ≡ m - 1 - r = omega arith in
        get_or-drop 1 ys r 0 ∙ same (1 + r) (omega arith) ∙ ap (λ (t : ℕ). b / 2 ^ (w * t) % 2 ^ w) f

-- fewer low bits are 0 too
fewer_low : (b s k : ℕ) → b % 2 ^ s ≡ 0 → k ≤ s → b % 2 ^ k ≡ 0
fewer_low b s k h l =
    let e : s - k + k ≡ s = omega arith in
    let z : b % 2 ^ (s - k + k) ≡ 0 = ap (λ (t : ℕ). b % 2 ^ t) e ∙ h in
    omega (arith, mod-pow-add b (s - k) k)

-- a number in the low bits is 0
low_number : (w b s e : ℕ) → b % 2 ^ s ≡ 0 → w + e ≤ s → b / 2 ^ e % 2 ^ w ≡ 0
low_number w b s e h l = sym (field_of b w e) ∙ ap (λ (t : ℕ). t / 2 ^ e) (fewer_low b s (w + e) h l) ∙ zero-div (2 ^ e)

-- ---- many bytes

-- the first m numbers of the bytes
abbrev pub numbers : ℕ → ℕ → ℕ → List ℕ → List ℕ
numbers w n m xs = map (number_in w n xs) (range_with_len 0 m)

module _ (w n m k : ℕ) (xs : List ℕ) (pos : 0 < n) (long : length xs ≡ k) (bytes : (i : ℕ) → get_or xs i 0 < 2 ^ (w * n)) (spare : (q r : ℕ) → q < k → r < n → m ≤ n * q + r → get_or xs q 0 / 2 ^ (w * (n - 1 - r)) % 2 ^ w ≡ 0) where
  there : (q r : ℕ) → r < n → n * q + r < m → get_or (numbers w n m xs) (n * q + r) 0 ≡ get_or xs q 0 / 2 ^ (w * (n - 1 - r)) % 2 ^ w
  there q r h l =
      let i = n * q + r in
      let turned : i ≡ q * n + r = ap (λ (t : ℕ). t + r) (mul_comm n q) in
      let byte : i / n ≡ q = ap (λ (t : ℕ). t / n) turned ∙ div-mul-add q n r h in
      let place : i % n ≡ r = ap (λ (t : ℕ). t % n) turned ∙ mod-mul-add q n r h in
      get_or-map-range_with_len (number_in w n xs) 0 m i i 0 l (zero-add i)
      ∙ ap (λ (t : ℕ). get_or xs t 0 / 2 ^ (w * (n - 1 - i % n)) % 2 ^ w) byte
      ∙ ap (λ (t : ℕ). get_or xs q 0 / 2 ^ (w * (n - 1 - t)) % 2 ^ w) place

  digits : (q : ℕ) → q < k → (r : ℕ) → r < n → get_or (drop (n * q) (numbers w n m xs)) r 0 ≡ get_or xs q 0 / 2 ^ (w * (n - 1 - r)) % 2 ^ w
  digits q lq r h = get_or-drop (n * q) (numbers w n m xs) r 0 ∙ ⊎_elim (there q r h) past (cases_lt (n * q + r) m)
    where
      past : m ≤ n * q + r → get_or (numbers w n m xs) (n * q + r) 0 ≡ get_or xs q 0 / 2 ^ (w * (n - 1 - r)) % 2 ^ w
      past l = get_or_past (numbers w n m xs) (n * q + r) 0 (omega (arith, length-map-range_with_len (number_in w n xs) 0 m)) ∙ sym (spare q r lq h l)

  pub repacked : packed w n k (numbers w n m xs) ≡ xs
  repacked =
      ext_get_or 0 (packed w n k (numbers w n m xs)) xs (length_packed w n k (numbers w n m xs) ∙ sym long)
      (λ q h.
      let l : q < k = omega (arith, length_packed w n k (numbers w n m xs)) in
      get_or_packed w n k (numbers w n m xs) q l ∙ gathered_digits w n (get_or xs q 0) (drop (n * q) (numbers w n m xs)) (digits q l) ∙ mod-eq_of_lt (bytes q))

-- ---- bytes with no spare bit set

pub numbers_repacked : (w n m : ℕ) (xs : List ℕ) → 0 < n → length xs ≡ bytes_for n m → ((i : ℕ) → get_or xs i 0 < 2 ^ (w * n)) → spare_of w n m (get_or xs (bytes_for n m - 1) 0) ≡ 0 → packed w n (bytes_for n m) (numbers w n m xs) ≡ xs
numbers_repacked w n m xs pos long bytes low = repacked w n m (bytes_for n m) xs pos long bytes (λ q r lq lr l. ⊎_elim (behind q r lq lr l) (λ h. absurd (no_byte q lq h)) (cases_lt 0 m))
  where
    no_byte : (q : ℕ) → q < bytes_for n m → m ≤ 0 → ⊥
    no_byte q lq h =
        let e : m + (n - 1) ≡ 0 * n + (n - 1) = omega arith in
        let none : bytes_for n m ≡ 0 = ap (λ (t : ℕ). t / n) e ∙ div-mul-add 0 n (n - 1) (omega arith) in
        omega arith

    -- a place behind the numbers is in the last byte
    behind : (q r : ℕ) → q < bytes_for n m → r < n → m ≤ n * q + r → 0 < m → get_or xs q 0 / 2 ^ (w * (n - 1 - r)) % 2 ^ w ≡ 0
    behind q r lq lr l h =
        let p = ends n m pos h in
        let k = p.0 in
        let j = p.1.0 in
        let e = p.1.1 in
        let full : k ≤ q = ⊎_elim (λ (less : q < k). absurd (too_far q r k j (mul-le n (suc q) n k (omega arith) less) lr l e.numbers e.some)) (λ (g : k ≤ q). g) (cases_lt q k) in
        let last : bytes_for n m - 1 ≡ q = omega (arith, e.bytes) in
        let same : n * q ≡ n * k = ap (λ (t : ℕ). n * t) (omega (arith, e.bytes)) in
        let z : get_or xs q 0 % 2 ^ (w * (n - j)) ≡ 0 = ap (λ (t : ℕ). get_or xs q 0 % 2 ^ (w * t)) (sym e.spare) ∙ ap (λ (t : ℕ). spare_of w n m (get_or xs t 0)) (sym last) ∙ low in
        let room : w * suc (n - 1 - r) ≤ w * (n - j) = mul-le w (suc (n - 1 - r)) w (n - j) (omega arith) (omega (arith, e.numbers, same)) in
        low_number w (get_or xs q 0) (w * (n - j)) (w * (n - 1 - r)) z (omega (arith, mul-suc w (n - 1 - r), room))
      where
        too_far : (q r k j : ℕ) → n * suc q ≤ n * k → r < n → m ≤ n * q + r → m ≡ n * k + j → 0 < j → ⊥
        too_far q r k j up lr l e some = omega (arith, mul-suc n q)
