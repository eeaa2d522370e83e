-- Packing numbers into bytes: one number more in a byte, and one byte more.
use Rattle.std.proofs.Common.{◌≡◌, ℕ, zero, suc, ◌+◌, ◌-◌, ◌*◌, ◌/◌, ◌%◌, ◌^◌, ◌<◌, ◌≤◌, ◌⊎◌, inl, inr, List, [], ◌∷◌, ◌++◌, length, get_or, take, drop, min, slice_index, slice_set, sym, refl, ap, ◌∙◌, subst, mul_comm, mul_assoc, mul-zero, add-one, arith}
use Rattle.std.proofs.Math.Nat.{add-mul, add-div_right, div-eq_of_lt, pow-le-pow_right}
use Rattle.std.proofs.lemmas.Bool.{cases_lt}
use Rattle.std.proofs.lemmas.Nat.{mul-le, one_shl, pow_pos}
use Rattle.std.proofs.lemmas.List.{append_assoc, append-nil, get_or_append_left, get_or_past, get_or-drop, drop_all, drop_at, nil_from_length, length-append, length-set, take_all, take_more_set}
use Rattle.record.specs.Packing.{Fills, Small, bytes_for, gathered, packed}
use Rattle.record.proofs.Unpacking.{pow_more, gathered_lt, small_drop}

-- a byte has the numbers in front
gathered_front : (w m : ℕ) (xs ys : List ℕ) → m ≤ length xs → gathered w m (xs ++ ys) ≡ gathered w m xs
gathered_front w zero xs ys h = refl
gathered_front w (suc m) [] ys h = absurd (omega arith)
gathered_front w (suc m) (x ∷ xs) ys h = ap (λ (t : ℕ). x * 2 ^ (w * m) + t) (gathered_front w m xs ys (omega arith))

-- packing on its way: k bytes of `out` are there, and the bytes of the numbers that are left make it all
pub record Packs (w n k : ℕ) (left out all : List ℕ) : Type 0 where
  pub small : Small w left
  pub count : k + bytes_for n (length left) ≡ length out
  pub bytes : take k out ++ packed w n (bytes_for n (length left)) left ≡ all

-- where nothing is left, all is there
pub packs_all : (w n k : ℕ) (left out all : List ℕ) → Fills w n → length left ≡ 0 → Packs w n k left out all → out ≡ all
packs_all w n k left out all fills none p =
    let b : bytes_for n (length left) ≡ 0 = ap (bytes_for n) none ∙ div-eq_of_lt (omega (arith, fills.several)) in
    sym (take_all k out (omega (arith, p.count, b)))
    ∙ sym (append-nil (take k out))
    ∙ ap (λ (t : ℕ). take k out ++ packed w n t left) (sym b)
    ∙ p.bytes

-- a piece in front, of n numbers or of all where there are fewer, and the rest behind it
module _ (w n size : ℕ) (xs piece rest : List ℕ) (fills : Fills w n) (size_is : size ≡ n) (cut : (xs ≡ piece ++ rest) × (length piece ≡ min size (length xs)) × (0 < length xs)) where
  both : length xs ≡ length piece + length rest
  both = ap length cut.0 ∙ length-append piece rest

  record Cut : Type 0 where
    pub byte : gathered w n xs ≡ gathered w n piece
    pub behind : drop n xs ≡ rest
    pub bytes : (length xs - 1) / n ≡ bytes_for n (length rest)

  cuts : Cut
  cuts = by (cases_lt (length xs) n)
    where
      by : (length xs < n) ⊎ (n ≤ length xs) → Cut
      by (inl l) =
          let e : rest ≡ [] = nil_from_length rest (omega (arith, both, cut.1, size_is)) in
          record {
            byte = ap (gathered w n) (cut.0 ∙ ap (λ (t : List ℕ). piece ++ t) e ∙ append-nil piece);
            behind = drop_all n xs (omega arith) ∙ sym e;
            bytes = div-eq_of_lt (omega (arith, cut.2)) ∙ sym (ap (λ (t : List ℕ). bytes_for n (length t)) e ∙ div-eq_of_lt (omega (arith, fills.several)));
          }
      by (inr l) =
          let e : length xs - 1 ≡ length rest + (n - 1) = omega (arith, both, cut.1, size_is) in
          record {
            byte = ap (gathered w n) cut.0 ∙ gathered_front w n piece rest (omega (arith, cut.1, size_is));
            behind = ap (drop n) cut.0 ∙ drop_at piece rest n (omega (arith, cut.1, size_is));
            bytes = ap (λ (t : ℕ). t / n) e;
          }

  pub one_byte_less : bytes_for n (length xs) ≡ suc (bytes_for n (length rest))
  one_byte_less =
      let e : length xs + (n - 1) ≡ length xs - 1 + n = omega (arith, cut.2, fills.several) in
      ap (λ (t : ℕ). t / n) e ∙ add-div_right (length xs - 1) (omega (arith, fills.several)) ∙ ap (λ (t : ℕ). t + 1) cuts.bytes ∙ add-one (bytes_for n (length rest))

  pub piece_small : Small w xs → Small w piece
  piece_small h i = by (cases_lt i (length piece))
    where
      by : (i < length piece) ⊎ (length piece ≤ i) → slice_index piece i < 2 ^ w
      by (inl l) = subst (λ (t : ℕ). t < 2 ^ w) (ap (λ (t : List ℕ). get_or t i 0) cut.0 ∙ get_or_append_left piece rest 0 i l) (h i)
      by (inr l) = subst (λ (t : ℕ). t < 2 ^ w) (sym (get_or_past piece i 0 l)) (pow_pos w)

  piece_packed : packed w n (bytes_for n (length xs)) xs ≡ gathered w n piece ∷ packed w n (bytes_for n (length rest)) rest
  piece_packed =
      ap (λ (t : ℕ). packed w n t xs) one_byte_less
      ∙ ap (λ (t : ℕ). t ∷ packed w n (bytes_for n (length rest)) (drop n xs)) cuts.byte
      ∙ ap (λ (t : List ℕ). gathered w n piece ∷ packed w n (bytes_for n (length rest)) t) cuts.behind

  -- the piece's byte is written
  pub packs_more : (k next i byte : ℕ) (out all : List ℕ) → next ≡ k + 1 → i ≡ k → byte ≡ gathered w n piece → Packs w n k xs out all → Packs w n next rest (slice_set out i byte) all
  packs_more k next i byte out all a b c p = record {
    small = subst (Small w) cuts.behind (small_drop w n xs p.small);
    count = omega (arith, a, p.count, one_byte_less, length-set out i byte);
    bytes =
        (λ j. take (a j) (slice_set out (b j) (c j)) ++ packed w n (bytes_for n (length rest)) rest)
        ∙ ap (λ (t : List ℕ). t ++ packed w n (bytes_for n (length rest)) rest) (take_more_set out k (gathered w n piece) (omega (arith, p.count, one_byte_less)))
        ∙ append_assoc (take k out) (gathered w n piece ∷ []) (packed w n (bytes_for n (length rest)) rest)
        ∙ ap (λ (t : List ℕ). take k out ++ t) (sym piece_packed)
        ∙ p.bytes;
  }

-- the numbers of a byte with one more behind them
gathered_more : (w m : ℕ) (xs : List ℕ) → gathered w (suc m) xs ≡ gathered w m xs * 2 ^ w + get_or xs m 0
gathered_more w zero xs =
    let e : 2 ^ (w * 0) ≡ 1 = ap (λ (t : ℕ). 2 ^ t) (mul-zero w) in
    ap (λ (t : ℕ). get_or xs 0 0 * t + 0) e ∙ omega arith
gathered_more w (suc m) xs =
    let x = get_or xs 0 0 in
    let g = gathered w m (drop 1 xs) in
    let p : x * 2 ^ (w * suc m) ≡ x * 2 ^ (w * m) * 2 ^ w = ap (λ (t : ℕ). x * t) (pow_more w m ∙ mul_comm (2 ^ w) (2 ^ (w * m))) ∙ sym (mul_assoc x (2 ^ (w * m)) (2 ^ w)) in
    let q : (x * 2 ^ (w * m) + g) * 2 ^ w ≡ x * 2 ^ (w * m) * 2 ^ w + g * 2 ^ w = add-mul (x * 2 ^ (w * m)) g (2 ^ w) in
    let r : get_or (drop 1 xs) m 0 ≡ get_or xs (suc m) 0 = get_or-drop 1 xs m 0 ∙ ap (λ (t : ℕ). get_or xs t 0) (omega arith) in
    omega (arith, p, q, r, gathered_more w m (drop 1 xs))

module _ (w n : ℕ) (fills : Fills w n) where
  -- the power of two that the code shifts out
  pub shifted : 1 * 2 ^ w % 256 ≡ 2 ^ w
  shifted = one_shl w 8 (omega (arith, mul-le w 2 w n (omega arith) fills.several, fills.eight))

  -- a step of gathering: the byte with one number more, which still fits
  pub one_more : (i b : ℕ) (xs : List ℕ) → Small w xs → i < n → b ≡ gathered w i xs → (b * (1 * 2 ^ w % 256) + get_or xs i 0 ≡ gathered w (i + 1) xs) × (gathered w (i + 1) xs < 256)
  one_more i b xs small l e =
      let up : w * suc i ≤ w * n = mul-le w (suc i) w n (omega arith) l in
      let top : 2 ^ (w * n) ≡ 256 = ap (λ (t : ℕ). 2 ^ t) fills.eight in
      let more : gathered w (i + 1) xs ≡ gathered w (suc i) xs = ap (λ (t : ℕ). gathered w t xs) (add-one i) in
      let step : b * (1 * 2 ^ w % 256) ≡ gathered w i xs * 2 ^ w = ap (λ (t : ℕ). b * t) shifted ∙ ap (λ (t : ℕ). t * 2 ^ w) e in (
        omega (arith, step, more, gathered_more w i xs),
        omega (arith, more, gathered_lt w (suc i) xs small, pow-le-pow_right {n = 2} (omega arith) up, top),
      )
