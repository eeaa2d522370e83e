-- Numbers that were packed are read again, and leave the spare bits 0.
use Rattle.std.proofs.Common.{◌≡◌, ℕ, zero, suc, ◌+◌, ◌-◌, ◌*◌, ◌/◌, ◌%◌, ◌^◌, ◌<◌, ◌≤◌, List, [], ◌∷◌, ◌++◌, length, get_or, take, drop, sym, refl, ap, ◌∙◌, subst, add-zero, zero-add, mod-eq_of_lt, mul_assoc, mul_comm, add_comm, mul-suc, mul-add, add-one, arith}
use native.Mathlib.Nat.{mul-add-div_right, mul-add-mod_self_right, zero-mod}
use Rattle.std.proofs.lemmas.Nat.{pow_pos, pow-add, div-mul-add, mul-add-lt, div-add-mod', div_below, mod_below}
use Rattle.std.proofs.lemmas.List.{get_or-drop, drop-drop, take_more, length-drop}
use Rattle.std.specs.List.{sum_by, range_with_len}
use Rattle.std.proofs.lemmas.List.Sums.{sum_by-cons}
use Rattle.record.specs.Packing.{number_in, mark_in, gathered, packed, Small, marks_set}
use Rattle.record.specs.Refusals.{not_zero}

-- ---- one byte

pub pow_more : (w m : ℕ) → 2 ^ (w * suc m) ≡ 2 ^ w * 2 ^ (w * m)
pow_more w m = ap (λ (e : ℕ). 2 ^ e) (mul-suc w m ∙ add_comm (w * m) w) ∙ pow-add 2 w (w * m)

pow_split : (w p r m : ℕ) → p + r ≡ m → 2 ^ (w * m) ≡ 2 ^ (w * r) * 2 ^ (w * p)
pow_split w p r m e = ap (λ (t : ℕ). 2 ^ (w * t)) (sym e ∙ add_comm p r) ∙ ap (λ (t : ℕ). 2 ^ t) (mul-add w r p) ∙ pow-add 2 (w * r) (w * p)

pub small_drop : (w i : ℕ) (xs : List ℕ) → Small w xs → Small w (drop i xs)
small_drop w i xs h k = subst (λ (t : ℕ). t < 2 ^ w) (sym (get_or-drop i xs k 0)) (h (i + k))

pub gathered_lt : (w m : ℕ) (xs : List ℕ) → Small w xs → gathered w m xs < 2 ^ (w * m)
gathered_lt w zero xs h = pow_pos (w * zero)
gathered_lt w (suc m) xs h = subst (λ (t : ℕ). gathered w (suc m) xs < t) (sym (pow_more w m)) (below (get_or xs 0 0) (2 ^ w) (2 ^ (w * m)) (gathered w m (drop 1 xs)) (h 0) (gathered_lt w m (drop 1 xs) (small_drop w 1 xs h)))
  where
    below : (x a s r : ℕ) → x < a → r < s → x * s + r < a * s
    below x a s r p q = omega (arith, mul-add-lt x s r a p q)

-- number r of a byte
digit : (w n r : ℕ) (xs : List ℕ) → Small w xs → r < n → gathered w n xs / 2 ^ (w * (n - 1 - r)) % 2 ^ w ≡ get_or xs r 0
digit w zero r xs h l = absurd (omega arith)
digit w (suc m) zero xs h l =
    let x = get_or xs 0 0 in
    let g = gathered w m (drop 1 xs) in
    let e : suc m - 1 - zero ≡ m = omega arith in
    ap (λ (t : ℕ). (x * 2 ^ (w * m) + g) / 2 ^ (w * t) % 2 ^ w) e
    ∙ ap (λ (t : ℕ). t % 2 ^ w) (div-mul-add x (2 ^ (w * m)) g (gathered_lt w m (drop 1 xs) (small_drop w 1 xs h)))
    ∙ mod-eq_of_lt (h 0)
digit w (suc m) (suc r) xs h l =
    let x = get_or xs 0 0 in
    let g = gathered w m (drop 1 xs) in
    let p = m - 1 - r in
    let s = 2 ^ (w * p) in
    let e : suc m - 1 - suc r ≡ p = omega arith in
    let lt : r < m = omega arith in
    let q : x * 2 ^ (w * m) ≡ x * 2 ^ (w * r) * 2 ^ w * s =
    ap (λ (t : ℕ). x * t) (pow_split w p (suc r) m (omega arith) ∙ ap (λ (t : ℕ). t * s) (pow_more w r ∙ mul_comm (2 ^ w) (2 ^ (w * r))))
    ∙ sym (mul_assoc x (2 ^ (w * r) * 2 ^ w) s) ∙ ap (λ (t : ℕ). t * s) (sym (mul_assoc x (2 ^ (w * r)) (2 ^ w))) in
    ap (λ (t : ℕ). (x * 2 ^ (w * m) + g) / 2 ^ (w * t) % 2 ^ w) e
    ∙ ap (λ (t : ℕ). (t + g) / s % 2 ^ w) q
    ∙ ap (λ (t : ℕ). t % 2 ^ w) (mul-add-div_right (pow_pos (w * p)) (x * 2 ^ (w * r) * 2 ^ w) g)
    ∙ mul-add-mod_self_right (x * 2 ^ (w * r)) (2 ^ w) (g / s)
    ∙ digit w m r (drop 1 xs) (small_drop w 1 xs h) lt
    ∙ get_or-drop 1 xs r 0 ∙ ap (λ (t : ℕ). get_or xs t 0) (omega arith)

gathered_nil : (w n : ℕ) → gathered w n [] ≡ 0
gathered_nil w zero = refl
gathered_nil w (suc m) = let h = gathered_nil w m in omega arith

-- the bits below the last number are 0
gathered_low : (w n : ℕ) (xs : List ℕ) → length xs ≤ n → gathered w n xs % 2 ^ (w * (n - length xs)) ≡ 0
gathered_low w n [] l = ap (λ (t : ℕ). t % 2 ^ (w * (n - 0))) (gathered_nil w n) ∙ zero-mod (2 ^ (w * (n - 0)))
gathered_low w zero (x ∷ xs) l = absurd (omega arith)
gathered_low w (suc m) (x ∷ xs) l =
    let p = m - length xs in
    let s = 2 ^ (w * p) in
    let g = gathered w m xs in
    let e : suc m - suc (length xs) ≡ p = omega arith in
    ap (λ (t : ℕ). (x * 2 ^ (w * m) + g) % 2 ^ (w * t)) e
    ∙ ap (λ (t : ℕ). (t + g) % s) (ap (λ (t : ℕ). x * t) (pow_split w p (length xs) m (omega arith)) ∙ sym (mul_assoc x (2 ^ (w * length xs)) s))
    ∙ mul-add-mod_self_right (x * 2 ^ (w * length xs)) s g
    ∙ gathered_low w m xs (omega arith)

-- ---- many bytes

pub get_or_packed : (w n k : ℕ) (xs : List ℕ) (q : ℕ) → q < k → get_or (packed w n k xs) q 0 ≡ gathered w n (drop (n * q) xs)
get_or_packed w n zero xs q l = absurd (omega arith)
get_or_packed w n (suc k) xs zero l = let e : ◌≡◌ {A = ℕ} 0 (n * 0) = omega arith in ap (λ (t : ℕ). gathered w n (drop t xs)) e
get_or_packed w n (suc k) xs (suc q) l =
    get_or_packed w n k (drop n xs) q (omega arith)
    ∙ ap (gathered w n) (drop-drop (n * q) n xs ∙ ap (λ (t : ℕ). drop t xs) (add_comm n (n * q) ∙ sym (mul-suc n q)))

-- number i is read again
pub number_packed : (w n k : ℕ) (xs : List ℕ) (i : ℕ) → Small w xs → 0 < n → i < k * n → number_in w n (packed w n k xs) i ≡ get_or xs i 0
number_packed w n k xs i h pos l =
    let q = i / n in
    ap (λ (t : ℕ). t / 2 ^ (w * (n - 1 - i % n)) % 2 ^ w) (get_or_packed w n k xs q (div_below i n k pos l))
    ∙ digit w n (i % n) (drop (n * q) xs) (small_drop w (n * q) xs h) (mod_below i n pos)
    ∙ get_or-drop (n * q) xs (i % n) 0
    ∙ ap (λ (t : ℕ). get_or xs t 0) (ap (λ (t : ℕ). t + i % n) (mul_comm n q) ∙ div-add-mod' i n)

-- the last byte's spare bits are 0, where it holds the last j numbers
pub last_low : (w n k : ℕ) (xs : List ℕ) (j : ℕ) → j ≤ n → length xs ≡ n * k + j → get_or (packed w n (suc k) xs) k 0 % 2 ^ (w * (n - j)) ≡ 0
last_low w n k xs j l e =
    let ys = drop (n * k) xs in
    let long : length ys ≡ j = length_drop_exact in
    ap (λ (t : ℕ). t % 2 ^ (w * (n - j))) (get_or_packed w n (suc k) xs k (omega arith))
    ∙ ap (λ (t : ℕ). gathered w n ys % 2 ^ (w * (n - t))) (sym long)
    ∙ gathered_low w n ys (omega arith)
  where
    length_drop_exact : length (drop (n * k) xs) ≡ j
    length_drop_exact = omega (arith, length-drop (n * k) xs)

-- ---- marks

not_zero_append : (xs ys : List ℕ) → not_zero (xs ++ ys) ≡ not_zero xs + not_zero ys
not_zero_append [] ys = omega arith
not_zero_append (x ∷ xs) ys = let h = not_zero_append xs ys in omega arith

one_or_none : (x : ℕ) → x < 2 → not_zero (x ∷ []) ≡ x
one_or_none zero h = refl
one_or_none (suc zero) h = refl
one_or_none (suc (suc x)) h = absurd (omega arith)

-- the marks that are set are those that are not 0
pub marks_counted : (bs ms : List ℕ) (j : ℕ) → Small 1 ms → ((e : ℕ) → e < length ms → mark_in bs e ≡ get_or ms e 0) → j ≤ length ms → marks_set bs j ≡ not_zero (take j ms)
marks_counted bs ms zero h same l = refl
marks_counted bs ms (suc j) h same l =
    let lt : j < length ms = omega arith in
    let t : take (suc j) ms ≡ take j ms ++ get_or ms j 0 ∷ [] = ap (λ (i : ℕ). take i ms) (sym (add-one j)) ∙ take_more ms j 0 lt in
    let a : not_zero (take (suc j) ms) ≡ not_zero (take j ms) + get_or ms j 0 =
    ap not_zero t ∙ not_zero_append (take j ms) (get_or ms j 0 ∷ []) ∙ ap (λ (i : ℕ). not_zero (take j ms) + i) (one_or_none (get_or ms j 0) (h j)) in
    omega (arith, marks_counted bs ms j h same (omega arith), same j lt, a)

-- the marks that are set are the sum of the marks
marks_after : (bs : List ℕ) (a n : ℕ) → marks_set bs a + sum_by (mark_in bs) (range_with_len a n) ≡ marks_set bs (a + n)
marks_after bs a zero = add-zero (marks_set bs a) ∙ ap (marks_set bs) (sym (add-zero a))
marks_after bs a (suc n) =
    let first : sum_by (mark_in bs) (range_with_len a (suc n)) ≡ mark_in bs a + sum_by (mark_in bs) (range_with_len (a + 1) n) = sum_by-cons (mark_in bs) a (range_with_len (a + 1) n) in
    let more : marks_set bs (a + 1) ≡ marks_set bs a + mark_in bs a = ap (marks_set bs) (add-one a) in
    let last : a + 1 + n ≡ a + suc n = omega arith in
    omega (arith, first, more, marks_after bs (a + 1) n, ap (marks_set bs) last)

pub marks_summed : (bs : List ℕ) (m : ℕ) → sum_by (mark_in bs) (range_with_len 0 m) ≡ marks_set bs m
marks_summed bs m = omega (arith, marks_after bs 0 m, ap (marks_set bs) (zero-add m))

pub marks_few : (bs : List ℕ) (m : ℕ) → marks_set bs m ≤ m
marks_few bs zero = omega arith
marks_few bs (suc m) =
    let one : mark_in bs m < 2 = omega arith in
    let before = marks_few bs m in omega arith
