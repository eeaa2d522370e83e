-- How often numbers stand in a list.
use Rattle.std.proofs.Common.{◌≡◌, ℕ, zero, suc, ◌+◌, ◌<◌, ◌≤◌, Bool, true, cond, ◌&&◌, eqb, ltb, List, [], ◌∷◌, length, refl, ◌∙◌, ⊎_elim, arith}
use Rattle.std.proofs.lemmas.Bool.{cases_eq}
use Rattle.std.proofs.lemmas.Bool.Decides.{nat_tests}
use Rattle.stores.specs.Chains.{one, times}

pub one_self : (i : ℕ) → one (eqb i i) ≡ 1
one_self i = grind (arith, nat_tests)

pub one_other : (i j : ℕ) → (i ≡ j → ⊥) → one (eqb i j) ≡ 0
one_other i j n = grind (arith, nat_tests)

pub one_small : (b : Bool) → one b ≤ 1
one_small b = grind (arith, nat_tests)

pub one_parts : (x y : Bool) → 0 < one (x && y) → (x ≡ true) × (y ≡ true)
one_parts x y h = grind (arith, nat_tests)

pub one_below : (i n : ℕ) (b : Bool) → 0 < one (ltb i n && b) → i < n
one_below i n b h = grind (arith, nat_tests)

pub one_past : (i n : ℕ) (b : Bool) → n ≤ i → one (ltb i n && b) ≡ 0
one_past i n b l = grind (arith, nat_tests)

-- the list without i
abbrev lacking : ℕ → List ℕ → List ℕ
lacking i [] = []
lacking i (x ∷ xs) = cond (eqb i x) (lacking i xs) (x ∷ lacking i xs)

length_lacking : (i : ℕ) (xs : List ℕ) → length xs ≡ times i xs + length (lacking i xs)
length_lacking i [] = omega arith
length_lacking i (x ∷ xs) = let r = length_lacking i xs in grind (arith, nat_tests)

times_lacking : (i j : ℕ) (xs : List ℕ) → (j ≡ i → ⊥) → times j (lacking i xs) ≡ times j xs
times_lacking i j [] n = refl
times_lacking i j (x ∷ xs) n = let r = times_lacking i j xs n in grind (arith, nat_tests)

times_lacked : (i : ℕ) (xs : List ℕ) → times i (lacking i xs) ≡ 0
times_lacked i [] = refl
times_lacked i (x ∷ xs) = let r = times_lacked i xs in grind (arith, nat_tests)

-- numbers below n, each at most once, are at most n
few_once : (n : ℕ) (is : List ℕ) → ((i : ℕ) → times i is ≤ 1) → ((i : ℕ) → n ≤ i → times i is ≡ 0) → length is ≤ n
few_once n [] once below = omega arith
few_once zero (i ∷ is) once below = absurd (omega (arith, below i (omega arith), one_self i))
few_once (suc n) (i ∷ is) once below =
    let xs = i ∷ is in
    let r = few_once n (lacking n xs)
    (λ j. ⊎_elim (λ (e : j ≡ n). rw e (omega (arith, times_lacked n xs))) (λ (m : j ≡ n → ⊥). omega (arith, times_lacking n j xs m, once j)) (cases_eq j n))
    (λ j l. ⊎_elim (λ (e : j ≡ n). rw e (times_lacked n xs)) (λ (m : j ≡ n → ⊥). times_lacking n j xs m ∙ below j (omega arith)) (cases_eq j n)) in
    omega (arith, length_lacking n xs, once n)

-- a list of some of the first n corners, each once, is no longer than n
pub few_corners : (n : ℕ) (b : ℕ → Bool) (is : List ℕ) → ((i : ℕ) → times i is ≡ one (ltb i n && b i)) → length is ≤ n
few_corners n b is h = few_once n is (λ i. omega (arith, h i, one_small (ltb i n && b i))) (λ i l. h i ∙ one_past i n (b i) l)
