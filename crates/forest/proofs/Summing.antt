-- Lists sorted by a label, and their lengths.
use Rattle.std.proofs.Common.{◌≡◌, ℕ, suc, ◌+◌, ◌≤◌, Bool, true, false, cond, not, eqb, List, [], ◌∷◌, map, length, filter, sym, refl, ap, ◌∙◌, subst, ⊎_elim, arith, eq-eqb, eqb-true}
use borrow.Author.Tests.{clash, not-true}
use Rattle.mesh.specs.Lists.{Apart, Mem, later, no_one, now, one_more}
use Rattle.forest.specs.Theorems.{sum}
use Rattle.mesh.proofs.Members.{kept_mem, mem_cases, mem_eq}
use Rattle.std.proofs.lemmas.List.Filters.{length-filter_both}

module _ {A : Type 0} (l : A → ℕ) where
  -- the label of x is k
  abbrev pub labelled : ℕ → A → Bool
  labelled k x = eqb (l x) k

  -- without those of one label there are as many of another
  pub kept_others : (k i : ℕ) → (i ≡ k → ⊥) → (xs : List A) → length (filter (labelled i) (filter (λ x. not (labelled k x)) xs)) ≡ length (filter (labelled i) xs)
  kept_others k i n [] = refl
  kept_others k i n (x ∷ xs) = go (labelled k x) (labelled i x) refl refl (kept_others k i n xs)
    where
      go : (a b : Bool) → labelled k x ≡ a → labelled i x ≡ b → length (filter (labelled i) (filter (λ x. not (labelled k x)) xs)) ≡ length (filter (labelled i) xs)
          → length (filter (labelled i) (cond (not a) (x ∷ filter (λ x. not (labelled k x)) xs) (filter (λ x. not (labelled k x)) xs))) ≡ length (cond b (x ∷ filter (labelled i) xs) (filter (labelled i) xs))
      go true true p q e = absurd (n (sym (eqb-true (l x) i q) ∙ eqb-true (l x) k p))
      go true false p q e = e
      go false b p q e = rw q (inner b e)
        where
          inner : (b : Bool) → length (filter (labelled i) (filter (λ x. not (labelled k x)) xs)) ≡ length (filter (labelled i) xs)
              → length (cond b (x ∷ filter (labelled i) (filter (λ x. not (labelled k x)) xs)) (filter (labelled i) (filter (λ x. not (labelled k x)) xs))) ≡ length (cond b (x ∷ filter (labelled i) xs) (filter (labelled i) xs))
          inner true e = ap suc e
          inner false e = e

sum_same : (f g : ℕ → ℕ) (ks : List ℕ) → ((k : ℕ) → Mem k ks → f k ≡ g k) → sum (map f ks) ≡ sum (map g ks)
sum_same f g [] h = refl
sum_same f g (k ∷ ks) h = let a = h k now in let b = sum_same f g ks (λ k m. h k (later m)) in omega arith

-- the lengths by all labels add up
pub summed : {A : Type 0} (l : A → ℕ) {ks : List ℕ} → Apart ks → (xs : List A) → ((x : A) → Mem x xs → Mem (l x) ks) → sum (map (λ k. length (filter (labelled l k) xs)) ks) ≡ length xs
summed l no_one [] h = refl
summed l no_one (x ∷ xs) h = elim (h x now) [ ]
summed l (one_more {x = k} {xs = ks} n a) xs h =
    let rest = filter (λ x. not (labelled l k x)) xs in
    let r = summed l a rest (λ x m. let q = kept_mem (λ x. not (labelled l k x)) xs m in ⊎_elim (λ (e : l x ≡ k). absurd (clash (sym (not-true (labelled l k x) q.1) ∙ eq-eqb (l x) k e))) (λ i. i) (mem_cases (h x q.0))) in
    let e = length-filter_both (labelled l k) (λ x. not (labelled l k x)) (λ x. refl) xs in
    let d = sum_same (λ i. length (filter (labelled l i) rest)) (λ i. length (filter (labelled l i) xs)) ks (λ i m. kept_others l k i (λ j. n (mem_eq (sym j) m)) xs) in
    omega arith

pub sum_plus : (f : ℕ → ℕ) (ks : List ℕ) → sum (map (λ k. f k + 1) ks) ≡ sum (map f ks) + length ks
sum_plus f [] = refl
sum_plus f (k ∷ ks) = let h = sum_plus f ks in omega arith

sum_le : (f g : ℕ → ℕ) (ks : List ℕ) → ((k : ℕ) → Mem k ks → f k ≤ g k) → sum (map f ks) ≤ sum (map g ks)
sum_le f g [] h = omega arith
sum_le f g (k ∷ ks) h = let a = h k now in let b = sum_le f g ks (λ k m. h k (later m)) in omega arith

-- sums that leave no room leave none anywhere
pub sum_tight : (f g : ℕ → ℕ) (ks : List ℕ) → ((k : ℕ) → Mem k ks → f k ≤ g k) → sum (map g ks) ≤ sum (map f ks) → (k : ℕ) → Mem k ks → g k ≡ f k
sum_tight f g [] h e k m = elim m [ ]
sum_tight f g (i ∷ ks) h e k m =
    let a = h i now in let b = sum_le f g ks (λ k m. h k (later m)) in
    ⊎_elim (λ (q : k ≡ i). subst (λ (z : ℕ). g z ≡ f z) (sym q) (omega arith)) (λ q. sum_tight f g ks (λ k m. h k (later m)) (omega arith) k q) (mem_cases m)
