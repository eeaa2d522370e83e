-- What a search over numbers finds.
use Rattle.std.proofs.Common.{◌≡◌, ℕ, zero, suc, ◌+◌, ◌<◌, ◌≤◌, Bool, true, false, cond, List, length, Some, None, Option, sym, refl, ap, ◌∙◌, arith, Bor}
use native.Mathlib.Decide.{ℕ_discrete}
use denote.Param.Members.{Mut}
use Rattle.std.specs.declared.ops.Range.{Range}
use Rattle.std.specs.Fn.{CalledAt}
use Rattle.std.specs.Iterator.{YieldsThen}
use Rattle.std.specs.List.{FoldsTo, slice_get}
use Rattle.std.specs.Option.{MatchOption}
use Rattle.std.proofs.iter.Yields.{nat_range_steps}
use Rattle.std.proofs.lemmas.Iterator.{first_from_Range}
use Rattle.std.proofs.lemmas.Bool.{cond-true, cond-false}
use Rattle.std.proofs.lemmas.Option.{slice_get_within}
use Rattle.mesh.proofs.Tests.{none_some}
use Rattle.mesh.specs.Searches.{first_in}

pub first_none : (p : ℕ → Bool) (i n : ℕ) → first_in p i n ≡ None → (k : ℕ) → i ≤ k → k < i + n → p k ≡ false
first_none p i zero e k h l = absurd (omega arith)
first_none p i (suc n) e k h l = go (p i) refl e (λ e h l. first_none p (i + 1) n e k h l) (ℕ_discrete k i)
  where
    go : (b : Bool) → p i ≡ b → cond b (Some i) (first_in p (i + 1) n) ≡ None → (first_in p (i + 1) n ≡ None → i + 1 ≤ k → k < i + 1 + n → p k ≡ false) → Dec (k ≡ i) → p k ≡ false
    go true q e f d = none_some (sym e)
    go false q e f (yes d) = ap p d ∙ q
    go false q e f (no d) = f e (omega arith) (omega arith)

pub none_first : (p : ℕ → Bool) (i n : ℕ) → ((k : ℕ) → i ≤ k → k < i + n → p k ≡ false) → first_in p i n ≡ None
none_first p i zero f = refl
none_first p i (suc n) f = cond-false (p i) (Some i) (first_in p (i + 1) n) (f i (omega arith) (omega arith)) ∙ none_first p (i + 1) n (λ k h l. f k (omega arith) (omega arith))

pub record First (p : ℕ → Bool) (i n k : ℕ) : Type 0 where
  pub low : i ≤ k
  pub high : k < i + n
  pub holds : p k ≡ true
  pub lowest : (j : ℕ) → i ≤ j → j < k → p j ≡ false

pub first_some : (p : ℕ → Bool) (i n k : ℕ) → first_in p i n ≡ Some k → First p i n k
first_some p i zero k e = none_some e
first_some p i (suc n) k e = go (p i) refl e (λ e. first_some p (i + 1) n k e)
  where
    go : (b : Bool) → p i ≡ b → cond b (Some i) (first_in p (i + 1) n) ≡ Some k → (first_in p (i + 1) n ≡ Some k → First p (i + 1) n k) → First p i (suc n) k
    go true q e f = let d : i ≡ k = cc in record { low = omega arith; high = omega arith; holds = ap p (sym d) ∙ q; lowest = λ j h l. absurd (omega arith) }
    go false q e f =
        let r = f e in
        let lo = r.low in
        let hi = r.high in
        record { low = omega arith; high = omega arith; holds = r.holds; lowest = λ j h l. more j h l r (ℕ_discrete j i) q }
      where
        more : (j : ℕ) → i ≤ j → j < k → First p (i + 1) n k → Dec (j ≡ i) → p i ≡ false → p j ≡ false
        more j h l r (yes d) q = ap p d ∙ q
        more j h l r (no d) q = r.lowest j (omega arith) l

pub some_first : (p : ℕ → Bool) (i n k : ℕ) → i ≤ k → k < i + n → p k ≡ true → ((j : ℕ) → i ≤ j → j < k → p j ≡ false) → first_in p i n ≡ Some k
some_first p i zero k h l e f = absurd (omega arith)
some_first p i (suc n) k h l e f = go (λ a. some_first p (i + 1) n k a (omega arith) e (λ j a b. f j (omega arith) b)) (ℕ_discrete k i)
  where
    go : (i + 1 ≤ k → first_in p (i + 1) n ≡ Some k) → Dec (k ≡ i) → first_in p i (suc n) ≡ Some k
    go more (yes d) = cond-true (p i) (Some i) (first_in p (i + 1) n) (ap p (sym d) ∙ e) ∙ ap Some (sym d)
    go more (no d) = cond-false (p i) (Some i) (first_in p (i + 1) n) (f i (omega arith) (omega arith)) ∙ more (omega arith)

-- what `find` over the numbers below n finds
pub found_first : (p : ℕ → Bool) (n : ℕ) (r : Option ℕ) → MatchOption r ((k : ℕ) → 0 ≤ k → k < n → p k ≡ false) (λ i. (0 ≤ i) × (i < n) × (p i ≡ true) × ((k : ℕ) → 0 ≤ k → k < i → p k ≡ false)) → r ≡ first_in p 0 n
found_first p n None m = sym (none_first p 0 n (λ k h l. m k h (omega arith)))
found_first p n (Some k) m = sym (some_first p 0 n k m.0 (let h = m.1 in omega arith) m.2 m.3)

-- `find` over the numbers from 0 finds the first of the m at which the closure computes p
pub finds_first : {F : Type 0} {g : Mut F (Bor ℕ × Unit {0}) Bool} (p : ℕ → Bool) (n m : ℕ) (u : Range ℕ) (f : F) (r : Option ℕ)
    → n ≡ m
    → (xs : List ℕ) × (j : F) × YieldsThen nat_range_steps (record { start = 0; end = n }) xs r u × FoldsTo (λ p x q. CalledAt g p x false q) f xs j × MatchOption r (Unit {0}) (λ x. (h : F) × CalledAt g j x true h)
    → ((i : ℕ) (b : Bool) (q : F) → CalledAt g f i b q → (q ≡ f) × (p i ≡ b))
    → r ≡ first_in p 0 m
finds_first p n m u f r e ran called =
    found_first p n r (first_from_Range _ u f r (λ i. p i ≡ true) (λ i. p i ≡ false) ran (λ i q k. (called i true q k).1) (λ i q k. called i false q k))
    ∙ ap (first_in p 0) e

-- a test of each listed item fails nowhere exactly if the search finds none
pub none_all : {X : Type 0} (q : ℕ → Option X → Bool) (xs : List X) → ((i : ℕ) → q i None ≡ false) → ((i : ℕ) (x : X) → slice_get xs i ≡ Some x → q i (Some x) ≡ false) → first_in (λ i. q i (slice_get xs i)) 0 (length xs) ≡ None
none_all {X} q xs f g = none_first (λ i. q i (slice_get xs i)) 0 (length xs) (λ k h l. go k (slice_get xs k) refl)
  where
    go : (k : ℕ) (o : Option X) → slice_get xs k ≡ o → q k (slice_get xs k) ≡ false
    go k None e = ap (q k) e ∙ f k
    go k (Some x) e = ap (q k) e ∙ g k x e

pub all_none : {X : Type 0} (q : ℕ → Option X → Bool) (xs : List X) → first_in (λ i. q i (slice_get xs i)) 0 (length xs) ≡ None → (i : ℕ) (x : X) → slice_get xs i ≡ Some x → q i (Some x) ≡ false
all_none q xs e i x h = let l = slice_get_within xs i x h in ap (q i) (sym h) ∙ first_none (λ i. q i (slice_get xs i)) 0 (length xs) e i (omega arith) (omega arith)
