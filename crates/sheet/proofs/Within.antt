-- What `find` finds where its closure tells right of the numbers that are searched, and perhaps of no others.
use Rattle.std.proofs.Common.{◌≡◌, ℕ, ◌<◌, ◌≤◌, Bool, true, false, List, Some, None, Option, ap, ◌∙◌, arith, Bor}
use denote.Param.Members.{Mut}
use Rattle.std.specs.declared.ops.Range.{Range}
use Rattle.std.specs.Fn.{CalledAt}
use Rattle.std.specs.Iterator.{YieldsThen}
use Rattle.std.specs.List.{FoldsTo}
use Rattle.std.specs.Option.{MatchOption}
use Rattle.std.proofs.iter.Yields.{nat_range_steps}
use Rattle.std.proofs.lemmas.Iterator.{first_from_Range}
use Rattle.mesh.specs.Searches.{first_in}
use Rattle.mesh.proofs.Firsts.{found_first}

-- `find` over the numbers from 0 finds the first of the m at which the closure computes p where it is asked of one of them
pub finds_within : {F : Type 0} {g : Mut F (Bor ℕ × Unit {0}) Bool} (p : ℕ → Bool) (n m : ℕ) (u : Range ℕ) (f : F) (r : Option ℕ)
    → n ≡ m
    → (xs : List ℕ) × (j : F) × YieldsThen nat_range_steps (record { start = 0; end = n }) xs r u × FoldsTo (λ p x q. CalledAt g p x false q) f xs j × MatchOption r (Unit {0}) (λ x. (h : F) × CalledAt g j x true h)
    → ((i : ℕ) (b : Bool) (q : F) → CalledAt g f i b q → (q ≡ f) × (i < n → p i ≡ b))
    → r ≡ first_in p 0 m
finds_within p n m u f r e ran called =
    found_first p n r (asked r (first_from_Range _ u f r (λ i. i < n → p i ≡ true) (λ i. i < n → p i ≡ false) ran (λ i q k. (called i true q k).1) (λ i q k. called i false q k)))
    ∙ ap (first_in p 0) e
  where
    asked : (r : Option ℕ)
        → MatchOption r ((k : ℕ) → 0 ≤ k → k < n → k < n → p k ≡ false) (λ i. (0 ≤ i) × (i < n) × (i < n → p i ≡ true) × ((k : ℕ) → 0 ≤ k → k < i → k < n → p k ≡ false))
        → MatchOption r ((k : ℕ) → 0 ≤ k → k < n → p k ≡ false) (λ i. (0 ≤ i) × (i < n) × (p i ≡ true) × ((k : ℕ) → 0 ≤ k → k < i → p k ≡ false))
    asked None m = λ k h l. m k h l l
    asked (Some i) m = let b = m.1 in (m.0, m.1, m.2 m.1, λ k h l. m.3 k h l (omega arith))
