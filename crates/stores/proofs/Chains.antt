-- Chains as lists.
use Rattle.std.proofs.Common.{◌≡◌, ℕ, zero, suc, ◌-◌, ◌<◌, ◌≤◌, List, [], ◌∷◌, length, sym, refl, ap, arith}
use Rattle.stores.specs.Chains.{walk, left_over, times}
use Rattle.stores.proofs.Counts.{one_self}

-- from the link h the links go through the list and end
abbrev pub Chain : (ℕ → ℕ) → ℕ → List ℕ → Type 0
Chain f h [] = h ≡ 0
Chain f h (i ∷ is) = (h ≡ suc i) × Chain f (f i) is

-- what a walk that ends gives is a chain
pub chain_walk : (n : ℕ) (f : ℕ → ℕ) (h : ℕ) → left_over n f h ≡ 0 → Chain f h (walk n f h)
chain_walk n f zero e = refl
chain_walk zero f (suc i) e = e
chain_walk (suc n) f (suc i) e = (refl, chain_walk n f (f i) e)

-- a chain that is no longer than n is what a walk gives, and the walk ends
pub walk_chain : (n : ℕ) (f : ℕ → ℕ) (h : ℕ) (is : List ℕ) → Chain f h is → length is ≤ n → (walk n f h ≡ is) × (left_over n f h ≡ 0)
walk_chain n f zero [] c l = (refl, refl)
walk_chain n f (suc h) [] c l = absurd (omega arith)
walk_chain n f zero (i ∷ is) c l = absurd (omega arith)
walk_chain zero f (suc h) (i ∷ is) c l = absurd (omega arith)
walk_chain (suc n) f (suc h) (i ∷ is) c l =
    let e : h ≡ i = omega arith in
    let r = walk_chain n f (f i) is c.1 (omega arith) in
    rw e (ap (λ z. i ∷ z) r.0, r.1)

-- a walk that ends goes no further with more links
pub walk_longer : (n m : ℕ) (f : ℕ → ℕ) (h : ℕ) → left_over n f h ≡ 0 → n ≤ m → (walk m f h ≡ walk n f h) × (left_over m f h ≡ 0)
walk_longer n m f zero e l = (refl, refl)
walk_longer zero m f (suc i) e l = absurd (omega arith)
walk_longer (suc n) zero f (suc i) e l = absurd (omega arith)
walk_longer (suc n) (suc m) f (suc i) e l = let r = walk_longer n m f (f i) e (omega arith) in (ap (λ z. i ∷ z) r.0, r.1)

-- one turn along a walk that ends, from the link h past corner i
pub walk_turn : (n : ℕ) (f : ℕ → ℕ) (h i : ℕ) → left_over n f h ≡ 0 → h ≡ suc i → (walk n f h ≡ i ∷ walk n f (f i)) × (left_over n f (f i) ≡ 0)
walk_turn n f zero i e d = absurd (omega arith)
walk_turn zero f (suc h) i e d = absurd (omega arith)
walk_turn (suc n) f (suc h) i e d =
    let p : h ≡ i = omega arith in
    let r = walk_longer n (suc n) f (f h) e (omega arith) in
    rw (← p) (ap (λ z. h ∷ z) (sym r.0), r.1)

-- a chain depends on the links of its corners alone
pub chain_kept : (f g : ℕ → ℕ) (h : ℕ) (is : List ℕ) → ((i : ℕ) → 0 < times i is → g i ≡ f i) → Chain f h is → Chain g h is
chain_kept f g h [] same c = c
chain_kept f g h (i ∷ is) same c =
    let e : g i ≡ f i = same i (omega (arith, one_self i)) in
    (c.0, rw e (chain_kept f g (f i) is (λ j l. same j (omega arith)) c.1))

-- a chain that has not ended has a first corner
pub chain_first : (f : ℕ → ℕ) (h : ℕ) (is : List ℕ) → Chain f h is → (h ≡ 0 → ⊥) → (js : List ℕ) × (is ≡ (h - 1) ∷ js) × Chain f (f (h - 1)) js
chain_first f h [] c n = absurd (n c)
chain_first f h (i ∷ js) c n =
    let e : i ≡ h - 1 = omega arith in
    (js, ap (λ z. z ∷ js) e, rw (sym e) c.1)
