-- The corner before another in a chain, as the last before it on a walk.
use Rattle.std.proofs.Common.{◌≡◌, ℕ, ◌+◌, ◌<◌, Bool, not, eqb, List, [], ◌∷◌, Some, None, Option, arith}
use Rattle.std.specs.List.{last_or, take_while}
use Rattle.std.proofs.lemmas.Bool.Decides.{nat_tests}
use Rattle.std.proofs.lemmas.List.Sums.{take_while-cons}
use Rattle.stores.specs.declared.chain_record.ChainTriangle.{ChainTriangle}
use Rattle.stores.specs.Chains.{walk, times, vertex_at, next_at, Ends, Holds}
use Rattle.stores.specs.Before.{Leads, Before}
use Rattle.stores.proofs.Counts.{one_self}
use Rattle.stores.proofs.Chains.{Chain, chain_walk}

-- what leads to the link y in a list does so in a longer one
leads_longer : (f : ℕ → ℕ) (x h k y z : ℕ) (is js : List ℕ) → Leads f is k (last_or (Some z) js) y → Leads f (x ∷ is) h (last_or (Some z) js) y
leads_longer f x h k y z is [] l = grind (arith, nat_tests)
leads_longer f x h k y z is (j ∷ js) l = leads_longer f x h k y j is js l

-- the first corner leads to the link y, or a later one does
leads_more : (f : ℕ → ℕ) (x h y : ℕ) (is js : List ℕ) → Leads f is (f x) (last_or None js) y → Leads f (x ∷ is) h (last_or (Some x) js) y
leads_more f x h y is [] l = (l, omega (arith, one_self x))
leads_more f x h y is (j ∷ js) l = leads_longer f x h (f x) y j is js l

leads_last : (f : ℕ → ℕ) (h i : ℕ) (is : List ℕ) → Chain f h is → 0 < times i is → Leads f is h (last_or None (take_while (λ j. not (eqb j i)) is)) (i + 1)
leads_last f h i [] c l = absurd (omega arith)
leads_last f h i (x ∷ is) c l =
    let p : ℕ → Bool = λ j. not (eqb j i) in
    let e = take_while-cons p x is in
    let r = leads_last f (f x) i is c.1 in
    let m = leads_more f x h (i + 1) is (take_while p is) in
    grind (arith, nat_tests)

pub before_last : (n : ℕ) (rs : List ChainTriangle) (h v i : ℕ) (o : Option ℕ) → Ends n rs h → Holds n rs h v → i < n → vertex_at rs i ≡ v → o ≡ last_or None (take_while (λ j. not (eqb j i)) (walk n (next_at rs) h)) → Before n rs h i o
before_last n rs h v i o ends holds l at e =
    let t = holds i in
    rw e (leads_last (next_at rs) h i (walk n (next_at rs) h) (chain_walk n (next_at rs) h ends) (grind (arith, nat_tests)))
