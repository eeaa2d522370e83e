-- Bases refused and accepted.
use Rattle.std.proofs.Common.{◌≡◌, Bool, true, false, ◌&&◌, is_none, is_some, Some, None, Err, Option, Result, IfOk, refl, subst}
use Rattle.fault.specs.declared.fault.Fault.{Fault}
use Rattle.runs.specs.Jobs.{Numbers, numbers_unless}

pub refused : (f : Fault) (o : Option Fault) (n : Numbers) → ◌≡◌ {A = Result Numbers Fault} (Err f) (numbers_unless o n) → false ≡ is_none o
refused f None n e = absurd (cc)
refused f (Some g) n e = refl

-- one check of a base, where both sides' checks are the same
pub one_answer : {X E : Type 0} (r : Result (Option X) E) (b : Bool) → IfOk r (λ o. is_some o ≡ (b && b)) → IfOk r (λ o. is_some o ≡ b)
one_answer r b h = subst (λ z. IfOk r (λ o. is_some o ≡ z)) (both_same b) h
  where
    both_same : (z : Bool) → (z && z) ≡ z
    both_same true = refl
    both_same false = refl
