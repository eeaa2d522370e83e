-- Checks one after another.
use Rattle.std.proofs.Common.{◌≡◌, ℕ, Bool, true, false, cond, Some, None, Ok, Err, Option, Result, refl}
use Rattle.std.specs.Option.{option_map}
use Rattle.fault.specs.declared.fault.Fault.{Fault}
use Rattle.fault.specs.Faults.{or_else, checked}

-- two checks find nothing exactly if neither does
pub or_none : (o r : Option Fault) → or_else o r ≡ None → (o ≡ None) × (r ≡ None)
or_none None r e = (refl, e)
or_none (Some f) r e = absurd (cc)

pub none_or : (o r : Option Fault) → o ≡ None → r ≡ None → or_else o r ≡ None
none_or None r e i = i
none_or (Some f) r e i = e

pub mapped_none : (f : ℕ → Fault) (o : Option ℕ) → option_map f o ≡ None → o ≡ None
mapped_none f None e = refl
mapped_none f (Some i) e = absurd (cc)

-- a test that is no fault came out true
pub test_passed : (b : Bool) (f : Fault) → cond b None (Some f) ≡ None → b ≡ true
test_passed true f e = refl
test_passed false f e = absurd (cc)

-- what a check that passes has found, and one that refuses
pub checked_ok : (o : Option Fault) → ◌≡◌ {A = Result Unit Fault} (Ok tt) (checked o) → None ≡ o
checked_ok None e = refl
checked_ok (Some f) e = absurd (cc)

pub checked_err : (o : Option Fault) (f : Fault) → ◌≡◌ {A = Result Unit Fault} (Err f) (checked o) → Some f ≡ o
checked_err None f e = absurd (cc)
checked_err (Some g) f e = cc
