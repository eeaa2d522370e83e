-- What the writer's searches and counts find, in the words of its refusals.
use Rattle.std.proofs.Common.{◌≡◌, ℕ, ◌+◌, ◌<◌, ◌≤◌, suc, Bool, true, false, cond, not, eqb, leb, ltb, List, [], ◌∷◌, Some, None, Option, length, Ok, Err, refl, sym, ap, ◌∙◌, ⊎_elim, arith}
use Rattle.std.specs.Option.{option_map}
use Rattle.std.specs.List.{count_by, position, position_from}
use Rattle.std.proofs.lemmas.Bool.{cases_lt, le-leb, lt-leb, lt-ltb, le-ltb, cond-true, cond-false}
use Rattle.std.proofs.lemmas.Iterator.Adapters.{position_from-zero}
use Rattle.std.proofs.lemmas.List.Recursion.{is_count_by}
use Rattle.fault.specs.Faults.{checked, or_else}
use Rattle.fault.specs.declared.fault.Fault.{Fault}
use Rattle.fault.specs.declared.fault.Fault.TheVariants.{ValueTooLarge}
use Rattle.record.specs.Refusals.{not_zero, over_fault}

pub not_zero_counted : (xs : List ℕ) → not_zero xs ≡ count_by (λ (x : ℕ). not (eqb x 0)) xs
not_zero_counted xs = is_count_by not_zero (λ (x : ℕ). not (eqb x 0)) refl (λ y ys. counted (eqb y 0) (not_zero ys)) xs
  where
    counted : (b : Bool) (n : ℕ) → cond b 0 1 + n ≡ cond (not b) (1 + n) n
    counted true n = omega arith
    counted false n = omega arith

pub few_not_zero : (xs : List ℕ) → not_zero xs ≤ length xs
few_not_zero [] = omega arith
few_not_zero (x ∷ xs) = one (eqb x 0) (few_not_zero xs)
  where
    one : (b : Bool) → not_zero xs ≤ length xs → cond b 0 1 + not_zero xs ≤ suc (length xs)
    one true h = omega arith
    one false h = omega arith

over_from : (limit i : ℕ) (xs : List ℕ) → over_fault limit i xs ≡ option_map ValueTooLarge (position_from (λ (x : ℕ). ltb limit x) i xs)
over_from limit i [] = refl
over_from limit i (x ∷ xs) = ⊎_elim over (within (over_from limit (i + 1) xs)) (cases_lt limit x)
  where
    over : limit < x → over_fault limit i (x ∷ xs) ≡ option_map ValueTooLarge (position_from (λ (y : ℕ). ltb limit y) i (x ∷ xs))
    over h = cond-false (leb x limit) _ _ (lt-leb x limit h) ∙ sym (ap (option_map ValueTooLarge) (cond-true (ltb limit x) _ _ (lt-ltb limit x h)))

    within : over_fault limit (i + 1) xs ≡ option_map ValueTooLarge (position_from (λ (y : ℕ). ltb limit y) (i + 1) xs) → x ≤ limit → over_fault limit i (x ∷ xs) ≡ option_map ValueTooLarge (position_from (λ (y : ℕ). ltb limit y) i (x ∷ xs))
    within rest h = cond-true (leb x limit) _ _ (le-leb x limit h) ∙ rest ∙ sym (ap (option_map ValueTooLarge) (cond-false (ltb limit x) _ _ (le-ltb limit x h)))

-- the first number over the limit is the fault
pub over_first : (limit : ℕ) (xs : List ℕ) → over_fault limit 0 xs ≡ option_map ValueTooLarge (position (λ (x : ℕ). ltb limit x) xs)
over_first limit xs = over_from limit 0 xs ∙ ap (option_map ValueTooLarge) (sym (position_from-zero (λ (x : ℕ). ltb limit x) xs))

-- a check that refuses is the first fault of it and of what follows it
pub refuses_first : (a b : Option Fault) (f : Fault) → checked a ≡ Err f → checked (or_else a b) ≡ Err f
refuses_first None b f e = cc
refuses_first (Some g) b f e = e

-- after a check that lets pass, the first fault is that of what follows it
pub refuses_later : (a b : Option Fault) (u : Unit {0}) → checked a ≡ Ok u → checked (or_else a b) ≡ checked b
refuses_later None b u e = refl
refuses_later (Some f) b u e = cc

-- a check that lets pass finds nothing
pub passes : (a : Option Fault) (u : Unit {0}) → checked a ≡ Ok u → a ≡ None
passes None u e = refl
passes (Some f) u e = cc

-- a check that refuses finds what it tells
pub found : (a : Option Fault) (f : Fault) → checked a ≡ Err f → a ≡ Some f
found None f e = cc
found (Some g) f e = cc
