-- What the writer's checks show of the parts that pass them.
use Rattle.std.proofs.Common.{◌≡◌, ℕ, zero, suc, ◌+◌, ◌*◌, ◌≤◌, Bool, true, false, cond, eqb, leb, List, [], ◌∷◌, length, get_or, Some, None, Option, sym, refl, ◌∙◌, arith}
use Rattle.std.proofs.lemmas.Bool.{leb-true, eqb-true, and_parts, cond_both}
use Rattle.std.proofs.lemmas.Nat.{mul-le}
use Rattle.fault.specs.declared.fault.Fault.{Fault}
use Rattle.fault.specs.declared.fault.Fault.TheVariants.{PartLengths, ValueTooLarge, ShortBuffer}
use Rattle.fault.proofs.Orders.{or_none, test_passed}
use Rattle.place.specs.Kinds.{Kind}
use Rattle.record.specs.Written.{record_size}
use Rattle.record.specs.Refusals.{not_zero, parts_fit, parts_fault, over_fault, values_fault, room_fault, write_fault, Ready}
use Rattle.record.specs.Theorems.{Accepted}

-- no number is over the limit
pub none_over : (limit i : ℕ) (xs : List ℕ) → over_fault limit i xs ≡ None → (k : ℕ) → get_or xs k 0 ≤ limit
none_over limit i [] e k = omega arith
none_over limit i (x ∷ xs) e zero = leb-true x limit (within (leb x limit) (over_fault limit (i + 1) xs) e)
  where
    within : (b : Bool) (o : Option Fault) → cond b o (Some (ValueTooLarge i)) ≡ None → b ≡ true
    within true o h = refl
    within false o h = absurd (cc)
none_over limit i (x ∷ xs) e (suc k) = none_over limit (i + 1) xs (rest (leb x limit) (over_fault limit (i + 1) xs) e) k
  where
    rest : (b : Bool) (o : Option Fault) → cond b o (Some (ValueTooLarge i)) ≡ None → o ≡ None
    rest true o h = h
    rest false o h = absurd (cc)

pub not_zero_le : (xs : List ℕ) → not_zero xs ≤ length xs
not_zero_le [] = omega arith
not_zero_le (x ∷ xs) = let h = not_zero_le xs in cond_both (eqb x 0) 0 1 (λ (t : ℕ). t + not_zero xs ≤ suc (length xs)) (λ e. omega arith) (λ e. omega arith)

-- parts within their limits
pub record Few (ms cs ds : List ℕ) : Type 0 where
  pub few_marks : length ms ≤ 49152
  pub few_codes : length cs ≤ 32768
  pub few_displacements : length ds ≤ 1179648

module _ {P D : Type 0} (k : Kind P D) (narrow : k.displacement_width ≤ 12) (ms cs ds : List ℕ) where
  pub displacements_due : parts_fit k ms cs ds ≡ true → length ds ≡ 2 * not_zero ms * k.displacement_width
  displacements_due e = eqb-true (length ds) _ (and_parts (leb (length cs) 32768) _ (and_parts (leb (length ms) 49152) _ e).1).1

  pub few : (r : Bool) → r ≡ parts_fit k ms cs ds → r ≡ true → Few ms cs ds
  few r is holds =
      let e : parts_fit k ms cs ds ≡ true = sym is ∙ holds in
      let p = and_parts (leb (length ms) 49152) _ e in
      let q = and_parts (leb (length cs) 32768) _ p.1 in
      let lm : length ms ≤ 49152 = leb-true (length ms) 49152 p.0 in
      let f : 2 * not_zero ms ≤ 98304 = omega (arith, not_zero_le ms) in
      record {
        few_marks = lm;
        few_codes = leb-true (length cs) 32768 q.0;
        few_displacements = omega (arith, displacements_due e, mul-le (2 * not_zero ms) k.displacement_width 98304 12 f narrow);
      }

  pub accepted : (room : ℕ) → write_fault k ms cs ds room ≡ None → Accepted k ms cs ds
  accepted room e =
      let a = or_none (parts_fault k ms cs ds) _ e in
      let b = or_none (values_fault ms cs) (room_fault ms cs ds room) a.1 in
      record { parts_fit = a.0; values_fit = b.0 }

  pub ready : (room : ℕ) → write_fault k ms cs ds room ≡ None → Ready ms cs ds room
  ready room e =
      let a = or_none (parts_fault k ms cs ds) _ e in
      let b = or_none (values_fault ms cs) (room_fault ms cs ds room) a.1 in
      let v = or_none (over_fault 1 0 ms) (over_fault 3 0 cs) b.0 in
      let p = test_passed (parts_fit k ms cs ds) PartLengths a.0 in
      let f = few (parts_fit k ms cs ds) refl p in
      record {
        few_marks = f.few_marks;
        few_codes = f.few_codes;
        few_displacements = f.few_displacements;
        marks_small = λ i. omega (arith, none_over 1 0 ms v.0 i);
        codes_small = λ i. omega (arith, none_over 3 0 cs v.1 i);
        fits = leb-true (record_size ms cs ds) room (test_passed (leb (record_size ms cs ds) room) (ShortBuffer (record_size ms cs ds)) b.1);
      }
