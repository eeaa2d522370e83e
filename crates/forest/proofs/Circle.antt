-- The fan at each position of a whole polygon, in new numbers.
use Rattle.std.proofs.Common.{◌≡◌, ℕ, zero, suc, ◌+◌, ◌-◌, ◌≤◌, Bool, true, false, cond, eqb, List, sym, refl, arith, eqb-true}
use borrow.Author.Tests.{eqb-false}
use Rattle.mesh.specs.Triangles.{Tri}
use Rattle.mesh.specs.Rings.{Link}
use Rattle.forest.specs.Theorems.{Part}
use Rattle.forest.proofs.Fans.{Fan, fan_low, fan_high, fan_inner, part_within}
use Rattle.forest.proofs.Renaming.{numbered, fan_numbered}

abbrev pub after_it : ℕ → ℕ → ℕ
after_it n j = cond (eqb j n) 1 (j + 1)

abbrev pub before_it : ℕ → ℕ → ℕ
before_it n j = cond (eqb j 1) n (j - 1)

module _ {n : ℕ} {ts : List Tri} (two : 2 ≤ n) (part : Part 1 n ts) where
  pub circle_fan : (j : ℕ) → 1 ≤ j → j ≤ n → Fan (Link ts j) (before_it n j) (after_it n j)
  circle_fan zero low high = absurd (omega arith)
  circle_fan (suc j) low high = go (eqb (suc j) n) (eqb (suc j) 1) refl refl
    where
      go : (a b : Bool) → eqb (suc j) n ≡ a → eqb (suc j) 1 ≡ b → Fan (Link ts (suc j)) (cond b n (suc j - 1)) (cond a 1 (suc j + 1))
      go true true e i = let h = eqb-true (suc j) n e in let k = eqb-true (suc j) 1 i in absurd (omega arith)
      go true false e i =
          let h : n ≡ suc j = sym (eqb-true (suc j) n e) in let k : suc j - 1 ≡ j = omega arith in
          rw k (fan_high (rw h at part))
      go false true e i =
          let h : j ≡ 0 = ap_pred (eqb-true (suc j) 1 i) in rw h (fan_low part)
        where
          ap_pred : suc j ≡ 1 → j ≡ 0
          ap_pred e = omega arith
      go false false e i =
          let h = eqb-false (suc j) n e in let k = eqb-false (suc j) 1 i in
          let a : suc j - 1 ≡ j = omega arith in let b : suc j + 1 ≡ suc (suc j) = omega arith in
          rw (a, b) (fan_inner j (omega arith) (omega arith) part)

  pub circle_numbered : (num : ℕ → ℕ) → ((i j : ℕ) → 1 ≤ i → i ≤ n → 1 ≤ j → j ≤ n → num i ≡ num j → i ≡ j) → (j : ℕ) → 1 ≤ j → j ≤ n
      → Fan (Link (numbered num ts) (num j)) (num (before_it n j)) (num (after_it n j))
  circle_numbered num inj j low high =
      fan_numbered num ts j (λ v p q l e. let h = part_within part l in inj v j h.0 h.1 low high (sym e)) (circle_fan j low high)
