-- Counts within their limits.
use Rattle.std.proofs.Common.{◌≡◌, ℕ, ◌≤◌, Bool, true, false, cond, leb, Some, None, sym, refl, ◌∙◌, le-leb, leb-true}
use Rattle.std.proofs.lemmas.Bool.{cond-true, and_parts, and_from}
use Rattle.fault.specs.declared.fault.Fault.TheVariants.{SheetCounts}
use Rattle.fault.specs.declared.fault.Count.TheVariants.{Vertices, Triangles}
use Rattle.mesh.specs.Limits.{between, counts_fault}
use Rattle.mesh.proofs.Tests.{none_some}

pub between_is : (low high n : ℕ) → between low high n ≡ true → (low ≤ n) × (n ≤ high)
between_is low high n e = let p = and_parts (leb low n) (leb n high) e in (leb-true low n p.0, leb-true n high p.1)

pub is_between : (low high n : ℕ) → low ≤ n → n ≤ high → between low high n ≡ true
is_between low high n p q = and_from (leb low n) (leb n high) (le-leb low n p) (le-leb n high q)

pub counts_none : (V T : ℕ) → counts_fault V T ≡ None → (between 3 16384 V ≡ true) × (between 2 32768 T ≡ true)
counts_none V T e = go (between 3 16384 V) refl (between 2 32768 T) refl e
  where
    go : (p : Bool) → between 3 16384 V ≡ p → (q : Bool) → between 2 32768 T ≡ q → cond p (cond q None (Some (SheetCounts Triangles))) (Some (SheetCounts Vertices)) ≡ None → (between 3 16384 V ≡ true) × (between 2 32768 T ≡ true)
    go true i true j e = (i, j)
    go true i false j e = none_some (sym e)
    go false i q j e = none_some (sym e)

pub none_counts : (V T : ℕ) → between 3 16384 V ≡ true → between 2 32768 T ≡ true → counts_fault V T ≡ None
none_counts V T e f = cond-true (between 3 16384 V) _ _ e ∙ cond-true (between 2 32768 T) _ _ f
