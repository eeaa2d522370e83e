-- A float place is its three numbers: what it says of them can hold in one way only.
use Rattle.std.specs.Prelude.{◌≡◌, Bool, true, false, Some, None, refl, Float}
use Rattle.std.proofs.Common.{ap, sym}
use Rattle.std.proofs.Math.Bool.{Bool-set}
use Rattle.std.proofs.lemmas.Bool.{false≢true}
use mathlib.Core.HLevel.{is_prop→PathP}
use Rattle.place.specs.declared.float_place.FloatPlace.{FloatPlace}
use Rattle.place.specs.Finite.{three_finite, three_fit}
use Rattle.place.specs.Floats.{float_place, float_place_if}

pub same_place : (p q : FloatPlace) → p.x ≡ q.x → p.y ≡ q.y → p.z ≡ q.z → p ≡ q
same_place p q x y z = λ i. record {
  x = x i;
  y = y i;
  z = z i;
  real = is_prop→PathP (λ j. three_finite (x j) (y j) (z j) ≡ true) (λ j. Bool-set (three_finite (x j) (y j) (z j)) true) p.real q.real i;
  held = is_prop→PathP (λ j. three_fit (x j) (y j) (z j) ≡ true) (λ j. Bool-set (three_fit (x j) (y j) (z j)) true) p.held q.held i;
}

-- a place is the place of its numbers
pub place_of : (p : FloatPlace) → float_place p.x p.y p.z ≡ Some p
unfolding float_place
place_of p = go (three_finite p.x p.y p.z) (three_fit p.x p.y p.z) refl refl p.real p.held
  where
    go : (e f : Bool) (a : three_finite p.x p.y p.z ≡ e) (b : three_fit p.x p.y p.z ≡ f) → e ≡ true → f ≡ true → float_place_if p.x p.y p.z e f a b ≡ Some p
    go true true a b _ _ = ap Some (same_place (record { x = p.x; y = p.y; z = p.z; real = a; held = b }) p refl refl refl)
    go true false a b _ n = absurd (false≢true n)
    go false f a b n _ = absurd (false≢true n)

-- what is not finite has no place
pub no_place : (x y z : Float) → three_finite x y z ≡ false → float_place x y z ≡ None
unfolding float_place
no_place x y z n = go (three_finite x y z) (three_fit x y z) refl refl n
  where
    go : (e f : Bool) (a : three_finite x y z ≡ e) (b : three_fit x y z ≡ f) → e ≡ false → float_place_if x y z e f a b ≡ None
    go true f a b t = absurd (false≢true (sym t))
    go false f a b _ = refl
