-- When three floats are no place.
use Rattle.std.proofs.Common.{◌≡◌, ℕ, ◌≤◌, Bool, true, false, cond, ◌&&◌, T, List, length, is_some, None, sym, refl, ap, ◌∙◌}
use mathlib.Core.Bool.{false≢true}
use lib.Ieee.{Float, nan, inf, fin, binary32, fits, add}
use lib.Ieee.Bits.{of_bits-fits}
use lib.Ieee.Fits.{add-fits}
use denote.Floats.{is_true}
use Rattle.std.proofs.lemmas.Bool.{le-ltb, and_from, and_left, and_right}
use Rattle.std.specs.Float.{float_is_finite}
use Rattle.place.specs.declared.float_place.FloatPlace.{FloatPlace}
use Rattle.place.specs.declared.float.FloatDisplacement.{FloatDisplacement}
use Rattle.place.specs.Finite.{three_finite, three_fit}
use Rattle.place.specs.Floats.{float_kind, float_place, float_place_if, float_at}
use Rattle.place.specs.Sums.{FloatRefusals}
use Rattle.place.specs.Places.{no_place}

place_exactly : (x y z : Float) → T (fits binary32 x) → T (fits binary32 y) → T (fits binary32 z) → is_some (float_place x y z) ≡ three_finite x y z
unfolding float_place
place_exactly x y z p q r =
    go (three_finite x y z) (three_fit x y z) refl refl (and_from _ _ (is_true _ p) (and_from _ _ (is_true _ q) (is_true _ r)))
  where
    go : (e f : Bool) (a : three_finite x y z ≡ e) (b : three_fit x y z ≡ f) → f ≡ true → is_some (float_place_if x y z e f a b) ≡ e
    go true true a b _ = refl
    go true false a b n = absurd (false≢true n)
    go false f a b _ = refl

sum_not_finite : (a v : Float) → float_is_finite v ≡ false → float_is_finite (add binary32 a v) ≡ false
unfolding add float_is_finite
sum_not_finite nan v h = refl
sum_not_finite (inf s) nan h = refl
sum_not_finite (inf s) (inf t) h = either _
  where
    either : (b : Bool) → float_is_finite (cond b (inf s) nan) ≡ false
    either true = refl
    either false = refl
sum_not_finite (inf s) (fin t n d) h = refl
sum_not_finite (fin s m e) nan h = refl
sum_not_finite (fin s m e) (inf t) h = refl
sum_not_finite (fin s m e) (fin t n d) h = absurd (false≢true (sym h))

one_false : (a b c a' b' c' : Bool) → (a ≡ false → a' ≡ false) → (b ≡ false → b' ≡ false) → (c ≡ false → c' ≡ false) → (a && (b && c)) ≡ false → (a' && (b' && c')) ≡ false
one_false false b c a' b' c' p q r h = and_left a' _ (p refl)
one_false true false c a' b' c' p q r h = and_right a' _ (and_left b' c' (q refl))
one_false true true c a' b' c' p q r h = and_right a' _ (and_right b' c' (r h))

by_infinite : (p : FloatPlace) (d : FloatDisplacement) → three_finite d.x d.y d.z ≡ false → float_kind.displaced p d ≡ None
by_infinite p d h =
    no_place _ _ _
    (one_false (float_is_finite d.x) (float_is_finite d.y) (float_is_finite d.z) _ _ _ (sum_not_finite p.x d.x) (sum_not_finite p.y d.y) (sum_not_finite p.z d.z) h)

read : (bs : List ℕ) → 12 ≤ length bs → is_some (float_kind.read bs) ≡ three_finite (float_at bs 0) (float_at bs 4) (float_at bs 8)
read bs h =
    ap (λ b. is_some (cond b None (float_place (float_at bs 0) (float_at bs 4) (float_at bs 8)))) (le-ltb _ _ h)
    ∙ place_exactly _ _ _ (of_bits-fits binary32 _) (of_bits-fits binary32 _) (of_bits-fits binary32 _)

pub refusals : FloatRefusals
refusals = record {
  displaced = λ p d. place_exactly _ _ _ (add-fits binary32 _ _) (add-fits binary32 _ _) (add-fits binary32 _ _);
  by_infinite = by_infinite;
  read = read;
}
