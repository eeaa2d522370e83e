-- Triangles of different vertices below a number.
use Rattle.std.proofs.Common.{◌≡◌, ℕ, ◌<◌, true, not, eqb, List, Some, ◌≢◌, arith, lt-ltb}
use Rattle.std.specs.List.{slice_get}
use Rattle.std.proofs.lemmas.Bool.{and_from}
use Rattle.std.proofs.lemmas.Bool.Decides.{nat_tests}
use Rattle.mesh.specs.Triangles.{Tri, tri}
use Rattle.mesh.specs.Rings.{at_first, at_second, at_third}
use Rattle.mesh.specs.Growth.{all_below, different}
use Rattle.mesh.proofs.Links.{nth_link}
use Rattle.engine.specs.Writing.{Fitting}

apart_true : (a b : ℕ) → a ≢ b → not (eqb a b) ≡ true
apart_true a b f = grind (arith, nat_tests)

pub differ : (a b c : ℕ) → a ≢ b → b ≢ c → c ≢ a → different (tri a b c) ≡ true
differ a b c f g h = and_from _ _ (apart_true a b f) (and_from _ _ (apart_true b c g) (apart_true c a h))

-- the triangle's corners are three numbers below n
abbrev pub Fits : ℕ → Tri → Type 0
Fits n (tri a b c) = (a < n) × (b < n) × (c < n) × (a ≢ b) × (b ≢ c) × (c ≢ a)

pub fits_at : (n : ℕ) (ts : List Tri) → Fitting n ts → (t : ℕ) (x : Tri) → slice_get ts t ≡ Some x → Fits n x
fits_at n ts f t (tri a b c) e =
    let x = f a b c (nth_link ts t (tri a b c) e at_first) in
    let y = f b c a (nth_link ts t (tri a b c) e at_second) in
    let z = f c a b (nth_link ts t (tri a b c) e at_third) in (x.0, y.0, z.0, x.1, y.1, z.1)

pub fits_below : (n : ℕ) (x : Tri) → Fits n x → all_below n x ≡ true
fits_below n (tri a b c) f = and_from _ _ (lt-ltb a n f.0) (and_from _ _ (lt-ltb b n f.1) (lt-ltb c n f.2))

pub fits_different : (n : ℕ) (x : Tri) → Fits n x → different x ≡ true
fits_different n (tri a b c) f = differ a b c f.3 f.4 f.5
