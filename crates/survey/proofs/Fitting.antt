-- Triangles with three different corners that are vertices.
use Rattle.std.proofs.Common.{◌≡◌, ℕ, ◌<◌, ◌≤◌, true, not, List, [], ◌∷◌, length, Some, None, sym, refl, ap, ◌∙◌, inl, inr, arith}
use Rattle.std.proofs.lemmas.Bool.Decides.{nat_tests}
use borrow.Author.Tests.{not-false}
use Rattle.std.specs.List.{slice_get}
use Rattle.mesh.specs.Triangles.{Tri, tri}
use Rattle.mesh.specs.Rings.{Corner, at_first, at_second, at_third, Link}
use Rattle.mesh.specs.Closed.{Closed}
use Rattle.mesh.proofs.Links.{Turned, turned, link_nth, nth_link}
use Rattle.survey.specs.Checks.{good_corners, bad_one, first_bad}
use Rattle.survey.specs.Tables.{Below}
use Rattle.survey.specs.Theorems.{Different, Fits}
use Rattle.mesh.proofs.Firsts.{none_all, all_none}

abbrev pub AllFit : ℕ → List Tri → Type 0
AllFit V ts = (i : ℕ) (t : Tri) → slice_get ts i ≡ Some t → Fits V t

pub good_fits : (V : ℕ) (t : Tri) → good_corners V t ≡ true → Fits V t
good_fits V (tri a b c) e = record {
  a_below = grind (arith, nat_tests);
  b_below = grind (arith, nat_tests);
  c_below = grind (arith, nat_tests);
  ab = λ h. grind (arith, nat_tests);
  bc = λ h. grind (arith, nat_tests);
  ca = λ h. grind (arith, nat_tests);
}

pub fits_good : (V : ℕ) (t : Tri) → Fits V t → good_corners V t ≡ true
fits_good V (tri a b c) d = grind (arith, nat_tests)

pub none_bad : (V : ℕ) (ts : List Tri) → first_bad V ts ≡ None → AllFit V ts
unfolding first_bad
none_bad V ts e i t h = good_fits V t (not-false _ (all_none (λ i o. bad_one V o) ts e i t h))

pub fit_none : (V : ℕ) (ts : List Tri) → AllFit V ts → first_bad V ts ≡ None
unfolding first_bad
fit_none V ts f = none_all (λ i o. bad_one V o) ts (λ i. refl) (λ i t e. ap not (fits_good V t (f i t e)))

pub fit_below : (V : ℕ) (t : Tri) → Fits V t → V ≤ 16384 → Below 16384 t
fit_below V (tri a b c) d l = (omega arith, omega arith, omega arith)

pub below_all : (V : ℕ) (ts : List Tri) (i : ℕ) (t : Tri) → first_bad V ts ≡ None → slice_get ts i ≡ Some t → V ≤ 16384 → Below 16384 t
below_all V ts i t e h l = fit_below V t (none_bad V ts e i t h) l

pub fit_links : (V : ℕ) (ts : List Tri) → AllFit V ts → (v x y : ℕ) → Link ts v x y → (v < V) × (v ≡ x → ⊥)
fit_links V ts f v x y l = let r = link_nth ts l in go r.one (f r.num r.one r.there_is) r.corner
  where
    turn : (a b c : ℕ) → Different V a b c → Turned a b c v x y → (v < V) × (v ≡ x → ⊥)
    turn a b c d (inl k) = (omega arith, λ e. d.ab (sym k.0 ∙ (e ∙ k.1)))
    turn a b c d (inr (inl k)) = (omega arith, λ e. d.bc (sym k.0 ∙ (e ∙ k.1)))
    turn a b c d (inr (inr k)) = (omega arith, λ e. d.ca (sym k.0 ∙ (e ∙ k.1)))

    go : (t : Tri) → Fits V t → Corner t v x y → (v < V) × (v ≡ x → ⊥)
    go (tri a b c) d k = turn a b c d (turned k)

pub closed_fit : (V : ℕ) (ts : List Tri) → Closed V ts → AllFit V ts
closed_fit V ts c i (tri x y z) e =
    let p = c.fits x y z (nth_link ts i (tri x y z) e at_first) in
    let q = c.fits y z x (nth_link ts i (tri x y z) e at_second) in
    let r = c.fits z x y (nth_link ts i (tri x y z) e at_third) in
    record { a_below = p.0; b_below = q.0; c_below = r.0; ab = p.1; bc = q.1; ca = r.1 }

-- two triangles that fit have three vertices
pub three_vertices : (V : ℕ) (ts : List Tri) → 2 ≤ length ts → AllFit V ts → 3 ≤ V
three_vertices V [] h f = absurd (omega arith)
three_vertices V (t ∷ ts) h f = go t (f 0 t refl)
  where
    go : (t : Tri) → Fits V t → 3 ≤ V
    go (tri x y z) d = omega arith
