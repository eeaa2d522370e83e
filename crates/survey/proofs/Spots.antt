-- Each refusal's spot is the lowest that has the fault.
use Rattle.std.proofs.Common.{◌≡◌, ℕ, Bool, true, false, cond, not, ◌||◌, List, length, Some, None, Option, sym, refl, ap, ◌∙◌, ⊎_elim, arith, tests}
use borrow.Author.Tests.{not-true, not-false, clash}
use Rattle.std.specs.Option.{option_map}
use Rattle.std.specs.List.{slice_get}
use Rattle.fault.specs.declared.fault.Fault.{Fault}
use Rattle.fault.specs.declared.fault.Fault.TheVariants.{BadCorners, RepeatedSide, OpenSide, NoSingleRing, SheetCounts}
use Rattle.fault.specs.declared.fault.Count.TheVariants.{Vertices, Triangles}
use Rattle.fault.specs.Faults.{or_else}
use Rattle.mesh.specs.Triangles.{Tri, tri}
use Rattle.mesh.specs.Sides.{side_of}
use Rattle.mesh.specs.Rings.{Corner, at_first, at_second, at_third}
use Rattle.std.proofs.lemmas.Bool.{or_cases}
use Rattle.mesh.proofs.Links.{found}
use Rattle.survey.specs.Checks.{bad_one, bad_at, has_lower, repeats, repeats_one, repeats_at, no_side, is_open, open_one, open_at, first_bad, first_repeated, first_open}
use Rattle.survey.specs.Ringwalk.{ringed, unringed_at, first_unringed}
use Rattle.survey.specs.Theorems.{Fits, Unfit, Repeats, Open, Ringless, Lowest, SpotsMean}
use Rattle.mesh.proofs.Firsts.{first_some}
use Rattle.survey.proofs.Fitting.{good_fits, fits_good}
use Rattle.survey.proofs.Walked.{ring_right, ring_left}
use Rattle.survey.proofs.Exact.{true_lower, repeats_found, open_parts, found_side, side_found, Sound, sound_sides}

-- the first fault, by whether the counts are within their limits and by what each check finds
abbrev first_fault : Bool → Bool → Option ℕ → Option ℕ → Option ℕ → Option ℕ → Option Fault
first_fault x y b r o u =
    or_else (cond x (cond y None (Some (SheetCounts Triangles))) (Some (SheetCounts Vertices)))
    (or_else (option_map BadCorners b) (or_else (option_map RepeatedSide r) (or_else (option_map OpenSide o) (option_map NoSingleRing u))))

corners_told : (x y : Bool) (b r o u : Option ℕ) (i : ℕ) → first_fault x y b r o u ≡ Some (BadCorners i) → b ≡ Some i
corners_told x y b r o u i e = grind (arith, tests)

repeat_told : (x y : Bool) (b r o u : Option ℕ) (i : ℕ) → first_fault x y b r o u ≡ Some (RepeatedSide i) → r ≡ Some i
repeat_told x y b r o u i e = grind (arith, tests)

open_told : (x y : Bool) (b r o u : Option ℕ) (i : ℕ) → first_fault x y b r o u ≡ Some (OpenSide i) → o ≡ Some i
open_told x y b r o u i e = grind (arith, tests)

-- a vertex is told only where the checks of the triangles find nothing
ring_told : (x y : Bool) (b r o u : Option ℕ) (i : ℕ) → first_fault x y b r o u ≡ Some (NoSingleRing i) → (b ≡ None) × (r ≡ None) × (o ≡ None) × (u ≡ Some i)
ring_told x y b r o u i e = grind (arith, tests)

bad_spot : (V : ℕ) (ts : List Tri) (i : ℕ) → first_bad V ts ≡ Some i → Lowest (Unfit V ts) i
unfolding first_bad
bad_spot V ts i e =
    let d = first_some (bad_at V ts) 0 (length ts) i e in
    record { here = go (slice_get ts i) refl d.holds; below = λ j h p. clash (sym (d.lowest j (omega arith) h) ∙ (ap (bad_one V) p.is ∙ bad_is p.one p.unfit)) }
  where
    go : (o : Option Tri) → slice_get ts i ≡ o → bad_one V (slice_get ts i) ≡ true → Unfit V ts i
    go None n h = absurd (clash (sym (ap (bad_one V) n) ∙ h))
    go (Some t) n h = record { one = t; is = n; unfit = λ f. clash (sym (ap not (fits_good V t f)) ∙ (sym (ap (bad_one V) n) ∙ h)) }

    bad_is : (t : Tri) → (Fits V t → ⊥) → bad_one V (Some t) ≡ true
    bad_is t f = other (bad_one V (Some t)) refl
      where
        other : (b : Bool) → bad_one V (Some t) ≡ b → bad_one V (Some t) ≡ true
        other true k = k
        other false k = absurd (f (good_fits V t (not-false _ k)))

repeated_spot : (ts : List Tri) (i : ℕ) → first_repeated ts ≡ Some i → Lowest (Repeats ts) i
unfolding first_repeated
repeated_spot ts i e =
    let d = first_some (repeats_at ts) 0 (length ts) i e in
    record { here = go (slice_get ts i) refl d.holds; below = λ j h p. clash (sym (d.lowest j (omega arith) h) ∙ (ap (repeats_one ts j) p.is ∙ repeats_found ts p.low j p.other p.one p.lower p.other_is p.other_corner p.corner)) }
  where
    one : (t : Tri) → slice_get ts i ≡ Some t → {u v y : ℕ} → Corner t u v y → has_lower ts i u v ≡ true → Repeats ts i
    one t n {u} {v} {y} c h =
        let k = true_lower i (side_of ts u v) h in
        let r = found ts u v k.0 k.2 in
        record { u = u; v = v; third = y; one = t; is = n; corner = c; low = k.0; lower = k.1; other = r.one; other_is = r.there_is; other_third = r.third; other_corner = r.corner }

    three : (t : Tri) → slice_get ts i ≡ Some t → repeats ts i t ≡ true → Repeats ts i
    three (tri a b c) n h =
        ⊎_elim (λ k. one (tri a b c) n at_first k) (λ k. ⊎_elim (λ k. one (tri a b c) n at_second k) (λ k. one (tri a b c) n at_third k) (or_cases (has_lower ts i b c) (has_lower ts i c a) k))
        (or_cases (has_lower ts i a b) (has_lower ts i b c || has_lower ts i c a) h)

    go : (o : Option Tri) → slice_get ts i ≡ o → repeats_one ts i (slice_get ts i) ≡ true → Repeats ts i
    go None n h = absurd (clash (sym (ap (repeats_one ts i) n) ∙ h))
    go (Some t) n h = three t n (sym (ap (repeats_one ts i) n) ∙ h)

open_spot : (ts : List Tri) (i : ℕ) → first_open ts ≡ Some i → Lowest (Open ts) i
unfolding first_open
open_spot ts i e =
    let d = first_some (open_at ts) 0 (length ts) i e in
    record { here = go (slice_get ts i) refl d.holds; below = λ j h p. p.none (found_side ts p.v p.u (open_parts ts p.one p.corner (ap (open_one ts) (sym p.is) ∙ d.lowest j (omega arith) h))) }
  where
    one : (t : Tri) → slice_get ts i ≡ Some t → {u v y : ℕ} → Corner t u v y → no_side ts v u ≡ true → Open ts i
    one t n {u} {v} {y} c h = record { u = u; v = v; third = y; one = t; is = n; corner = c; none = λ m. clash (sym (side_found ts v u m) ∙ h) }

    three : (t : Tri) → slice_get ts i ≡ Some t → is_open ts t ≡ true → Open ts i
    three (tri a b c) n h =
        ⊎_elim (λ k. one (tri a b c) n at_first k) (λ k. ⊎_elim (λ k. one (tri a b c) n at_second k) (λ k. one (tri a b c) n at_third k) (or_cases (no_side ts c b) (no_side ts a c) k))
        (or_cases (no_side ts b a) (no_side ts c b || no_side ts a c) h)

    go : (o : Option Tri) → slice_get ts i ≡ o → open_one ts (slice_get ts i) ≡ true → Open ts i
    go None n h = absurd (clash (sym (ap (open_one ts) n) ∙ h))
    go (Some t) n h = three t n (sym (ap (open_one ts) n) ∙ h)

ring_spot : (V : ℕ) (ts : List Tri) (v : ℕ) → Sound V ts → first_unringed V ts ≡ Some v → Lowest (Ringless V ts) v
unfolding first_unringed
ring_spot V ts v s e =
    let d = first_some (unringed_at ts) 0 V v e in
    let hi = d.high in
    record {
      here = record { below = omega arith; torn = λ r. clash (sym (not-true (ringed ts v) d.holds) ∙ ring_left V ts s.fit s.once v s.backed r) };
      below = λ u h p. p.torn (ring_right V ts s.fit s.once u (not-false (ringed ts u) (d.lowest u (omega arith) h)));
    }

pub spots_mean : SpotsMean
spots_mean V ts i = (
  λ e. bad_spot V ts i (corners_told _ _ _ _ _ _ i e),
  λ e. repeated_spot ts i (repeat_told _ _ _ _ _ _ i e),
  λ e. open_spot ts i (open_told _ _ _ _ _ _ i e),
  λ e. let k = ring_told _ _ (first_bad V ts) (first_repeated ts) (first_open ts) (first_unringed V ts) i e in ring_spot V ts i (sound_sides V ts k.0 k.1 k.2) k.3,
)
