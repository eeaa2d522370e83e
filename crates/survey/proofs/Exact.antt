-- The survey finds no fault exactly if the mesh is closed and within the limits.
use Rattle.std.proofs.Common.{◌≡◌, ℕ, zero, suc, ◌*◌, ◌<◌, ◌≤◌, true, false, not, List, [], ◌∷◌, length, is_some, Some, None, Ok, Option, sym, refl, ap, ◌∙◌, subst, inl, inr, ⊎_elim, arith, ltb-true, lt-ltb, tests}
use borrow.Author.Tests.{not-false, clash}
use Rattle.std.specs.Option.{option_map}
use Rattle.std.specs.List.{slice_get}
use Rattle.fault.specs.declared.fault.Fault.{Fault}
use Rattle.fault.specs.declared.fault.Fault.TheVariants.{BadCorners, RepeatedSide, OpenSide, NoSingleRing}
use Rattle.fault.specs.Faults.{or_else}
use Rattle.mesh.specs.Lists.{Mem, Apart, no_one, one_more}
use Rattle.mesh.specs.Triangles.{Tri, tri}
use Rattle.mesh.specs.Sides.{Side, side, back, sides, side_of}
use Rattle.mesh.specs.Rings.{Corner, at_first, at_second, at_third}
use Rattle.mesh.specs.Closed.{Closed}
use Rattle.mesh.specs.Limits.{counts_fault}
use Rattle.std.proofs.lemmas.Bool.{false_from_ne_true, or_from}
use Rattle.mesh.proofs.Tests.{some_inj, none_some}
use Rattle.fault.proofs.Orders.{or_none, mapped_none}
use Rattle.mesh.proofs.Bounds.{between_is, is_between, counts_none, none_counts}
use Rattle.mesh.proofs.Members.{mem_cases}
use Rattle.mesh.proofs.Links.{Turned, turned, link_side, side_link, link_nth, nth_link, found, lowest}
use Rattle.mesh.proofs.Counting.{closed_sided, edges_half}
use Rattle.survey.specs.Checks.{lower, has_lower, repeats, repeats_one, no_side, is_open, open_one, first_bad, first_repeated, first_open}
use Rattle.survey.specs.Ringwalk.{ringed, unringed_at, first_unringed}
use Rattle.survey.specs.declared.counts.Counts.{Counts}
use Rattle.survey.specs.Survey.{shape_fault, survey_fault, edge_count, counted, counted_unless, surveyed}
use Rattle.survey.specs.Theorems.{ClosedInLimits, SurveyExact}
use Rattle.mesh.proofs.Firsts.{first_none, none_first, none_all, all_none}
use Rattle.survey.proofs.Fitting.{AllFit, none_bad, fit_none, fit_links, closed_fit, three_vertices}
use Rattle.survey.proofs.Walked.{ring_right, ring_left}

-- no side twice, by numbers
abbrev pub NoneTwice : List Tri → Type 0
NoneTwice ts = (i j : ℕ) (t t' : Tri) → i < j → slice_get ts i ≡ Some t → slice_get ts j ≡ Some t' → (u v y z : ℕ) → Corner t u v y → Corner t' u v z → ⊥

pub apart_of : (V : ℕ) (ts : List Tri) → AllFit V ts → NoneTwice ts → Apart (sides ts)
apart_of V [] f g = no_one
apart_of V (tri a b c ∷ ts) f g =
    let d = f 0 (tri a b c) refl in
    one_more (λ m. ⊎_elim (λ (e : side a b ≡ side b c). d.ab (cc)) (λ m. ⊎_elim (λ (e : side a b ≡ side c a). d.ca (cc)) (λ m. out at_first m) (mem_cases m)) (mem_cases m))
    (one_more (λ m. ⊎_elim (λ (e : side b c ≡ side c a). d.bc (cc)) (λ m. out at_second m) (mem_cases m))
    (one_more (λ m. out at_third m) (apart_of V ts (λ i t e. f (suc i) t e) (λ i j t t' h e e' u v y z c c'. g (suc i) (suc j) t t' (omega arith) e e' u v y z c c'))))
  where
    out : {u v y : ℕ} → Corner (tri a b c) u v y → Mem (side u v) (sides ts) → ⊥
    out {u} {v} {y} k m = let l = side_link ts m in let r = link_nth ts l.1 in g 0 (suc r.num) (tri a b c) r.one (omega arith) refl r.there_is u v y l.0 k r.corner

mem_at : {p q r s : ℕ} {xs : List Side} → p ≡ r → q ≡ s → Mem (side p q) xs → Mem (side r s) xs
mem_at e i m = rw (← e, ← i) m

later_out : {a b c u v y : ℕ} {ss : List Side} → Apart (side a b ∷ (side b c ∷ (side c a ∷ ss))) → Turned a b c u v y → Mem (side u v) ss → ⊥
later_out (one_more f (one_more g (one_more h r))) (inl k) m = f (Mem.later (Mem.later (mem_at k.0 k.1 m)))
later_out (one_more f (one_more g (one_more h r))) (inr (inl k)) m = g (Mem.later (mem_at k.0 k.1 m))
later_out (one_more f (one_more g (one_more h r))) (inr (inr k)) m = h (mem_at k.0 k.1 m)

tail_apart : {a b c : Side} {ss : List Side} → Apart (a ∷ (b ∷ (c ∷ ss))) → Apart ss
tail_apart (one_more f (one_more g (one_more h r))) = r

pub none_twice : (ts : List Tri) → Apart (sides ts) → NoneTwice ts
none_twice [] d i j t t' h e e' u v y z c c' = none_some e
none_twice (x ∷ ts) d i zero t t' h e e' u v y z c c' = absurd (omega arith)
none_twice (tri p q r ∷ ts) d zero (suc j) t t' h e e' u v y z c c' = later_out d (turned (head_is (some_inj e) c)) (link_side (nth_link ts j t' e' c'))
  where
    head_is : tri p q r ≡ t → Corner t u v y → Corner (tri p q r) u v y
    head_is e c = rw e c
none_twice (tri p q r ∷ ts) d (suc i) (suc j) t t' h e e' u v y z c c' = none_twice ts (tail_apart d) i j t t' (omega arith) e e' u v y z c c'

-- a side that a lower triangle has
lower_true : (i k : ℕ) (o : Option ℕ) → o ≡ Some k → k < i → lower i o ≡ true
lower_true i k o e h = ap (lower i) e ∙ lt-ltb k i h

pub true_lower : (i : ℕ) (o : Option ℕ) → lower i o ≡ true → (k : ℕ) × (k < i) × (o ≡ Some k)
true_lower i None e = absurd (clash e)
true_lower i (Some k) e = (k, ltb-true k i e, refl)

repeats_true : {u v z : ℕ} (ts : List Tri) (j : ℕ) (t : Tri) → Corner t u v z → has_lower ts j u v ≡ true → repeats ts j t ≡ true
repeats_true {u} {v} {z} ts j (tri a b c) k e = go (turned k)
  where
    go : Turned a b c u v z → repeats ts j (tri a b c) ≡ true
    go k = grind (arith, tests)

-- a triangle that repeats a side of a lower one is found to
pub repeats_found : {u v y z : ℕ} (ts : List Tri) (i j : ℕ) (t t' : Tri) → i < j → slice_get ts i ≡ Some t → Corner t u v y → Corner t' u v z → repeats ts j t' ≡ true
repeats_found {u} {v} ts i j t t' h n c c' =
    let k = lowest ts u v i t n c in
    let l = k.1 in repeats_true ts j t' c' (lower_true j k.0 (side_of ts u v) k.2 (omega arith))

none_once : (ts : List Tri) → first_repeated ts ≡ None → NoneTwice ts
unfolding first_repeated
none_once ts e i j t t' h n n' u v y z c c' = clash (sym (all_none (repeats_one ts) ts e j t' n') ∙ repeats_found ts i j t t' h n c c')

once_none : (ts : List Tri) → NoneTwice ts → first_repeated ts ≡ None
unfolding first_repeated
once_none ts f = none_all (repeats_one ts) ts (λ i. refl) each
  where
    one : (j : ℕ) (t : Tri) → slice_get ts j ≡ Some t → {u v z : ℕ} → Corner t u v z → has_lower ts j u v ≡ false
    one j t e {u} {v} {z} c = false_from_ne_true (has_lower ts j u v) (λ h.
        let k = true_lower j (side_of ts u v) h in
        let r = found ts u v k.0 k.2 in f k.0 j r.one t k.1 r.there_is e u v r.third z r.corner c)

    each : (j : ℕ) (t : Tri) → slice_get ts j ≡ Some t → repeats ts j t ≡ false
    each j (tri a b c) e = or_from _ _ (one j (tri a b c) e at_first) (or_from _ _ (one j (tri a b c) e at_second) (one j (tri a b c) e at_third))

-- a side without reverse
pub some_of : (o : Option ℕ) → not (is_some o) ≡ false → (k : ℕ) × (o ≡ Some k)
some_of None e = absurd (clash (sym e))
some_of (Some k) e = (k, refl)

pub open_parts : {u v z : ℕ} (ts : List Tri) (t : Tri) → Corner t u v z → is_open ts t ≡ false → no_side ts v u ≡ false
open_parts {u} {v} {z} ts (tri a b c) k e = go (turned k)
  where
    go : Turned a b c u v z → no_side ts v u ≡ false
    go k = grind (arith, tests)

abbrev pub Backed : List Tri → Type 0
Backed ts = (s : Side) → Mem s (sides ts) → Mem (back s) (sides ts)

-- a side that the question finds is a side
pub found_side : (ts : List Tri) (u v : ℕ) → no_side ts u v ≡ false → Mem (side u v) (sides ts)
found_side ts u v e = let k = some_of (side_of ts u v) e in let f = found ts u v k.0 k.1 in link_side (nth_link ts k.0 f.one f.there_is f.corner)

pub side_found : (ts : List Tri) (u v : ℕ) → Mem (side u v) (sides ts) → no_side ts u v ≡ false
side_found ts u v m =
    let l = side_link ts m in
    let r = link_nth ts l.1 in
    let k = lowest ts u v r.num r.one r.there_is r.corner in ap (λ (o : Option ℕ). not (is_some o)) k.2

none_backed : (ts : List Tri) → first_open ts ≡ None → Backed ts
unfolding first_open
none_backed ts e (side u v) m =
    let l = side_link ts m in
    let r = link_nth ts l.1 in found_side ts v u (open_parts ts r.one r.corner (all_none (λ i o. open_one ts o) ts e r.num r.one r.there_is))

backed_none : (ts : List Tri) → Backed ts → first_open ts ≡ None
unfolding first_open
backed_none ts b = none_all (λ i o. open_one ts o) ts (λ i. refl) each
  where
    one : (j : ℕ) (t : Tri) → slice_get ts j ≡ Some t → {u v z : ℕ} → Corner t u v z → no_side ts v u ≡ false
    one j t e {u} {v} c = side_found ts v u (b (side u v) (link_side (nth_link ts j t e c)))

    each : (j : ℕ) (t : Tri) → slice_get ts j ≡ Some t → is_open ts t ≡ false
    each j (tri x y z) e = or_from _ _ (one j (tri x y z) e at_first) (or_from _ _ (one j (tri x y z) e at_second) (one j (tri x y z) e at_third))

-- rings
none_ringed : (V : ℕ) (ts : List Tri) → first_unringed V ts ≡ None → (v : ℕ) → v < V → ringed ts v ≡ true
unfolding first_unringed
none_ringed V ts e v h = not-false (ringed ts v) (first_none (unringed_at ts) 0 V e v (omega arith) (omega arith))

ringed_none : (V : ℕ) (ts : List Tri) → ((v : ℕ) → v < V → ringed ts v ≡ true) → first_unringed V ts ≡ None
unfolding first_unringed
ringed_none V ts f = none_first (unringed_at ts) 0 V (λ k h l. ap not (f k (omega arith)))

-- what it means that each check of the shape finds nothing
pub record Sound (V : ℕ) (ts : List Tri) : Type 0 where
  pub fit : AllFit V ts
  pub once : Apart (sides ts)
  pub backed : Backed ts

pub sound_sides : (V : ℕ) (ts : List Tri) → first_bad V ts ≡ None → first_repeated ts ≡ None → first_open ts ≡ None → Sound V ts
sound_sides V ts a b c = record { fit = none_bad V ts a; once = apart_of V ts (none_bad V ts a) (none_once ts b); backed = none_backed ts c }

pub shape_closed : (V : ℕ) (ts : List Tri) → 2 ≤ length ts → shape_fault V ts ≡ None → Closed V ts
shape_closed V ts two e =
    let a = or_none (option_map BadCorners (first_bad V ts)) _ e in
    let b = or_none (option_map RepeatedSide (first_repeated ts)) _ a.1 in
    let c = or_none (option_map OpenSide (first_open ts)) _ b.1 in
    let d = mapped_none NoSingleRing (first_unringed V ts) c.1 in
    let s = sound_sides V ts (mapped_none BadCorners _ a.0) (mapped_none RepeatedSide _ b.0) (mapped_none OpenSide _ c.0) in
    record {
      two = two;
      fits = fit_links V ts s.fit;
      once = s.once;
      both_ways = s.backed;
      ring = λ v h. ring_right V ts s.fit s.once v (none_ringed V ts d v h);
    }

pub closed_shape : (V : ℕ) (ts : List Tri) → Closed V ts → shape_fault V ts ≡ None
closed_shape V ts c =
    let fit = closed_fit V ts c in
    let a = fit_none V ts fit in
    let b = once_none ts (none_twice ts c.once) in
    let d = backed_none ts c.both_ways in
    let g = ringed_none V ts (λ v h. ring_left V ts fit c.once v c.both_ways (c.ring v h)) in rw (a, b, d, g)

pub survey_closed : (V : ℕ) (ts : List Tri) → survey_fault V ts ≡ None → ClosedInLimits V ts
survey_closed V ts e =
    let a = or_none (counts_fault V (length ts)) _ e in
    let b = counts_none V (length ts) a.0 in
    let v = between_is 3 16384 V b.0 in
    let t = between_is 2 32768 (length ts) b.1 in
    record { few_vertices = v.1; few_triangles = t.1; closed = shape_closed V ts t.0 a.1 }

pub closed_survey : (V : ℕ) (ts : List Tri) → ClosedInLimits V ts → survey_fault V ts ≡ None
closed_survey V ts c =
    let k = c.closed in
    let a = is_between 3 16384 V (three_vertices V ts k.two (closed_fit V ts k)) c.few_vertices in
    let b = is_between 2 32768 (length ts) k.two c.few_triangles in
    let n = none_counts V (length ts) a b in
    ap (λ o. or_else o (shape_fault V ts)) n ∙ closed_shape V ts k

pub survey_exact : SurveyExact
survey_exact V ts = (survey_closed V ts, closed_survey V ts)

-- with no fault, there are three edges for two triangles
pub edges_half_told : (V : ℕ) (ts : List Tri) → survey_fault V ts ≡ None → (2 * edge_count ts ≡ 3 * length ts) × (length ts ≤ 32768)
unfolding edge_count
edges_half_told V ts e = let c = survey_closed V ts e in (edges_half ts (closed_sided V ts c.closed), c.few_triangles)

-- the counts that the survey tells are small
pub record SmallCounts (c : Counts) : Type 0 where
  pub vertices : c.vertices ≤ 16384
  pub edges : c.edges ≤ 49152
  pub triangles : c.triangles ≤ 32768

pub surveyed_small : (V : ℕ) (ts : List Tri) (c : Counts) → Ok c ≡ surveyed V ts → SmallCounts c
surveyed_small V ts c e = go (survey_fault V ts) refl e
  where
    go : (o : Option Fault) → survey_fault V ts ≡ o → Ok c ≡ counted_unless o V ts → SmallCounts c
    go (Some f) i e = cc
    go None i e =
        let h = edges_half_told V ts i in
        let l = survey_closed V ts i in
        let d : c ≡ counted V (edge_count ts) (length ts) = cc in
        let two = h.0 in
        let few = h.1 in
        let many = l.few_vertices in
        let small : SmallCounts (counted V (edge_count ts) (length ts)) = record { vertices = many; edges = omega arith; triangles = few } in subst SmallCounts (sym d) small
