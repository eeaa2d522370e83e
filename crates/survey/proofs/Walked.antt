-- The walk round a vertex is a lap of its links.
use Rattle.std.proofs.Common.{◌≡◌, ℕ, zero, suc, ◌+◌, ◌<◌, Bool, true, false, cond, ◌||◌, eqb, ◌⊎◌, List, [], ◌∷◌, length, Some, None, Option, sym, refl, ap, ◌∙◌, inl, inr, ⊎_elim, arith, eq-eqb, eqb-true, tests}
use Rattle.std.proofs.lemmas.Bool.Decides.{nat_tests}
use native.Mathlib.Decide.{ℕ_discrete}
use borrow.Author.Tests.{eqb-false, clash}
use Rattle.std.specs.Option.{option_map}
use Rattle.std.specs.List.{slice_get}
use Rattle.mesh.specs.Lists.{Mem, now, later, Apart, no_one, one_more}
use Rattle.mesh.specs.Triangles.{Tri, tri}
use Rattle.mesh.specs.Sides.{Side, side, back, sides, side_of}
use Rattle.mesh.specs.Rings.{Corner, at_first, at_second, at_third, Link, OneRing}
use Rattle.std.proofs.lemmas.Bool.{cond-true}
use Rattle.mesh.proofs.Tests.{some_inj, none_some}
use Rattle.mesh.proofs.Members.{mem_cases}
use Rattle.mesh.proofs.Walks.{Sharp}
use Rattle.mesh.proofs.Links.{Turned, turned, corner_is, link_turn, link_side, side_link, sharp_once, link_nth, nth_link, found, lowest}
use Rattle.survey.specs.Ringwalk.{second_of, third_of, third_at, ring_step, comes_round, corners_in, corners_one, corners_to, touches, last_one, last_to, ring_at, ring_from, ringed}
use Rattle.survey.specs.Theorems.{Fits, RingWalkExact}
use Rattle.survey.proofs.Fitting.{AllFit}
use Rattle.survey.proofs.Rounds.{round_suc}
use Rattle.survey.proofs.Laps.{Lap, home, on, lap_reaches, reaches_lap}

-- the third corner, with corners that differ
corner_third : (V : ℕ) {v x y : ℕ} (t : Tri) → Fits V t → Corner t v x y → third_of v t ≡ y
corner_third V {v} {x} {y} (tri a b c) d k = go (turned k)
  where
    go : Turned a b c v x y → third_of v (tri a b c) ≡ y
    go k = grind (arith, nat_tests)

-- a touched triangle, read from v
touch_corner : (v : ℕ) (t : Tri) → touches v t ≡ true → Corner t v (second_of v t) (third_of v t)
touch_corner v (tri a b c) e = go (eqb a v) refl (eqb b v) refl (eqb c v) refl e
  where
    go : (p : Bool) → eqb a v ≡ p → (q : Bool) → eqb b v ≡ q → (r : Bool) → eqb c v ≡ r → (p || (q || r)) ≡ true → Corner (tri a b c) v (cond p b (cond q c a)) (cond p c (cond q a b))
    go true i q j r k e = corner_is (eqb-true a v i) refl refl at_first
    go false i true j r k e = corner_is (eqb-true b v j) refl refl at_second
    go false i false j true k e = corner_is (eqb-true c v k) refl refl at_third
    go false i false j false k e = absurd (clash e)

touch_none : (v : ℕ) (t : Tri) → touches v t ≡ false → corners_in v t ≡ 0
touch_none v (tri a b c) e = grind (arith, nat_tests)

-- where v has corners, the last of its triangles is one
pub record Touched (ts : List Tri) (v l : ℕ) : Type 0 where
  pub one : Tri
  pub there_is : slice_get ts l ≡ Some one
  pub touch : touches v one ≡ true

pub last_touches : (ts : List Tri) (v n : ℕ) → 0 < corners_to ts v n → Touched ts v (last_to ts v n)
last_touches ts v zero h = absurd (omega arith)
last_touches ts v (suc n) h = go (slice_get ts n) refl h (λ k. last_touches ts v n k)
  where
    go : (o : Option Tri) → slice_get ts n ≡ o → 0 < corners_to ts v n + corners_one v o → (0 < corners_to ts v n → Touched ts v (last_to ts v n)) → Touched ts v (last_one v n (last_to ts v n) o)
    go None e h f = f (omega arith)
    go (Some t) e h f = more (touches v t) refl
      where
        more : (b : Bool) → touches v t ≡ b → Touched ts v (cond b n (last_to ts v n))
        more true i = record { one = t; there_is = e; touch = i }
        more false i = let z = touch_none v t i in f (omega arith)

-- the starts of the links at v
abbrev pub outs : ℕ → List Side → List ℕ
outs v [] = []
outs v (side p x ∷ ss) = cond (eqb p v) (x ∷ outs v ss) (outs v ss)

mem_outs : (v x : ℕ) (ss : List Side) → Mem (side v x) ss → Mem x (outs v ss)
mem_outs v x [] m = elim m [ ]
mem_outs v x (side p q ∷ ss) m = go (eqb p v) refl (mem_cases m) (λ k. mem_outs v x ss k)
  where
    go : (b : Bool) → eqb p v ≡ b → (side v x ≡ side p q) ⊎ Mem (side v x) ss → (Mem (side v x) ss → Mem x (outs v ss)) → Mem x (cond b (q ∷ outs v ss) (outs v ss))
    go true e (inl i) f = let d : x ≡ q = cc in rw d now
    go true e (inr k) f = later (f k)
    go false e (inl i) f = let d : p ≡ v = cc in absurd (eqb-false p v e d)
    go false e (inr k) f = f k

outs_mem : (v x : ℕ) (ss : List Side) → Mem x (outs v ss) → Mem (side v x) ss
outs_mem v x [] m = elim m [ ]
outs_mem v x (side p q ∷ ss) m = go (eqb p v) refl m (λ k. outs_mem v x ss k)
  where
    go : (b : Bool) → eqb p v ≡ b → Mem x (cond b (q ∷ outs v ss) (outs v ss)) → (Mem x (outs v ss) → Mem (side v x) ss) → Mem (side v x) (side p q ∷ ss)
    go true e m f = let i = eqb-true p v e in ⊎_elim {C = Mem (side v x) (side p q ∷ ss)} (λ (d : x ≡ q). rw (d, i) now) (λ k. later (f k)) (mem_cases m)
    go false e m f = later (f m)

outs_apart : (v : ℕ) (ss : List Side) → Apart ss → Apart (outs v ss)
outs_apart v [] d = no_one
outs_apart v (side p q ∷ ss) (one_more f d) = go (eqb p v) refl (outs_apart v ss d)
  where
    go : (b : Bool) → eqb p v ≡ b → Apart (outs v ss) → Apart (cond b (q ∷ outs v ss) (outs v ss))
    go true e k = let i = eqb-true p v e in one_more (λ m. let w : Mem (side p q) ss = rw i (outs_mem v q ss m) in f w) k
    go false e k = k

-- their number
length_cond : (b : Bool) (x : ℕ) (xs : List ℕ) → length (cond b (x ∷ xs) xs) ≡ cond b 1 0 + length xs
length_cond b x xs = grind (arith, tests)

corners_cons : (t : Tri) (ts : List Tri) (v n : ℕ) → corners_to (t ∷ ts) v (suc n) ≡ corners_in v t + corners_to ts v n
corners_cons t ts v zero = omega arith
corners_cons t ts v (suc n) = let h = corners_cons t ts v n in omega arith

pub corners_outs : (ts : List Tri) (v : ℕ) → corners_to ts v (length ts) ≡ length (outs v (sides ts))
corners_outs [] v = refl
corners_outs (tri a b c ∷ ts) v =
    let h = corners_outs ts v in
    let e = corners_cons (tri a b c) ts v (length ts) in
    let rest = outs v (sides ts) in
    let r = length_cond (eqb c v) a rest in
    let l3 = cond (eqb c v) (a ∷ rest) rest in
    let q = length_cond (eqb b v) c l3 in
    let l2 = cond (eqb b v) (c ∷ l3) l3 in
    let p = length_cond (eqb a v) b l2 in omega arith

ring_suc : (ts : List Tri) (v n l : ℕ) → ring_from ts v (suc n) l ≡ ring_at ts v n (slice_get ts l)
ring_suc ts v n l = grind (arith, nat_tests)

-- under no fault 16 and 17
module _ (V : ℕ) (ts : List Tri) (fit : AllFit V ts) (once : Apart (sides ts)) (v : ℕ) where
  abbrev R : ℕ → ℕ → Type 0
  R = Link ts v

  sharp : Sharp R
  sharp p q r l k = sharp_once ts once l k

  found_step : (x k : ℕ) → side_of ts v x ≡ Some k → (y : ℕ) × (ring_step ts v x ≡ Some y) × R x y
  found_step x k e =
      let f = found ts v x k e in
      let w = corner_third V f.one (fit k f.one f.there_is) f.corner in
      (f.third, ap (third_at ts v) e ∙ (ap (option_map (third_of v)) f.there_is ∙ ap (λ (z : ℕ). Some z) w), nth_link ts k f.one f.there_is f.corner)

  step_link : (x y : ℕ) → ring_step ts v x ≡ Some y → R x y
  step_link x y e = go (side_of ts v x) refl
    where
      go : (o : Option ℕ) → side_of ts v x ≡ o → R x y
      go None i = none_some (sym (ap (third_at ts v) i) ∙ e)
      go (Some k) i = let s = found_step x k i in let d = some_inj (sym e ∙ s.1) in rw d s.2

  link_step : (x y : ℕ) → R x y → ring_step ts v x ≡ Some y
  link_step x y l =
      let r = link_nth ts l in
      let k = lowest ts v x r.num r.one r.there_is r.corner in
      let s = found_step x k.0 k.2 in
      let d = sharp x s.0 y s.2 l in s.1 ∙ ap (λ (z : ℕ). Some z) d

  round_lap : (a n x : ℕ) → comes_round ts v a n x ≡ true → Lap R a n x
  round_lap a zero x e = let d = eqb-true x a e in rw d home
  round_lap a (suc n) x e = go (ℕ_discrete x a) (ring_step ts v x) refl (λ y e. round_lap a n y e)
    where
      go : Dec (x ≡ a) → (o : Option ℕ) → ring_step ts v x ≡ o → ((y : ℕ) → comes_round ts v a n y ≡ true → Lap R a n y) → Lap R a (suc n) x
      go (yes d) o i f = absurd (clash (sym (cond-true (eqb x a) false _ (eq-eqb x a d)) ∙ e))
      go (no d) None i f = absurd (clash (sym (round_suc ts v a n x None d i) ∙ e))
      go (no d) (Some y) i f = on d (step_link x y i) (f y (sym (round_suc ts v a n x (Some y) d i) ∙ e))

  lap_round : {a n x : ℕ} → Lap R a n x → comes_round ts v a n x ≡ true
  lap_round {a} home = eq-eqb a a refl
  lap_round {a} (on {n} {x} {y} f r l) = round_suc ts v a n x (Some y) f (link_step x y r) ∙ lap_round l

  os : List ℕ
  os = outs v (sides ts)

  into : (p q : ℕ) → R p q → Mem p (outs v (sides ts))
  into p q l = mem_outs v p (sides ts) (link_side l)

  -- the ring test, where v has corners
  ring_is : (n : ℕ) → corners_to ts v (length ts) ≡ suc n → (w : Touched ts v (last_to ts v (length ts))) → ringed ts v ≡ comes_round ts v (second_of v w.one) n (third_of v w.one)
  ring_is n e w =
      ap (λ (m : ℕ). ring_from ts v m (last_to ts v (length ts))) e ∙ (ring_suc ts v n (last_to ts v (length ts)) ∙ ap (ring_at ts v n) w.there_is)

  pub ring_right : ringed ts v ≡ true → OneRing (Link ts v)
  ring_right e = go (corners_to ts v (length ts)) refl
    where
      go : (m : ℕ) → corners_to ts v (length ts) ≡ m → OneRing (Link ts v)
      go zero i = absurd (clash (sym (ap (λ (m : ℕ). ring_from ts v m (last_to ts v (length ts))) i) ∙ e))
      go (suc n) i =
          let w = last_touches ts v (length ts) (omega arith) in
          let l = round_lap (second_of v w.one) n (third_of v w.one) (sym (ring_is n i w) ∙ e) in
          let k = corners_outs ts v in
          lap_reaches (outs v (sides ts)) sharp into (nth_link ts (last_to ts v (length ts)) w.one w.there_is (touch_corner v w.one w.touch)) l (omega arith)

  pub ring_left : ((s : Side) → Mem s (sides ts) → Mem (back s) (sides ts)) → OneRing (Link ts v) → ringed ts v ≡ true
  ring_left both r = go (corners_to ts v (length ts)) refl
    where
      filled : {x : ℕ} {xs : List ℕ} → Mem x xs → 0 < length xs
      filled now = omega arith
      filled (later m) = omega arith

      go : (m : ℕ) → corners_to ts v (length ts) ≡ m → ringed ts v ≡ true
      go zero i = let h = filled (into r.some.0 r.some.1 r.some.2) in let k = corners_outs ts v in absurd (omega arith)
      go (suc n) i =
          let w = last_touches ts v (length ts) (omega arith) in
          let a = second_of v w.one in
          let b = third_of v w.one in
          let l = nth_link ts (last_to ts v (length ts)) w.one w.there_is (touch_corner v w.one w.touch) in
          let q = side_link ts (both (side b v) (link_side (link_turn (link_turn l)))) in
          let g = reaches_lap (outs v (sides ts)) sharp into (λ p m. side_link ts (outs_mem v p (sides ts) m)) (outs_apart v (sides ts) once) l (r.all b q.0 a b q.1 l) (λ p q m. r.all a b p q l m) in
          let k = corners_outs ts v in
          let z = g.2 in
          let d : g.0 ≡ n = omega arith in
          ring_is n i w ∙ (ap (λ (m : ℕ). comes_round ts v a m b) (sym d) ∙ lap_round g.1)

pub ring_walk_exact : RingWalkExact
ring_walk_exact V ts fit once both v = (ring_right V ts fit once v, ring_left V ts fit once v both)
