-- Corners, links and sides of listed triangles.
use Rattle.std.proofs.Common.{◌≡◌, ℕ, zero, suc, ◌+◌, ◌≤◌, Bool, true, false, cond, ◌&&◌, eqb, ◌⊎◌, List, [], ◌∷◌, Some, None, Option, sym, refl, ap, ◌∙◌, subst, inl, inr, arith, eq-eqb, eqb-true}
use borrow.Author.Tests.{clash}
use Rattle.std.specs.Option.{option_map}
use Rattle.std.specs.List.{slice_get}
use Rattle.std.proofs.lemmas.Bool.{and_parts, and_from}
use Rattle.mesh.specs.Lists.{Mem, now, later, Apart, one_more}
use Rattle.mesh.specs.Triangles.{Tri, tri}
use Rattle.mesh.specs.Sides.{Side, side, sides, corner_of, lies_here, side_from, side_of}
use Rattle.mesh.specs.Rings.{Corner, at_first, at_second, at_third, Link, here, there}
use Rattle.mesh.proofs.Tests.{some_inj, none_some}

-- a corner, by equations
abbrev pub Turned : ℕ → ℕ → ℕ → ℕ → ℕ → ℕ → Type 0
Turned a b c v x y = ((v ≡ a) × (x ≡ b) × (y ≡ c)) ⊎ (((v ≡ b) × (x ≡ c) × (y ≡ a)) ⊎ ((v ≡ c) × (x ≡ a) × (y ≡ b)))

pub turned : {a b c v x y : ℕ} → Corner (tri a b c) v x y → Turned a b c v x y
turned at_first = inl (refl, refl, refl)
turned at_second = inr (inl (refl, refl, refl))
turned at_third = inr (inr (refl, refl, refl))

pub corner_is : {a b c u v w x y z : ℕ} → u ≡ v → w ≡ x → y ≡ z → Corner (tri a b c) u w y → Corner (tri a b c) v x z
corner_is e i k d = rw (← e, ← i, ← k) d

-- the same triangle read from its next corner
turn : {t : Tri} {v x y : ℕ} → Corner t v x y → Corner t x y v
turn at_first = at_second
turn at_second = at_third
turn at_third = at_first

pub link_turn : {ts : List Tri} {v x y : ℕ} → Link ts v x y → Link ts x y v
link_turn (here c) = here (turn c)
link_turn (there l) = there (link_turn l)

pub link_side : {ts : List Tri} {v x y : ℕ} → Link ts v x y → Mem (side v x) (sides ts)
link_side {ts = []} l = elim l [ ]
link_side {ts = tri a b c ∷ ts} (here at_first) = now
link_side {ts = tri a b c ∷ ts} (here at_second) = later now
link_side {ts = tri a b c ∷ ts} (here at_third) = later (later now)
link_side {ts = tri a b c ∷ ts} (there l) = later (later (later (link_side l)))

pub side_link : (ts : List Tri) {v x : ℕ} → Mem (side v x) (sides ts) → (y : ℕ) × Link ts v x y
side_link [] m = elim m [ ]
side_link (tri a b c ∷ ts) now = (c, here at_first)
side_link (tri a b c ∷ ts) (later now) = (a, here at_second)
side_link (tri a b c ∷ ts) (later (later now)) = (b, here at_third)
side_link (tri a b c ∷ ts) (later (later (later m))) = let k = side_link ts m in (k.0, there k.1)

-- the three sides of the first triangle stand nowhere else
head_out : {a b c v x y : ℕ} (ts : List Tri) → Apart (sides (tri a b c ∷ ts)) → Corner (tri a b c) v x y → Mem (side v x) (sides ts) → ⊥
head_out ts (one_more f (one_more g (one_more h r))) at_first m = f (later (later m))
head_out ts (one_more f (one_more g (one_more h r))) at_second m = g (later m)
head_out ts (one_more f (one_more g (one_more h r))) at_third m = h m

tail_apart : {a b c : ℕ} (ts : List Tri) → Apart (sides (tri a b c ∷ ts)) → Apart (sides ts)
tail_apart ts (one_more f (one_more g (one_more h r))) = r

mem_is : {s t : Side} {xs : List Side} → s ≡ t → Mem s (t ∷ xs)
mem_is e = rw e now

head_sharp : {a b c v x y z : ℕ} (ts : List Tri) → Apart (sides (tri a b c ∷ ts)) → Turned a b c v x y → Turned a b c v x z → y ≡ z
head_sharp ts ap (inl p) (inl q) = cc
head_sharp ts ap (inr (inl p)) (inr (inl q)) = cc
head_sharp ts ap (inr (inr p)) (inr (inr q)) = cc
head_sharp ts (one_more f k) (inl p) (inr (inl q)) = absurd (f (mem_is (cc)))
head_sharp ts (one_more f k) (inl p) (inr (inr q)) = absurd (f (later (mem_is (cc))))
head_sharp ts (one_more f k) (inr (inl p)) (inl q) = absurd (f (mem_is (cc)))
head_sharp ts (one_more f k) (inr (inr p)) (inl q) = absurd (f (later (mem_is (cc))))
head_sharp ts (one_more f (one_more g k)) (inr (inl p)) (inr (inr q)) = absurd (g (mem_is (cc)))
head_sharp ts (one_more f (one_more g k)) (inr (inr p)) (inr (inl q)) = absurd (g (mem_is (cc)))

pub sharp_once : (ts : List Tri) → Apart (sides ts) → {v x y z : ℕ} → Link ts v x y → Link ts v x z → y ≡ z
sharp_once [] ap l k = elim l [ ]
sharp_once (tri a b c ∷ ts) ap (here l) (here k) = head_sharp ts ap (turned l) (turned k)
sharp_once (tri a b c ∷ ts) ap (here l) (there k) = absurd (head_out ts ap l (link_side k))
sharp_once (tri a b c ∷ ts) ap (there l) (here k) = absurd (head_out ts ap k (link_side l))
sharp_once (tri a b c ∷ ts) ap (there l) (there k) = sharp_once ts (tail_apart ts ap) l k

-- a link, by its triangle's number
pub record At (ts : List Tri) (v x y : ℕ) : Type 0 where
  pub num : ℕ
  pub one : Tri
  pub there_is : slice_get ts num ≡ Some one
  pub corner : Corner one v x y

pub link_nth : (ts : List Tri) {v x y : ℕ} → Link ts v x y → At ts v x y
link_nth [] l = elim l [ ]
link_nth (t ∷ ts) (here c) = record { num = 0; one = t; there_is = refl; corner = c }
link_nth (t ∷ ts) (there l) = let r = link_nth ts l in record { num = suc r.num; one = r.one; there_is = r.there_is; corner = r.corner }

pub nth_link : (ts : List Tri) (i : ℕ) (t : Tri) {v x y : ℕ} → slice_get ts i ≡ Some t → Corner t v x y → Link ts v x y
nth_link [] i t e c = none_some e
nth_link (u ∷ ts) zero t {v} {x} {y} e c = let d = some_inj e in here (subst (λ (z : Tri). Corner z v x y) (sym d) c)
nth_link (u ∷ ts) (suc i) t e c = there (nth_link ts i t e c)

-- the corner that begins a side
pub corner_there : (u v k : ℕ) (t : Tri) → corner_of u v t ≡ Some k → (y : ℕ) × Corner t u v y
corner_there u v k (tri a b c) e = go (eqb a u && eqb b v) refl (eqb b u && eqb c v) refl (eqb c u && eqb a v) refl e
  where
    go : (p : Bool) → (eqb a u && eqb b v) ≡ p → (q : Bool) → (eqb b u && eqb c v) ≡ q → (r : Bool) → (eqb c u && eqb a v) ≡ r
        → cond p (Some 0) (cond q (Some 1) (cond r (Some 2) None)) ≡ Some k → (y : ℕ) × Corner (tri a b c) u v y
    go true i q j r l e = let h = and_parts (eqb a u) (eqb b v) i in (c, corner_is (eqb-true a u h.0) (eqb-true b v h.1) refl at_first)
    go false i true j r l e = let h = and_parts (eqb b u) (eqb c v) j in (a, corner_is (eqb-true b u h.0) (eqb-true c v h.1) refl at_second)
    go false i false j true l e = let h = and_parts (eqb c u) (eqb a v) l in (b, corner_is (eqb-true c u h.0) (eqb-true a v h.1) refl at_third)
    go false i false j false l e = none_some e

pub there_corner : {u v y : ℕ} (t : Tri) → Corner t u v y → (k : ℕ) × (corner_of u v t ≡ Some k)
there_corner {u} {v} {y} (tri a b c) d = go (eqb a u && eqb b v) refl (eqb b u && eqb c v) refl (eqb c u && eqb a v) refl (turned d)
  where
    two : (p q : ℕ) → u ≡ p → v ≡ q → (eqb p u && eqb q v) ≡ true
    two p q e i = and_from (eqb p u) (eqb q v) (eq-eqb p u (sym e)) (eq-eqb q v (sym i))

    go : (p : Bool) → (eqb a u && eqb b v) ≡ p → (q : Bool) → (eqb b u && eqb c v) ≡ q → (r : Bool) → (eqb c u && eqb a v) ≡ r
        → Turned a b c u v y → (k : ℕ) × (cond p (Some 0) (cond q (Some 1) (cond r (Some 2) None)) ≡ Some k)
    go true i q j r l d = (0, refl)
    go false i true j r l d = (1, refl)
    go false i false j true l d = (2, refl)
    go false i false j false l (inl k) = absurd (clash (sym i ∙ two a b k.0 k.1))
    go false i false j false l (inr (inl k)) = absurd (clash (sym j ∙ two b c k.0 k.1))
    go false i false j false l (inr (inr k)) = absurd (clash (sym l ∙ two c a k.0 k.1))

-- the triangle that the side question finds
abbrev pub first_from : ℕ → ℕ → ℕ → List Tri → Option ℕ
first_from u v i ts = option_map (λ l. l.triangle) (side_from u v i ts)

pub record Found (ts : List Tri) (u v k : ℕ) : Type 0 where
  pub one : Tri
  pub there_is : slice_get ts k ≡ Some one
  pub third : ℕ
  pub corner : Corner one u v third

record FoundFrom (u v i : ℕ) (ts : List Tri) (k : ℕ) : Type 0 where
  pub at : ℕ
  pub is : k ≡ i + at
  pub lies : Found ts u v at

found_from : (u v i : ℕ) (ts : List Tri) (k : ℕ) → first_from u v i ts ≡ Some k → FoundFrom u v i ts k
found_from u v i [] k e = none_some e
found_from u v i (t ∷ ts) k e = go (corner_of u v t) refl e (λ e. found_from u v (i + 1) ts k e)
  where
    go : (o : Option ℕ) → corner_of u v t ≡ o → option_map (λ l. l.triangle) (lies_here i o (side_from u v (i + 1) ts)) ≡ Some k
        → (first_from u v (i + 1) ts ≡ Some k → FoundFrom u v (i + 1) ts k) → FoundFrom u v i (t ∷ ts) k
    go (Some n) h e f = let d = some_inj e in let c = corner_there u v n t h in record { at = 0; is = omega arith; lies = record { one = t; there_is = refl; third = c.0; corner = c.1 } }
    go None h e f = let r = f e in let d = r.is in let q = r.lies in record { at = suc r.at; is = omega arith; lies = record { one = q.one; there_is = q.there_is; third = q.third; corner = q.corner } }

pub found : (ts : List Tri) (u v k : ℕ) → side_of ts u v ≡ Some k → Found ts u v k
found ts u v k e = let r = found_from u v 0 ts k e in let d = r.is in let q = r.lies in let i : k ≡ r.at = omega arith in subst (λ (n : ℕ). Found ts u v n) (sym i) q

lowest_from : (u v i : ℕ) (ts : List Tri) (j : ℕ) (t : Tri) {y : ℕ} → slice_get ts j ≡ Some t → Corner t u v y → (k : ℕ) × (k ≤ i + j) × (first_from u v i ts ≡ Some k)
lowest_from u v i [] j t e c = none_some e
lowest_from u v i (x ∷ ts) zero t {y} e c =
    let d = some_inj e in
    let k = there_corner x (subst (λ (z : Tri). Corner z u v y) (sym d) c) in
    (i, (omega arith), ap (λ (o : Option ℕ). option_map (λ l. l.triangle) (lies_here i o (side_from u v (i + 1) ts))) k.1)
lowest_from u v i (x ∷ ts) (suc j) t e c = go (corner_of u v x) (lowest_from u v (i + 1) ts j t e c)
  where
    go : (o : Option ℕ) → (k : ℕ) × (k ≤ i + 1 + j) × (first_from u v (i + 1) ts ≡ Some k) → (k : ℕ) × (k ≤ i + suc j) × (option_map (λ l. l.triangle) (lies_here i o (side_from u v (i + 1) ts)) ≡ Some k)
    go (Some n) r = (i, (omega arith), refl)
    go None r = let l = r.1 in (r.0, (omega arith), r.2)

-- the side question finds a triangle no higher than any that has the side
pub lowest : (ts : List Tri) (u v j : ℕ) (t : Tri) {y : ℕ} → slice_get ts j ≡ Some t → Corner t u v y → (k : ℕ) × (k ≤ j) × (side_of ts u v ≡ Some k)
lowest ts u v j t e c = let r = lowest_from u v 0 ts j t e c in let l = r.1 in (r.0, (omega arith), r.2)
