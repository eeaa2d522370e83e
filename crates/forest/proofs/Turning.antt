-- The next marked side is there, and the mesh turned round leads back.
use Rattle.std.proofs.Common.{◌≡◌, ℕ, zero, suc, ◌<◌, ◌≤◌, Bool, true, false, cond, not, ◌&&◌, eqb, ◌⊎◌, List, [], ◌∷◌, map, length, Some, sym, refl, ap, subst, inl, inr, ⊎_elim, arith, eq-eqb, eqb-true}
use borrow.Author.Tests.{clash}
use Rattle.std.proofs.lemmas.Bool.{and_parts}
use lib.ListN.{length-map}
use Rattle.mesh.specs.Lists.{Mem}
use Rattle.mesh.specs.Triangles.{Tri, tri}
use Rattle.mesh.specs.Sides.{Side, side}
use Rattle.mesh.specs.Rings.{at_first, at_second, at_third, Link, here, there}
use Rattle.mesh.specs.Closed.{Closed}
use Rattle.forest.specs.Marks.{Marked, is_marked}
use Rattle.forest.specs.Loops.{flipped, read_as, apex, found, run}
use Rattle.mesh.proofs.Walks.{Sharp}
use Rattle.mesh.proofs.Links.{Turned, turned, link_turn, link_side, side_link}
use Rattle.forest.proofs.Marking.{Unmarked, true_marks, false_marks, unmarked_dec, marked_of, marked_back}
use Rattle.forest.proofs.Rings.{FullRing, closed_rings, link_flipped, flipped_link, ring_back}
use Rattle.forest.proofs.Sectors.{Sector, one, more, On, sector_same, sector_before, on_before, next_ending, ending_walk, Ending, steps, corners, corners_on, on_corners, sector_short}

pub link_head : {a b c : ℕ} {ts : List Tri} {x y z : ℕ} → Link (tri a b c ∷ ts) x y z → Turned a b c x y z ⊎ Link ts x y z
link_head (here c) = inl (turned c)
link_head (there l) = inr l

-- a test that found its corner, or the rest of the list
pick : (ts : List Tri) (b : Bool) (x y c r : ℕ) → (b ≡ true → Link ts x y c) → Link ts x y r → Link ts x y (cond b c r)
pick ts true x y c r f k = f refl
pick ts false x y c r f k = k

pick_true : (ts : List Tri) (b : Bool) (x y c r : ℕ) → b ≡ true → Link ts x y c → Link ts x y (cond b c r)
pick_true ts true x y c r e k = k
pick_true ts false x y c r e k = absurd (clash e)

both_eq : (a x b y : ℕ) → x ≡ a → y ≡ b → (eqb a x && eqb b y) ≡ true
both_eq a x b y e i = rw (eq-eqb a x (sym e), eq-eqb b y (sym i))

-- the apex, where there is one: proved by the first triangle that has the side
pub apex_link : (ts : List Tri) (x y z : ℕ) → Link ts x y z → Link ts x y (apex ts x y)
apex_link [] x y z l = elim l [ ]
apex_link (tri a b c ∷ ts) x y z l = go l (λ z k. apex_link ts x y z k)
  where
    first : (eqb a x && eqb b y) ≡ true → Link (tri a b c ∷ ts) x y c
    first e = let h = and_parts (eqb a x) (eqb b y) e in rw (← eqb-true a x h.0, ← eqb-true b y h.1) (here at_first)

    second : (eqb b x && eqb c y) ≡ true → Link (tri a b c ∷ ts) x y a
    second e = let h = and_parts (eqb b x) (eqb c y) e in rw (← eqb-true b x h.0, ← eqb-true c y h.1) (here at_second)

    third : (eqb c x && eqb a y) ≡ true → Link (tri a b c ∷ ts) x y b
    third e = let h = and_parts (eqb c x) (eqb a y) e in rw (← eqb-true c x h.0, ← eqb-true a y h.1) (here at_third)

    t₁ : Bool
    t₁ = eqb a x && eqb b y

    t₂ : Bool
    t₂ = eqb b x && eqb c y

    t₃ : Bool
    t₃ = eqb c x && eqb a y

    r : ℕ
    r = apex ts x y

    all : List Tri
    all = tri a b c ∷ ts

    by_head : Turned a b c x y z → Link all x y (cond t₁ c (cond t₂ a (cond t₃ b r)))
    by_head (inl h) = let e = both_eq a x b y h.0 h.1 in pick_true all t₁ x y c _ e (first e)
    by_head (inr (inl h)) = let e = both_eq b x c y h.0 h.1 in pick all t₁ x y c _ first (pick_true all t₂ x y a _ e (second e))
    by_head (inr (inr h)) = let e = both_eq c x a y h.0 h.1 in pick all t₁ x y c _ first (pick all t₂ x y a _ second (pick_true all t₃ x y b _ e (third e)))

    split : Link all x y z → Turned a b c x y z ⊎ Link ts x y z
    split l = link_head l

    go : Link all x y z → ((z : ℕ) → Link ts x y z → Link ts x y r) → Link all x y (cond t₁ c (cond t₂ a (cond t₃ b r)))
    go l f = ⊎_elim by_head (λ k. pick all t₁ x y c _ first (pick all t₂ x y a _ second (pick all t₃ x y b r third (there (f z k))))) (split l)

pub record Good (V : ℕ) (us : List Tri) : Type 0 where
  pub sharp : (v : ℕ) → Sharp (Link us v)
  pub into : (v x x' t : ℕ) → Link us v x t → Link us v x' t → x ≡ x'
  pub ring : (v : ℕ) → v < V → FullRing (Link us v)
  pub proper : (v x y : ℕ) → Link us v x y → v ≡ x → ⊥
  pub small : (v x y : ℕ) → Link us v x y → v < V
  pub both : (u v z : ℕ) → Link us u v z → (y : ℕ) × Link us v u y

pub good_closed : (V : ℕ) (ts : List Tri) → Closed V ts → Good V ts
good_closed V ts c = record {
  sharp = sharp;
  into = λ v x x' t l l'. sharp t v x x' (link_turn (link_turn l)) (link_turn (link_turn l'));
  ring = λ v h. (closed_rings V ts c v).0 h;
  proper = λ v x y l. (c.fits v x y l).1;
  small = λ v x y l. (c.fits v x y l).0;
  both = λ u v z l. side_link ts (c.both_ways (side u v) (link_side l));
}
  where
    sharp : (v : ℕ) → Sharp (Link ts v)
    sharp v = (closed_rings V ts c v).1

pub good_flipped : (V : ℕ) (ts : List Tri) → Good V ts → Good V (map flipped ts)
good_flipped V ts g = record {
  sharp = λ v p q r l k. g.into v q r p (flipped_link ts l) (flipped_link ts k);
  into = λ v x x' t l k. g.sharp v t x x' (flipped_link ts l) (flipped_link ts k);
  ring = λ v h. ring_back (λ p q l. link_flipped l) (λ p q l. flipped_link ts l) (g.ring v h);
  proper = λ v x y l e. g.proper x v y (link_turn (link_turn (flipped_link ts l))) (sym e);
  small = λ v x y l. g.small v y x (flipped_link ts l);
  both = λ u v z l. let k = g.both v u z (link_turn (link_turn (flipped_link ts l))) in (k.0, link_flipped (link_turn k.1));
}

pub good_read : (b : Bool) (V : ℕ) (ts : List Tri) → Good V ts → Good V (read_as b ts)
good_read true V ts g = good_flipped V ts g
good_read false V ts g = g

pub read_length : (b : Bool) (us : List Tri) → length (read_as b us) ≡ length us
read_length true us = length-map us flipped
read_length false us = refl

abbrev pub EdgesIn : List Tri → List Side → Type 0
EdgesIn us ms = (v x : ℕ) → Marked ms v x → (y : ℕ) × Link us v x y

pub edges_read : (b : Bool) (V : ℕ) (ts : List Tri) (ms : List Side) → Good V ts → EdgesIn ts ms → EdgesIn (read_as b ts) ms
edges_read true V ts ms g h v x m = let l = h v x m in let k = g.both v x l.0 l.1 in (k.0, link_flipped (link_turn k.1))
edges_read false V ts ms g h v x m = h v x m

-- the links of the one mesh are those of the other, turned round
pub link_read : (b : Bool) (ts : List Tri) (v x y : ℕ) → Link (read_as b ts) v x y → Link (read_as (not b) ts) v y x
link_read true ts v x y l = flipped_link ts l
link_read false ts v x y l = link_flipped l

-- From a marked side round its end: the first marked side that leaves it is found, and the sector on the way is the run.
pub record Turning (n : ℕ) (us : List Tri) (ms : List Side) (u v : ℕ) : Type 0 where
  pub w : ℕ
  pub y : ℕ
  pub x : ℕ
  pub goes : found n us ms u v ≡ Some w
  pub sector : Sector us v (Unmarked (Marked ms) v) w y x u
  pub marked : Marked ms v w
  pub runs : (p q : ℕ) → On sector p q → Mem (side p q) (run n us ms u v)
  pub run_on : (p q : ℕ) → Mem (side p q) (run n us ms u v) → On sector p q

module _ (V : ℕ) (us : List Tri) (ms : List Side) (g : Good V us) (edges_there : EdgesIn us ms) where
  apex_is : (v x t : ℕ) → Link us v x t → apex us t v ≡ x
  apex_is v x t l = g.sharp t v (apex us t v) x (apex_link us t v x (link_turn (link_turn l))) (link_turn (link_turn l))

  -- a sector from a marked edge is what the walk finds and passes, if it is long enough
  goes_round : (v : ℕ) {w y x t : ℕ} (k : Sector us v (Unmarked (Marked ms) v) w y x t) → Marked ms v w → (n : ℕ) → steps us v (Unmarked (Marked ms) v) k ≤ n
      → (found n us ms t v ≡ Some w) × (run n us ms t v ≡ corners us v (Unmarked (Marked ms) v) k)
  goes_round v (one l) m zero h = absurd (omega arith)
  goes_round v (more k f l) m zero h = absurd (omega arith)
  goes_round v (one {x} {t} l) m (suc n) h = go (apex us t v) (apex_is v x t l)
    where
      go : (z : ℕ) → z ≡ x → (cond (is_marked ms v z) (Some z) (found n us ms z v) ≡ Some x) × (side z t ∷ cond (is_marked ms v z) [] (run n us ms z v) ≡ side x t ∷ [])
      go z e = rw (e, true_marks ms v x m) (refl, refl)
  goes_round v (more {w = w} {x = x} {t = t} k f l) m (suc n) h = go (apex us t v) (apex_is v x t l) (goes_round v k m n (omega arith))
    where
      cs : List Side
      cs = corners us v (Unmarked (Marked ms) v) k

      go : (z : ℕ) → z ≡ x → (found n us ms x v ≡ Some w) × (run n us ms x v ≡ cs)
          → (cond (is_marked ms v z) (Some z) (found n us ms z v) ≡ Some w) × (side z t ∷ cond (is_marked ms v z) [] (run n us ms z v) ≡ side x t ∷ cs)
      go z e r = rw (e, false_marks ms v x f) (r.0, ap (λ c. side x t ∷ c) r.1)

  turning_by : (n : ℕ) → length us ≤ n → (u v : ℕ) {w y x : ℕ} (k : Sector us v (Unmarked (Marked ms) v) w y x u) → (Unmarked (Marked ms) v w → ⊥) → Turning n us ms u v
  turning_by n long u v {w} {y} {x} k f = record {
    w = w;
    y = y;
    x = x;
    goes = r.0;
    sector = k;
    marked = marked_of ms v w f;
    runs = λ p q o. subst (λ (cs : List Side). Mem (side p q) cs) (sym r.1) (on_corners us v (Unmarked (Marked ms) v) k p q o);
    run_on = λ p q i. corners_on us v (Unmarked (Marked ms) v) k p q (subst (λ (cs : List Side). Mem (side p q) cs) r.1 i);
  }
    where
      r : (found n us ms u v ≡ Some w) × (run n us ms u v ≡ corners us v (Unmarked (Marked ms) v) k)
      r = let short = sector_short us v (Unmarked (Marked ms) v) (g.into v) g.proper k f in goes_round v k (marked_of ms v w f) n (omega arith)

  -- a marked side has a next
  pub turning : (n : ℕ) → length us ≤ n → (u v : ℕ) → Marked ms u v → Turning n us ms u v
  turning n long u v m =
      let l = edges_there u v m in
      let k = edges_there v u (marked_back ms u v m) in
      let x = l.0 in
      let here = link_turn l.1 in
      let Free = Unmarked (Marked ms) v in
      let a = ending_walk us v Free (unmarked_dec ms v) u (u, k.0, λ f. f (marked_back ms u v m), one k.1) ((g.ring v (g.small v u k.0 k.1)).round u k.0 x u k.1 here) in
      ended x (next_ending us v Free (unmarked_dec ms v) a.0 (unmarked_dec ms v x) a.1 here)
    where
      ended : (x : ℕ) → Ending us v (Unmarked (Marked ms) v) x u → Turning n us ms u v
      ended x b = turning_by n long u v b.3 b.2

module _ (us vs : List Tri) (v : ℕ) (Free : ℕ → Type 0) (h : (x y : ℕ) → Link us v x y → Link vs v y x) where
  abbrev pub sector_mirror : {w y x t : ℕ} → Sector us v Free w y x t → Sector vs v Free t x y w
  sector_mirror (one {x} {t} l) = one (h x t l)
  sector_mirror (more {x = x} {t = t} k e l) = sector_before vs v Free (h x t l) e (sector_mirror k)

  pub on_mirror : {w y x t : ℕ} (k : Sector us v Free w y x t) (p q : ℕ) → On k p q → On (sector_mirror k) q p
  on_mirror (one l) p q o = (o.1, o.0)
  on_mirror (more {x = x} {t = t} k e l) p q (inl o) = on_before vs v Free (h x t l) e (sector_mirror k) q p (inl (on_mirror k p q o))
  on_mirror (more {x = x} {t = t} k e l) p q (inr o) = on_before vs v Free (h x t l) e (sector_mirror k) q p (inr (o.1, o.0))

-- the mirrored turn goes back over the same corners
pub turns_back : (V : ℕ) (us vs : List Tri) (ms : List Side) → Good V vs → ((v x y : ℕ) → Link us v x y → Link vs v y x) → (u v : ℕ) → Marked ms v u
    → (n : ℕ) (a : Turning n us ms u v) (b : Turning n vs ms a.w v) → (u ≡ b.w) × ((p q : ℕ) → On a.sector p q → On b.sector q p)
turns_back V us vs ms g h u v m n a b =
    let k = sector_mirror us vs v (Unmarked (Marked ms) v) (h v) a.sector in
    let s = sector_same vs v (Unmarked (Marked ms) v) (g.into v) refl k b.sector (λ f. f m) (λ f. f b.marked) in
    (s.0, λ p q o. s.1 q p (on_mirror us vs v (Unmarked (Marked ms) v) (h v) a.sector p q o))
