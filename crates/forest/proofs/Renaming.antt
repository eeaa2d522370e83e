-- Rings where the corners have new numbers.
use Rattle.std.proofs.Common.{◌≡◌, ℕ, ◌⊎◌, List, [], ◌∷◌, ◌++◌, map, sym, refl, inl, inr, ⊎_elim}
use Rattle.mesh.specs.Triangles.{Tri, tri}
use Rattle.mesh.specs.Rings.{Corner, at_first, at_second, at_third, Link, here, there, Walk, stop, step}
use Rattle.forest.specs.Numbering.{renamed}
use Rattle.mesh.proofs.Walks.{Rel, walk_append, walk_start, walk_end}
use Rattle.forest.proofs.Fans.{Fan, Sub, walk_sub, fan_none, fan_through, link_left, link_right, link_cases}
use Rattle.forest.proofs.Rings.{FullRing, ring_from_fan}
use Rattle.forest.proofs.Sectors.{Sector, one, more, On, on_last, on_link}

module _ (f : ℕ → ℕ → ℕ → ℕ) where
  corner_renamed : {t : Tri} {v x y : ℕ} → Corner t v x y → Corner (renamed f t) (f v x y) (f x y v) (f y v x)
  corner_renamed at_first = at_first
  corner_renamed at_second = at_second
  corner_renamed at_third = at_third

  pub link_renamed : {ts : List Tri} {v x y : ℕ} → Link ts v x y → Link (map (renamed f) ts) (f v x y) (f x y v) (f y v x)
  link_renamed (here c) = here (corner_renamed c)
  link_renamed (there l) = there (link_renamed l)

  abbrev Old : List Tri → ℕ → ℕ → ℕ → Type 0
  Old ts u p' q' = (v : ℕ) × (p : ℕ) × (q : ℕ) × Link ts v p q × (u ≡ f v p q) × (p' ≡ f p q v) × (q' ≡ f q v p)

  corner_old : (t : Tri) {u p' q' : ℕ} → Corner (renamed f t) u p' q' → (v : ℕ) × (p : ℕ) × (q : ℕ) × Corner t v p q × (u ≡ f v p q) × (p' ≡ f p q v) × (q' ≡ f q v p)
  corner_old (tri x y z) at_first = (x, y, z, at_first, refl, refl, refl)
  corner_old (tri x y z) at_second = (y, z, x, at_second, refl, refl, refl)
  corner_old (tri x y z) at_third = (z, x, y, at_third, refl, refl, refl)

  pub link_old : (ts : List Tri) {u p' q' : ℕ} → Link (map (renamed f) ts) u p' q' → Old ts u p' q'
  link_old [] l = elim l [ ]
  link_old (t ∷ ts) (here c) = let k = corner_old t c in (k.0, k.1, k.2, here k.3, k.4, k.5, k.6)
  link_old (t ∷ ts) (there l) = let k = link_old ts l in (k.0, k.1, k.2, there k.3, k.4, k.5, k.6)

walk_image : {R S : Rel} {x y : ℕ} (h : ℕ → ℕ) → ((p q : ℕ) → R p q → S (h p) (h q)) → Walk R x y → Walk S (h x) (h y)
walk_image h f stop = stop
walk_image h f (step {x} {y} r w) = step (f x y r) (walk_image h f w)

pub fan_image : {R S : Rel} {x y : ℕ} (h : ℕ → ℕ) → ((p q : ℕ) → R p q → S (h p) (h q))
    → ((p' q' : ℕ) → S p' q' → (p : ℕ) × (q : ℕ) × R p q × (p' ≡ h p) × (q' ≡ h q)) → Fan R x y → Fan S (h x) (h y)
fan_image h f g a = record {
  way = walk_image h f a.way;
  before = λ p' q' s. let k = g p' q' s in walk_end (sym k.3) (walk_image h f (a.before k.0 k.1 k.2));
  behind = λ p' q' s. let k = g p' q' s in walk_start k.4 (walk_image h f (a.behind k.0 k.1 k.2));
}

-- two fans in a circle
pub fan_circle : {R S U : Rel} {x y : ℕ} → Fan R x y → Fan S y x → Sub R U → Sub S U → ((p q : ℕ) → U p q → R p q ⊎ S p q) → Fan U x x
fan_circle {R} {S} {U} {x} {y} f g r s all = record {
  way = walk_append (walk_sub r f.way) (walk_sub s g.way);
  before = λ p q u. pre p q (all p q u);
  behind = λ p q u. post p q (all p q u);
}
  where
    pre : (p q : ℕ) → R p q ⊎ S p q → Walk U x p
    pre p q (inl h) = walk_sub r (f.before p q h)
    pre p q (inr h) = walk_append (walk_sub r f.way) (walk_sub s (g.before p q h))

    post : (p q : ℕ) → R p q ⊎ S p q → Walk U q x
    post p q (inl h) = walk_append (walk_sub r (f.behind p q h)) (walk_sub s g.way)
    post p q (inr h) = walk_sub s (g.behind p q h)

-- A sector at v, in new numbers
module _ (ts : List Tri) (f : ℕ → ℕ → ℕ → ℕ) (v : ℕ) (Free : ℕ → Type 0)
    (across : (p q r : ℕ) → Link ts v p q → Free q → Link ts v q r → f q v p ≡ f q r v) where
  abbrev Walked : {w y x t : ℕ} → Sector ts v Free w y x t → Rel
  Walked k p' q' = (p : ℕ) × (q : ℕ) × On k p q × (p' ≡ f p q v) × (q' ≡ f q v p)

  pub fan_sector : {w y x t : ℕ} (k : Sector ts v Free w y x t) → Fan (Walked k) (f w y v) (f t v x)
  fan_sector (one {x} {t} l) =
      fan_through fan_none (x, t, (refl, refl), refl, refl) fan_none (λ p q n. absurd n) (λ p q n. absurd n) (λ p q k. one_case p q k.0 k.1 k.2 k.3 k.4)
    where
      one_case : (p' q' p q : ℕ) → (p ≡ x) × (q ≡ t) → p' ≡ f p q v → q' ≡ f q v p → ⊥ ⊎ (⊥ ⊎ ((p' ≡ f x t v) × (q' ≡ f t v x)))
      one_case p' q' p q h a b = inr (inr ((cc), (cc)))
  fan_sector (more {w} {y} {z} {x} {t} k e l) =
      fan_through (fan_sector k) (x, t, inr (refl, refl), across z x t (on_link k z x (on_last k)) e l, refl) fan_none (λ p q k. (k.0, k.1, inl k.2, k.3, k.4)) (λ p q n. absurd n) (λ p q u. go p q u.0 u.1 u.2 u.3 u.4)
    where
      go : (p' q' p q : ℕ) → On k p q ⊎ ((p ≡ x) × (q ≡ t)) → p' ≡ f p q v → q' ≡ f q v p → Walked k p' q' ⊎ (⊥ ⊎ ((p' ≡ f x v z) × (q' ≡ f t v x)))
      go p' q' p q (inl h) a b = inl (p, q, h, a, b)
      go p' q' p q (inr h) a b = let c = across z x t (on_link k z x (on_last k)) e l in inr (inr ((cc), (cc)))

link_cast : (ts : List Tri) {u u' x x' y y' : ℕ} → u ≡ u' → x ≡ x' → y ≡ y' → Link ts u' x' y' → Link ts u x y
link_cast ts a b c l = rw (a, b, c) l

-- at a position: the sector at its old vertex, then the polygon's fan
pub ring_at_position : (ts ps : List Tri) (f : ℕ → ℕ → ℕ → ℕ) (v u : ℕ) (Free : ℕ → Type 0)
    → ((p q r : ℕ) → Link ts v p q → Free q → Link ts v q r → f q v p ≡ f q r v)
    → {w y x t : ℕ} (k : Sector ts v Free w y x t)
    → ((p q : ℕ) → On k p q → f v p q ≡ u)
    → ((v' p q : ℕ) → Link ts v' p q → u ≡ f v' p q → (v' ≡ v) × On k p q)
    → Fan (Link ps u) (f t v x) (f w y v)
    → FullRing (Link (map (renamed f) ts ++ ps) u)
ring_at_position ts ps f v u Free across {w} {y} {x} {t} k named all fan =
    let m = on_last k in
    ring_from_fan (f x t v) (f t v x) (old (f x t v) (f t v x) (x, t, m, refl, refl)) (fan_circle (fan_sector ts f v Free across k) fan old (λ p q l. link_right (map (renamed f) ts) l) split)
  where
    old : (p' q' : ℕ) → Walked ts f v Free across k p' q' → Link (map (renamed f) ts ++ ps) u p' q'
    old p' q' h = link_left ps (link_cast (map (renamed f) ts) (sym (named h.0 h.1 h.2)) h.3 h.4 (link_renamed f (on_link k h.0 h.1 h.2)))

    back : (p' q' : ℕ) → Old f ts u p' q' → Walked ts f v Free across k p' q'
    back p' q' h = let a = all h.0 h.1 h.2 h.3 h.4 in (h.1, h.2, a.1, rw a.0 at h.5, rw a.0 at h.6)

    split : (p' q' : ℕ) → Link (map (renamed f) ts ++ ps) u p' q' → Walked ts f v Free across k p' q' ⊎ Link ps u p' q'
    split p' q' l = ⊎_elim (λ h. inl (back p' q' (link_old f ts h))) (λ h. inr h) (link_cases (map (renamed f) ts) l)

-- at a vertex that no marked edge meets
pub ring_at_vertex : (ts ps : List Tri) (f : ℕ → ℕ → ℕ → ℕ) (v : ℕ)
    → ((p q r : ℕ) → Link ts v p q → Link ts v q r → f q v p ≡ f q r v)
    → ((p q : ℕ) → Link ts v p q → f v p q ≡ v)
    → ((v' p q : ℕ) → Link ts v' p q → v ≡ f v' p q → v' ≡ v)
    → ((p q : ℕ) → Link ps v p q → ⊥)
    → FullRing (Link ts v) → FullRing (Link (map (renamed f) ts ++ ps) v)
ring_at_vertex ts ps f v across named all none g = record {
  some = (_, _, old g.some.0 g.some.1 g.some.2);
  round = λ p q p' q' l l'.
      let a = split p q l in let b = split p' q' l' in
      walk_start a.4 (walk_end (sym b.3) (named_walk a.0 b.1 a.2 (g.round a.0 a.1 b.0 b.1 a.2 b.2) b.2));
}
  where
    old : (p q : ℕ) → Link ts v p q → Link (map (renamed f) ts ++ ps) v (f p q v) (f q v p)
    old p q l = link_left ps (link_cast (map (renamed f) ts) (sym (named p q l)) refl refl (link_renamed f l))

    split : (p' q' : ℕ) → Link (map (renamed f) ts ++ ps) v p' q' → (p : ℕ) × (q : ℕ) × Link ts v p q × (p' ≡ f p q v) × (q' ≡ f q v p)
    split p' q' l = ⊎_elim (λ h. let k = link_old f ts h in let e = all k.0 k.1 k.2 k.3 k.4 in (k.1, k.2, rw e at k.3, rw e at k.5, rw e at k.6)) (λ h. absurd (none p' q' h)) (link_cases (map (renamed f) ts) l)

    named_walk : (p : ℕ) {q p' : ℕ} (q' : ℕ) → Link ts v p q → Walk (Link ts v) q p' → Link ts v p' q' → Walk (Link (map (renamed f) ts ++ ps) v) (f q v p) (f p' q' v)
    named_walk p q' l (stop {x = q}) l' = walk_start (across p q q' l l') stop
    named_walk p q' l (step {x = q} {y = r} s w) l' = walk_start (across p q r l s) (step (old q r s) (named_walk q q' s w l'))

-- the polygon in new numbers
abbrev pub numbered : (ℕ → ℕ) → List Tri → List Tri
numbered n ts = map (renamed (λ v x y. n v)) ts

pub fan_numbered : (n : ℕ → ℕ) (ts : List Tri) (v : ℕ) {x y : ℕ} → ((v' p q : ℕ) → Link ts v' p q → n v ≡ n v' → v' ≡ v) → Fan (Link ts v) x y → Fan (Link (numbered n ts) (n v)) (n x) (n y)
fan_numbered n ts v inj a =
    fan_image n (λ p q l. link_renamed (λ v x y. n v) l)
    (λ p' q' l. let k = link_old (λ v x y. n v) ts l in (k.1, k.2, rw (inj k.0 k.1 k.2 k.3 k.4) at k.3, k.5, k.6)) a
