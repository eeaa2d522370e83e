-- Rings that are walked round, in a mesh as it is and turned round.
use Rattle.std.proofs.Common.{◌≡◌, ℕ, ◌<◌, ◌≤◌, List, [], ◌∷◌, map, length, refl, ap}
use Rattle.mesh.specs.Lists.{Mem, Apart}
use Rattle.mesh.specs.Triangles.{Tri, tri}
use Rattle.mesh.specs.Sides.{Side, side, back, sides}
use Rattle.mesh.specs.Rings.{Corner, at_first, at_second, at_third, Link, here, there, Walk, stop, step}
use Rattle.mesh.specs.Closed.{Closed}
use Rattle.forest.specs.Loops.{flipped}
use Rattle.mesh.proofs.Walks.{Rel, Sharp, walk_append}
use Rattle.mesh.proofs.Links.{link_turn, link_side, side_link, sharp_once}
use Rattle.forest.proofs.Fans.{Fan}

-- there is a step, and from the end of any the steps reach the start of every other
pub record FullRing (R : ℕ → ℕ → Type 0) : Type 0 where
  pub some : (p : ℕ) × (q : ℕ) × R p q
  pub round : (p q p' q' : ℕ) → R p q → R p' q' → Walk R q p'

pub ring_from_fan : {R : Rel} {x : ℕ} (p q : ℕ) → R p q → Fan R x x → FullRing R
ring_from_fan p q l f = record {
  some = (p, q, l);
  round = λ p q p' q' r r'. walk_append (f.behind p q r) (f.before p' q' r');
}

-- a step that comes to p
last_step : {R : Rel} (x : ℕ) {q p : ℕ} → R x q → Walk R q p → (w : ℕ) × R w p
last_step x r stop = (x, r)
last_step x r (step {x = y} s w) = last_step y s w

pub closed_rings : (V : ℕ) (ts : List Tri) → Closed V ts → (v : ℕ) → (v < V → FullRing (Link ts v)) × Sharp (Link ts v)
closed_rings V ts c v = (λ h. record { some = (c.ring v h).some; round = λ p q p' q' l l'. let k = next p q l in (c.ring v h).all q k.0 p' q' k.1 l' }, λ p q r l k. sharp_once ts c.once l k)
  where
    next : (p q : ℕ) → Link ts v p q → (r : ℕ) × Link ts v q r
    next p q l = side_link ts (c.both_ways (side q v) (link_side (link_turn (link_turn l))))

-- where every vertex has a ring, the reverse of every side is there
pub rings_closed : (V : ℕ) (ts : List Tri) → 2 ≤ length ts → ((v x y : ℕ) → Link ts v x y → (v < V) × (v ≡ x → ⊥)) → Apart (sides ts) → ((v : ℕ) → v < V → FullRing (Link ts v)) → Closed V ts
rings_closed V ts two fits once rings = record {
  two = two;
  fits = fits;
  once = once;
  both_ways = λ s m. go s m;
  ring = λ v h. record { some = (rings v h).some; all = λ p q p' q' l l'. step l ((rings v h).round p q p' q' l l') };
}
  where
    go : (s : Side) → Mem s (sides ts) → Mem (back s) (sides ts)
    go (side v x) m =
        let l = side_link ts m in
        let k = last_step x l.1 ((rings v (fits v x l.0 l.1).0).round x l.0 x l.0 l.1 l.1) in
        link_side (link_turn (link_turn k.1))

-- the mesh turned round
corner_flipped : {t : Tri} {v x y : ℕ} → Corner t v x y → Corner (flipped t) v y x
corner_flipped at_first = at_first
corner_flipped at_second = at_third
corner_flipped at_third = at_second

pub link_flipped : {ts : List Tri} {v x y : ℕ} → Link ts v x y → Link (map flipped ts) v y x
link_flipped (here c) = here (corner_flipped c)
link_flipped (there l) = there (link_flipped l)

flip_flip : (ts : List Tri) → map flipped (map flipped ts) ≡ ts
flip_flip [] = refl
flip_flip (tri x y z ∷ ts) = ap (λ r. tri x y z ∷ r) (flip_flip ts)

pub flipped_link : (ts : List Tri) {v x y : ℕ} → Link (map flipped ts) v x y → Link ts v y x
flipped_link ts l = rw (flip_flip ts) at (link_flipped l)

pub walk_back : {R S : Rel} {x y : ℕ} → ((p q : ℕ) → R p q → S q p) → Walk R x y → Walk S y x
walk_back f stop = stop
walk_back f (step {x} {y} r w) = walk_append (walk_back f w) (step (f x y r) stop)

pub ring_back : {R S : Rel} → ((p q : ℕ) → R p q → S q p) → ((p q : ℕ) → S p q → R q p) → FullRing R → FullRing S
ring_back f g a = record {
  some = (_, _, f a.some.0 a.some.1 a.some.2);
  round = λ p q p' q' s s'. walk_back f (a.round q' p' q p (g p' q' s') (g p q s));
}
