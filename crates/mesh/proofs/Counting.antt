-- A closed mesh has three edges for two triangles.
use Rattle.std.proofs.Common.{◌≡◌, ℕ, ◌*◌, ◌≤◌, Bool, true, not, ltb, List, [], ◌∷◌, length, filter, refl, ap, inl, ⊎_elim, arith, ltb-false, ltb-true, le-ltb, lt-ltb}
use borrow.Author.Tests.{not-true}
use Rattle.std.proofs.lemmas.List.Filters.{length-filter_both}
use Rattle.mesh.specs.Lists.{Mem, Apart}
use Rattle.mesh.specs.Triangles.{Tri, tri}
use Rattle.mesh.specs.Sides.{Side, side, back, sides}
use Rattle.mesh.specs.Edges.{up, edges, EdgesCounted}
use Rattle.mesh.specs.Closed.{Closed}
use Rattle.mesh.proofs.Members.{kept_mem, mem_kept, kept_apart, apart_le, same_length}
use Rattle.mesh.proofs.Links.{side_link}
use Rattle.mesh.proofs.Rise.{ascending_apart, edges_ascend, edge_side, side_edge}

pub back_inj : (s t : Side) → back s ≡ back t → s ≡ t
back_inj (side x y) (side z w) e = cc

abbrev down : Side → Bool
down s = not (up s)

length_sides : (ts : List Tri) → length (sides ts) ≡ 3 * length ts
length_sides [] = refl
length_sides (tri x y z ∷ ts) = let h = length_sides ts in omega arith

up_back : (s : Side) → up s ≡ true → down (back s) ≡ true
up_back (side x y) e = let h = ltb-true x y e in let k : x ≤ y = omega arith in ap not (le-ltb y x k)

abbrev pub Proper : Side → Type 0
Proper (side x y) = x ≡ y → ⊥

down_back : (s : Side) → Proper s → down s ≡ true → up (back s) ≡ true
down_back (side x y) p e = let h = ltb-false x y (not-true (ltb x y) e) in lt-ltb y x (omega arith)

-- sides that differ from one another, are proper and lie both ways
pub record Sided (ts : List Tri) : Type 0 where
  pub proper : (s : Side) → Mem s (sides ts) → Proper s
  pub once : Apart (sides ts)
  pub both_ways : (s : Side) → Mem s (sides ts) → Mem (back s) (sides ts)

pub closed_sided : (V : ℕ) (ts : List Tri) → Closed V ts → Sided ts
closed_sided V ts c = record { proper = proper; once = c.once; both_ways = c.both_ways }
  where
    proper : (s : Side) → Mem s (sides ts) → Proper s
    proper (side x y) m = let k = side_link ts m in (c.fits x y k.0 k.1).1

ups_half : (ts : List Tri) → Sided ts → 2 * length (filter up (sides ts)) ≡ 3 * length ts
ups_half ts c =
    let S = sides ts in
    let a = apart_le back back_inj (filter down S) (kept_apart up c.once) (λ z m. let k = kept_mem up S m in mem_kept down (c.both_ways z k.0) (up_back z k.1)) in
    let b = apart_le back back_inj (filter up S) (kept_apart down c.once) (λ z m. let k = kept_mem down S m in mem_kept up (c.both_ways z k.0) (down_back z (c.proper z k.0) k.1)) in
    let e = length-filter_both up down (λ s. refl) S in
    let n = length_sides ts in omega arith

-- where sides lie both ways, the edges are the sides that go up
pub edge_up : (ts : List Tri) → Sided ts → (s : Side) → Mem s (edges ts) → Mem s (filter up (sides ts))
edge_up ts c (side i j) m = let k = edge_side ts i j m in mem_kept up (⊎_elim (λ h. h) (λ h. c.both_ways (side j i) h) k.1) (lt-ltb i j k.0)

pub up_edge : (ts : List Tri) (s : Side) → Mem s (filter up (sides ts)) → Mem s (edges ts)
up_edge ts (side i j) m = let k = kept_mem up (sides ts) m in side_edge ts i j (ltb-true i j k.1) (inl k.0)

pub edges_half : (ts : List Tri) → Sided ts → 2 * length (edges ts) ≡ 3 * length ts
edges_half ts c =
    let e = same_length (ascending_apart (edges ts) (edges_ascend ts)) (kept_apart up c.once) (edge_up ts c) (up_edge ts) in
    let h = ups_half ts c in omega arith

pub edges_counted : EdgesCounted
edges_counted V ts c = edges_half ts (closed_sided V ts c)
