-- The polygons by the numbers of their positions, in order.
use Rattle.std.proofs.Common.{◌≡◌, ℕ, suc, ◌-◌, ◌<◌, ◌≤◌, Bool, true, false, cond, eqb, List, [], ◌∷◌, ◌++◌, map, get_or, take, drop, refl, ap, ◌∙◌, arith}
use borrow.Author.Tests.{eqb-false}
use Rattle.std.proofs.lemmas.List.{get_or-map}
use Rattle.mesh.specs.Lists.{Apart, Mem, later, now}
use Rattle.mesh.specs.Triangles.{Tri, tri}
use Rattle.mesh.specs.Sides.{Side, side}
use Rattle.mesh.specs.Rings.{Link, at_first, at_second, at_third, here, there}
use Rattle.forest.specs.Trees.{start}
use Rattle.forest.specs.Roots.{mirrored}
use Rattle.forest.specs.Loops.{around, loop_of, positions, read_as}
use Rattle.forest.specs.Numbering.{has, numbers, renamed}
use Rattle.forest.specs.Polygons.{Code, closes, cut, number_at, open_part, polygon, polygons}
use Rattle.forest.proofs.Forests.{Coded, Ready, named_polygon, named_polygons, tree_length}
use Rattle.forest.proofs.Turning.{EdgesIn, Good}
use Rattle.forest.proofs.Folding.{drop_loop, take_loop}
use Rattle.forest.proofs.Numbers.{entries, entry, number_is, number_of}
use Rattle.forest.proofs.Polygons.{part_codes}
use Rattle.forest.proofs.Fans.{part_within}

-- triangles renamed alike at each of their corners
pub renamed_same : (f g : ℕ → ℕ → ℕ → ℕ) (us : List Tri) → ((v x y : ℕ) → Link us v x y → f v x y ≡ g v x y) → map (renamed f) us ≡ map (renamed g) us
renamed_same f g [] h = refl
renamed_same f g (tri x y z ∷ us) h =
    let a = h x y z (here at_first) in
    let b = h y z x (here at_second) in
    let c = h z x y (here at_third) in
    let r = renamed_same f g us (λ v x y l. h v x y (there l)) in
    cc

wrapped : (n j : ℕ) → 0 < n → j ≤ n → cond (eqb j n) 0 j < n
wrapped n j h k = go (eqb j n) refl
  where
    go : (b : Bool) → eqb j n ≡ b → cond b 0 j < n
    go true e = h
    go false e = let i = eqb-false j n e in omega arith

module _ (V : ℕ) (ts : List Tri) (ms : List Side) (g : Good V ts) (edges : EdgesIn ts ms) (number : Side → ℕ) where
  one_polygon : (k : ℕ) → Ready ts ms k → (cs : List Code) → closes 1 (around ms k - 2) cs ≡ true
      → polygon (mirrored ts ms k) (around ms k) (map number (loop_of ts ms k)) (take (around ms k - 2) cs) ≡ named_polygon number ts ms k (take (around ms k - 2) cs)
  one_polygon k ready cs coded =
      ap (read_as (mirrored ts ms k)) (renamed_same (λ j x y. number_at (around ms k) (map number (loop_of ts ms k)) j) (λ j x y. number (get_or (loop_of ts ms k) (cond (eqb j (around ms k)) 0 j) (side 0 0))) us corner)
    where
      us : List Tri
      us = cut (take (around ms k - 2) cs) (open_part 1 (around ms k) ∷ [])

      corner : (v x y : ℕ) → Link us v x y → number_at (around ms k) (map number (loop_of ts ms k)) v ≡ number (get_or (loop_of ts ms k) (cond (eqb v (around ms k)) 0 v) (side 0 0))
      corner v x y l =
          let p = part_codes (around ms k) cs (omega (arith, ready.0)) coded in
          let w = part_within p l in
          let i = wrapped (around ms k) v (omega (arith, ready.0)) w.1 in
          let e = tree_length V ts ms g edges k ready in
          get_or-map number (loop_of ts ms k) (cond (eqb v (around ms k)) 0 v) (side 0 0) 0 (omega arith)

  pub polygons_named : (ks : List ℕ) → ((k : ℕ) → Mem k ks → Ready ts ms k) → (cs : List Code) → Coded ms ks cs → polygons ts ms ks (map number (positions ts ms ks)) cs ≡ named_polygons number ts ms ks cs
  polygons_named [] ready cs c = refl
  polygons_named (k ∷ ks) ready cs c =
      let a = take_loop V ts ms g edges number k (ready k now) (positions ts ms ks) in
      let b = drop_loop V ts ms g edges number k (ready k now) (positions ts ms ks) in
      ap (λ ns. polygon (mirrored ts ms k) (around ms k) ns (take (around ms k - 2) cs) ++ polygons ts ms ks (drop (around ms k) (map number (positions ts ms (k ∷ ks)))) (drop (around ms k - 2) cs)) a
      ∙ (ap (λ us. us ++ polygons ts ms ks (drop (around ms k) (map number (positions ts ms (k ∷ ks)))) (drop (around ms k - 2) cs)) (one_polygon k (ready k now) cs c.0)
      ∙ (ap (λ ns. named_polygon number ts ms k (take (around ms k - 2) cs) ++ polygons ts ms ks ns (drop (around ms k - 2) cs)) b
      ∙ ap (λ us. named_polygon number ts ms k (take (around ms k - 2) cs) ++ us) (polygons_named ks (λ i m. ready i (later m)) (drop (around ms k - 2) cs) c.1)))

-- the numbers of the positions are those of their sides
numbers_by : (f : Side → ℕ) (seen : List ℕ) (n : ℕ) (ss : List Side) → ((s : Side) (m : ℕ) → Mem (entry s m) (entries seen n ss) → f s ≡ m) → map f ss ≡ numbers seen n ss
numbers_by f seen n [] h = refl
numbers_by f seen n (s ∷ ss) h =
    let a = h s (cond (has (start s) seen) n (start s)) now in
    let b = numbers_by f (start s ∷ seen) (cond (has (start s) seen) (suc n) n) ss (λ t m k. h t m (later k)) in
    cc

pub numbers_named : (V : ℕ) {ss : List Side} → Apart ss → map (number_of (entries [] V ss)) ss ≡ numbers [] V ss
numbers_named V {ss} a = numbers_by (number_of (entries [] V ss)) [] V ss (λ s m k. number_is [] V a k)
