-- The polygons of all trees have no side twice.
use Rattle.std.proofs.Common.{◌≡◌, ℕ, ◌-◌, ◌≤◌, true, cond, eqb, List, [], ◌∷◌, get_or, take, drop, sym, ap, ◌∙◌, subst, arith}
use Rattle.mesh.specs.Lists.{Apart, Mem, later, no_one, now, one_more}
use Rattle.mesh.specs.Triangles.{Tri}
use Rattle.mesh.specs.Sides.{Side, side, sides}
use Rattle.forest.specs.Trees.{label, start}
use Rattle.forest.specs.Roots.{mirrored}
use Rattle.forest.specs.Loops.{around, hop, loop_of}
use Rattle.forest.specs.Polygons.{Code, closes, cut, open_part}
use Rattle.forest.specs.Theorems.{Part}
use Rattle.mesh.proofs.Members.{apart_append, mem_eq}
use Rattle.mesh.proofs.Links.{side_link}
use Rattle.forest.proofs.Forests.{Coded, Ready, named_polygon, named_polygons, polygons_only, tree_apart, tree_length, tree_mem, tree_nexts, tree_only, tree_round}
use Rattle.forest.proofs.Turning.{EdgesIn, Good}
use Rattle.forest.proofs.Labels.{Ours}
use Rattle.forest.proofs.Clashes.{apart_map, part_apart, part_ends, read_apart, sent, sides_append, sides_numbered}
use Rattle.forest.proofs.Renaming.{numbered}
use Rattle.forest.proofs.Polygons.{part_codes, spots_inj}

module _ (V : ℕ) (ts : List Tri) (ms : List Side) (g : Good V ts) (edges : EdgesIn ts ms) (number : Side → ℕ) (once : (s t : Side) → Ours ms s → Ours ms t → number s ≡ number t → s ≡ t) where
  polygon_once : (k : ℕ) → Ready ts ms k → (cs : List Code) → closes 1 (around ms k - 2) cs ≡ true → Apart (sides (named_polygon number ts ms k (take (around ms k - 2) cs)))
  polygon_once k ready cs coded =
      read_apart (mirrored ts ms k) (numbered num us) (subst (λ (ss : List Side). Apart ss) (sym (sides_numbered num us)) (apart_map (sent num) (part_apart part) inj))
    where
      us : List Tri
      us = cut (take (around ms k - 2) cs) (open_part 1 (around ms k) ∷ [])

      num : ℕ → ℕ
      num j = number (get_or (loop_of ts ms k) (cond (eqb j (around ms k)) 0 j) (side 0 0))

      two : 2 ≤ around ms k
      two = omega (arith, ready.0)

      part : Part 1 (around ms k) us
      part = part_codes (around ms k) cs two coded

      here_once : (s t : Side) → Mem s (loop_of ts ms k) → Mem t (loop_of ts ms k) → number s ≡ number t → s ≡ t
      here_once s t p q e = once s t (tree_mem V ts ms g edges k ready s p).0 (tree_mem V ts ms g edges k ready t q).0 e

      apart_at : (i j : ℕ) → 1 ≤ i → i ≤ around ms k → 1 ≤ j → j ≤ around ms k → num i ≡ num j → i ≡ j
      apart_at =
          spots_inj (hop ts ms (mirrored ts ms k)) (loop_of ts ms k) (side 0 0) (around ms k) (tree_length V ts ms g edges k ready) two (tree_nexts V ts ms g edges k ready) (tree_round V ts ms g edges k ready)
          (tree_apart V ts ms g edges k ready) number here_once us part

      inj : (s t : Side) → Mem s (sides us) → Mem t (sides us) → sent num s ≡ sent num t → s ≡ t
      inj (side x y) (side z w) m q e =
          let a = part_ends part x y m in let b = part_ends part z w q in
          let i : x ≡ z = apart_at x z a.0 a.1 b.0 b.1 (cc) in
          let j : y ≡ w = apart_at y w a.2 a.3 b.2 b.3 (cc) in
          cc

  pub polygons_once : {ks : List ℕ} → Apart ks → ((k : ℕ) → Mem k ks → Ready ts ms k) → (cs : List Code) → Coded ms ks cs → Apart (sides (named_polygons number ts ms ks cs))
  polygons_once no_one ready cs c = no_one
  polygons_once (one_more {x = k} {xs = ks} n a) ready cs c =
      subst (λ (ss : List Side). Apart ss) (sym (sides_append mine others)) (apart_append (polygon_once k (ready k now) cs c.0) (polygons_once a (λ i q. ready i (later q)) (drop (around ms k - 2) cs) c.1) both)
    where
      mine : List Tri
      mine = named_polygon number ts ms k (take (around ms k - 2) cs)

      others : List Tri
      others = named_polygons number ts ms ks (drop (around ms k - 2) cs)

      both : (z : Side) → Mem z (sides mine) → Mem z (sides others) → ⊥
      both (side x y) m q =
          let l = side_link mine m in
          let r = side_link others q in
          let a = tree_only V ts ms g edges number once k (ready k now) cs c.0 x y l.0 l.1 in
          let b = polygons_only V ts ms g edges number once ks (λ i q. ready i (later q)) (drop (around ms k - 2) cs) c.1 x y r.0 r.1 in
          let e = once a.0 b.2 a.1.0 b.3.0 (sym a.2 ∙ b.4) in
          n (mem_eq (sym a.1.1 ∙ (ap (λ z. label ms (start z)) e ∙ b.3.1)) b.1)
