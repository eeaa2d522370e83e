-- The loops and polygons of all trees.
use Rattle.std.proofs.Common.{◌≡◌, ℕ, suc, ◌+◌, ◌-◌, ◌*◌, ◌<◌, ◌≤◌, true, cond, eqb, ◌⊎◌, List, [], ◌∷◌, ◌++◌, map, length, get_or, take, drop, sym, refl, ap, ◌∙◌, subst, inl, inr, ⊎_elim, arith, length-append}
use lib.ListN.{length-map}
use Rattle.mesh.specs.Lists.{Mem, now, later, Apart, no_one, one_more}
use Rattle.mesh.specs.Triangles.{Tri}
use Rattle.mesh.specs.Sides.{Side, side}
use Rattle.mesh.specs.Edges.{two_way}
use Rattle.mesh.specs.Rings.{Link}
use Rattle.forest.specs.Trees.{label, start, tree_edges}
use Rattle.forest.specs.Roots.{root, mirrored}
use Rattle.forest.specs.Loops.{read_as, loop, loop_of, whole, positions, around, hop}
use Rattle.forest.specs.Numbering.{renamed}
use Rattle.forest.specs.Polygons.{Code, cut, open_part, closes}
use Rattle.forest.specs.Theorems.{Part}
use Rattle.mesh.proofs.Members.{mem_cases, mem_left, mem_right, mem_split, apart_append}
use Rattle.forest.proofs.Fans.{Fan, fan_same, link_left, link_right, link_cases, no_link}
use Rattle.forest.proofs.Hops.{next, next_in, hop_next, hop_inj}
use Rattle.forest.proofs.Marking.{absent_out}
use Rattle.forest.proofs.Labels.{Ours, InTree, tree_side, side_tree, two_way_length, root_mem}
use Rattle.forest.proofs.Loops.{loop_length, nth_next, mem_nth, loop_all, loop_apart, loop_covers, loop_round}
use Rattle.forest.proofs.Turning.{Good, EdgesIn, read_length}
use Rattle.forest.proofs.Polygons.{part_codes, polygon_fan, polygon_only, polygon_proper}
use Rattle.forest.proofs.Codes.{part_length}
use Rattle.forest.proofs.Renaming.{numbered}

-- a tree of two edges or more whose loop does not come round early
abbrev pub Ready : List Tri → List Side → ℕ → Type 0
Ready ts ms k = (2 ≤ length (tree_edges ms k)) × (whole ts ms k ≡ true)

-- each tree's codes are closed
abbrev pub Coded : List Side → List ℕ → List Code → Type 0
Coded ms [] cs = Unit {0}
Coded ms (k ∷ ks) cs = (closes 1 (around ms k - 2) cs ≡ true) × Coded ms ks (drop (around ms k - 2) cs)

-- the polygon of the tree k, where each position has a number by its side
abbrev pub named_polygon : (Side → ℕ) → List Tri → List Side → ℕ → List Code → List Tri
named_polygon number ts ms k cs =
    read_as (mirrored ts ms k) (numbered (λ j. number (get_or (loop_of ts ms k) (cond (eqb j (around ms k)) 0 j) (side 0 0))) (cut cs (open_part 1 (around ms k) ∷ [])))

abbrev pub named_polygons : (Side → ℕ) → List Tri → List Side → List ℕ → List Code → List Tri
named_polygons number ts ms [] cs = []
named_polygons number ts ms (k ∷ ks) cs = named_polygon number ts ms k (take (around ms k - 2) cs) ++ named_polygons number ts ms ks (drop (around ms k - 2) cs)

pub fan_left : (us ws : List Tri) (u : ℕ) {x y : ℕ} → ((p q : ℕ) → Link ws u p q → ⊥) → Fan (Link us u) x y → Fan (Link (us ++ ws) u) x y
fan_left us ws u none f = fan_same (λ p q l. link_left ws l) (λ p q l. ⊎_elim (λ k. k) (λ k. absurd (none p q k)) (link_cases us l)) f

pub fan_right : (us ws : List Tri) (u : ℕ) {x y : ℕ} → ((p q : ℕ) → Link us u p q → ⊥) → Fan (Link ws u) x y → Fan (Link (us ++ ws) u) x y
fan_right us ws u none f = fan_same (λ p q l. link_right us l) (λ p q l. ⊎_elim (λ k. absurd (none p q k)) (λ k. k) (link_cases us l)) f

module _ (V : ℕ) (ts : List Tri) (ms : List Side) (g : Good V ts) (edges : EdgesIn ts ms) where
  module _ (k : ℕ) (ready : Ready ts ms k) where
    full : suc (around ms k - 1) ≡ around ms k
    full = omega (arith, ready.0)

    step : (s : Side) → InTree ms k s → InTree ms k (hop ts ms (mirrored ts ms k) s)
    step s p = subst (InTree ms k) (sym (hop_next V ts ms g edges k s p)) (next_in V ts ms g edges k s p)

    inj : (s t : Side) → InTree ms k s → InTree ms k t → hop ts ms (mirrored ts ms k) s ≡ hop ts ms (mirrored ts ms k) t → s ≡ t
    inj s t p q e = hop_inj V ts ms g edges (mirrored ts ms k) s t p.0 q.0 e

    root_in : InTree ms k (root ms k)
    root_in = root_mem ms k (omega (arith, ready.0))

    out : Mem (root ms k) (loop (hop ts ms (mirrored ts ms k)) (around ms k - 1) (hop ts ms (mirrored ts ms k) (root ms k))) → ⊥
    out = absent_out (root ms k) (loop (hop ts ms (mirrored ts ms k)) (around ms k - 1) (hop ts ms (mirrored ts ms k) (root ms k))) ready.1

    few : length (two_way (tree_edges ms k)) ≤ suc (around ms k - 1)
    few = let e = two_way_length ms (tree_edges ms k) in let w = full in omega arith

    pub tree_length : length (loop_of ts ms k) ≡ around ms k
    tree_length = loop_length (hop ts ms (mirrored ts ms k)) (around ms k) (root ms k)

    pub tree_mem : (z : Side) → Mem z (loop_of ts ms k) → InTree ms k z
    tree_mem z h = loop_all (hop ts ms (mirrored ts ms k)) (InTree ms k) step inj (around ms k) (root ms k) z root_in h

    pub tree_covers : (z : Side) → InTree ms k z → Mem z (loop_of ts ms k)
    tree_covers z p =
        subst (λ (i : ℕ). Mem z (loop (hop ts ms (mirrored ts ms k)) i (root ms k))) full
        (loop_covers (hop ts ms (mirrored ts ms k)) (InTree ms k) step inj (around ms k - 1) (root ms k) root_in out (two_way (tree_edges ms k)) (side_tree ms k) (tree_side ms k) few z p)

    pub tree_apart : Apart (loop_of ts ms k)
    tree_apart = subst (λ (i : ℕ). Apart (loop (hop ts ms (mirrored ts ms k)) i (root ms k))) full (loop_apart (hop ts ms (mirrored ts ms k)) (InTree ms k) step inj (around ms k - 1) (root ms k) root_in out)

    pub tree_nexts : (i : ℕ) → suc i < around ms k → get_or (loop_of ts ms k) (suc i) (side 0 0) ≡ hop ts ms (mirrored ts ms k) (get_or (loop_of ts ms k) i (side 0 0))
    tree_nexts i h = nth_next (hop ts ms (mirrored ts ms k)) (around ms k) (root ms k) (side 0 0) i h

    pub tree_round : hop ts ms (mirrored ts ms k) (get_or (loop_of ts ms k) (around ms k - 1) (side 0 0)) ≡ get_or (loop_of ts ms k) 0 (side 0 0)
    tree_round =
        subst (λ (i : ℕ). hop ts ms (mirrored ts ms k) (get_or (loop (hop ts ms (mirrored ts ms k)) i (root ms k)) (around ms k - 1) (side 0 0)) ≡ get_or (loop (hop ts ms (mirrored ts ms k)) i (root ms k)) 0 (side 0 0)) full
        (loop_round (hop ts ms (mirrored ts ms k)) (InTree ms k) step inj (around ms k - 1) (root ms k) root_in out (two_way (tree_edges ms k)) (side_tree ms k) (tree_side ms k) few (side 0 0))

  -- all trees
  pub positions_in : (ks : List ℕ) → ((k : ℕ) → Mem k ks → Ready ts ms k) → (z : Side) → Mem z (positions ts ms ks) → (k : ℕ) × Mem k ks × InTree ms k z
  positions_in [] ready z h = elim h [ ]
  positions_in (k ∷ ks) ready z h =
      ⊎_elim {C = (i : ℕ) × Mem i (k ∷ ks) × InTree ms i z} (λ h. (k, now, tree_mem k (ready k now) z h))
      (λ h. let r = positions_in ks (λ i q. ready i (later q)) z h in (r.0, later r.1, r.2)) (mem_split (loop_of ts ms k) h)

  pub in_positions : (ks : List ℕ) → ((k : ℕ) → Mem k ks → Ready ts ms k) → (k : ℕ) → Mem k ks → (z : Side) → InTree ms k z → Mem z (positions ts ms ks)
  in_positions [] ready k q z p = elim q [ ]
  in_positions (i ∷ ks) ready k q z p =
      ⊎_elim (λ (e : k ≡ i). mem_left (positions ts ms ks) (tree_covers i (ready i now) z (p.0, p.1 ∙ e)))
      (λ q. mem_right (loop_of ts ms i) (in_positions ks (λ i q. ready i (later q)) k q z p)) (mem_cases q)

  pub positions_apart : {ks : List ℕ} → Apart ks → ((k : ℕ) → Mem k ks → Ready ts ms k) → Apart (positions ts ms ks)
  positions_apart no_one ready = no_one
  positions_apart (one_more {x = k} {xs = ks} n a) ready =
      apart_append (tree_apart k (ready k now)) (positions_apart a (λ i q. ready i (later q)))
      (λ z h l. let r = positions_in ks (λ i q. ready i (later q)) z l in n (rw (sym (tree_mem k (ready k now) z h).1 ∙ r.2.1) r.1))

  module _ (number : Side → ℕ) (once : (s t : Side) → Ours ms s → Ours ms t → number s ≡ number t → s ≡ t) where
    module _ (k : ℕ) (ready : Ready ts ms k) (cs : List Code) (coded : closes 1 (around ms k - 2) cs ≡ true) where
      part : Part 1 (around ms k) (cut (take (around ms k - 2) cs) (open_part 1 (around ms k) ∷ []))
      part = part_codes (around ms k) cs (omega (arith, ready.0)) coded

      once_here : (s t : Side) → Mem s (loop_of ts ms k) → Mem t (loop_of ts ms k) → number s ≡ number t → s ≡ t
      once_here s t p q e = once s t (tree_mem k ready s p).0 (tree_mem k ready t q).0 e

      two : 2 ≤ around ms k
      two = omega (arith, ready.0)

      -- between the numbers of s and of the side after the next, at that of the next
      abbrev Between : Side → Side → Side → Type 0
      Between s x y = Fan (Link (named_polygon number ts ms k (take (around ms k - 2) cs)) (number x)) (cond (mirrored ts ms k) (number y) (number s)) (cond (mirrored ts ms k) (number s) (number y))

      pub tree_fan : (s : Side) → InTree ms k s → Fan (Link (named_polygon number ts ms k (take (around ms k - 2) cs)) (number (next ts ms s)))
          (cond (mirrored ts ms k) (number (next ts ms (next ts ms s))) (number s)) (cond (mirrored ts ms k) (number s) (number (next ts ms (next ts ms s))))
      tree_fan s p = go (mem_nth (side 0 0) (tree_covers k ready s p))
        where
          N : Side → Side
          N s = hop ts ms (mirrored ts ms k) s

          once_more : N s ≡ next ts ms s
          once_more = hop_next V ts ms g edges k s p

          twice : N (N s) ≡ next ts ms (next ts ms s)
          twice = ap N once_more ∙ hop_next V ts ms g edges k (next ts ms s) (next_in V ts ms g edges k s p)

          go : (i : ℕ) × (i < length (loop_of ts ms k)) × (get_or (loop_of ts ms k) i (side 0 0) ≡ s) → Between s (next ts ms s) (next ts ms (next ts ms s))
          go r =
              subst (λ (y : Side). Between s (next ts ms s) y) twice (subst (λ (x : Side). Between s x (N (N s))) once_more
              (subst (λ (z : Side). Between z (N z) (N (N z))) r.2 (polygon_fan (hop ts ms (mirrored ts ms k)) (loop_of ts ms k) (side 0 0) (around ms k) (tree_length k ready) two (tree_nexts k ready) (tree_round k ready)
              (tree_apart k ready) number once_here (cut (take (around ms k - 2) cs) (open_part 1 (around ms k) ∷ [])) part (mirrored ts ms k) r.0 (let e = tree_length k ready in omega (arith, r.1)))))

      pub tree_only : (u p q : ℕ) → Link (named_polygon number ts ms k (take (around ms k - 2) cs)) u p q → (s : Side) × InTree ms k s × (u ≡ number s)
      tree_only u p q l =
          let r = polygon_only (hop ts ms (mirrored ts ms k)) (loop_of ts ms k) (side 0 0) (around ms k) (tree_length k ready) two (tree_nexts k ready) (tree_round k ready)
          (tree_apart k ready) (number) once_here (cut (take (around ms k - 2) cs) (open_part 1 (around ms k) ∷ [])) part (mirrored ts ms k) l in
          (r.0, tree_mem k ready r.0 r.1, r.2)

      pub tree_proper : (u p q : ℕ) → Link (named_polygon number ts ms k (take (around ms k - 2) cs)) u p q → u ≡ p → ⊥
      tree_proper u p q l =
          polygon_proper (hop ts ms (mirrored ts ms k)) (loop_of ts ms k) (side 0 0) (around ms k) (tree_length k ready) two (tree_nexts k ready) (tree_round k ready)
          (tree_apart k ready) (number) once_here (cut (take (around ms k - 2) cs) (open_part 1 (around ms k) ∷ [])) part (mirrored ts ms k) l

    pub polygons_only : (ks : List ℕ) → ((k : ℕ) → Mem k ks → Ready ts ms k) → (cs : List Code) → Coded ms ks cs → (u p q : ℕ) → Link (named_polygons number ts ms ks cs) u p q → (k : ℕ) × Mem k ks × (s : Side) × InTree ms k s × (u ≡ number s)
    polygons_only [] ready cs c u p q l = absurd (no_link l)
    polygons_only (k ∷ ks) ready cs c u p q l =
        ⊎_elim {C = (i : ℕ) × Mem i (k ∷ ks) × (s : Side) × InTree ms i s × (u ≡ number s)} (λ l. let r = tree_only k (ready k now) cs c.0 u p q l in (k, now, r.0, r.1, r.2))
        (λ l. let r = polygons_only ks (λ i q. ready i (later q)) (drop (around ms k - 2) cs) c.1 u p q l in (r.0, later r.1, r.2, r.3, r.4))
        (link_cases (named_polygon number ts ms k (take (around ms k - 2) cs)) l)

    pub polygons_proper : (ks : List ℕ) → ((k : ℕ) → Mem k ks → Ready ts ms k) → (cs : List Code) → Coded ms ks cs → (u p q : ℕ) → Link (named_polygons number ts ms ks cs) u p q → u ≡ p → ⊥
    polygons_proper [] ready cs c u p q l = absurd (no_link l)
    polygons_proper (k ∷ ks) ready cs c u p q l =
        ⊎_elim (λ l. tree_proper k (ready k now) cs c.0 u p q l) (λ l. polygons_proper ks (λ i q. ready i (later q)) (drop (around ms k - 2) cs) c.1 u p q l)
        (link_cases (named_polygon number ts ms k (take (around ms k - 2) cs)) l)

    pub polygons_fan : {ks : List ℕ} → Apart ks → ((k : ℕ) → Mem k ks → Ready ts ms k) → (cs : List Code) → Coded ms ks cs → (k : ℕ) → Mem k ks → (s : Side) → InTree ms k s
        → Fan (Link (named_polygons number ts ms ks cs) (number (next ts ms s)))
        (cond (mirrored ts ms k) (number (next ts ms (next ts ms s))) (number s)) (cond (mirrored ts ms k) (number s) (number (next ts ms (next ts ms s))))
    polygons_fan no_one ready cs c k q s p = elim q [ ]
    polygons_fan (one_more {x = i} {xs = ks} n a) ready cs c k q s p = go (mem_cases q) (λ q. polygons_fan a (λ i q. ready i (later q)) rest c.1 k q s p)
      where
        rest : List Code
        rest = drop (around ms i - 2) cs

        mine : List Tri
        mine = named_polygon number ts ms i (take (around ms i - 2) cs)

        others : List Tri
        others = named_polygons number ts ms ks rest

        F : ℕ → List Tri → Type 0
        F k us = Fan (Link us (number (next ts ms s)))
            (cond (mirrored ts ms k) (number (next ts ms (next ts ms s))) (number s)) (cond (mirrored ts ms k) (number s) (number (next ts ms (next ts ms s))))

        here : InTree ms k (next ts ms s)
        here = next_in V ts ms g edges k s p

        not_others : k ≡ i → (x y : ℕ) → Link others (number (next ts ms s)) x y → ⊥
        not_others e x y l =
            let r = polygons_only ks (λ i q. ready i (later q)) rest c.1 (number (next ts ms s)) x y l in
            let h = once (next ts ms s) r.2 here.0 r.3.0 r.4 in
            n (rw (sym e ∙ sym here.1 ∙ ap (λ z. label ms (start z)) h ∙ r.3.1) r.1)

        not_mine : Mem k ks → (x y : ℕ) → Link mine (number (next ts ms s)) x y → ⊥
        not_mine q x y l =
            let r = tree_only i (ready i now) cs c.0 (number (next ts ms s)) x y l in
            let h = once (next ts ms s) r.0 here.0 r.1.0 r.2 in
            n (rw (sym r.1.1 ∙ ap (λ z. label ms (start z)) (sym h) ∙ here.1) q)

        go : (k ≡ i) ⊎ Mem k ks → (Mem k ks → F k others) → F k (mine ++ others)
        go (inl e) f = fan_left mine others (number (next ts ms s)) (not_others e) (subst (λ (z : ℕ). F z mine) (sym e) (tree_fan i (ready i now) cs c.0 s (p.0, p.1 ∙ e)))
        go (inr q) f = fan_right mine others (number (next ts ms s)) (not_mine q) (f q)

  -- the triangles of the polygons
  pub polygons_counted : (number : Side → ℕ) (ks : List ℕ) → ((k : ℕ) → Mem k ks → Ready ts ms k) → (cs : List Code) → Coded ms ks cs → length (named_polygons number ts ms ks cs) + 2 * length ks ≡ length (positions ts ms ks)
  polygons_counted number [] ready cs c = refl
  polygons_counted number (k ∷ ks) ready cs c =
      let n = around ms k in
      let d = take (around ms k - 2) cs in
      let h = polygons_counted number ks (λ i q. ready i (later q)) (drop (around ms k - 2) cs) c.1 in
      let us = cut d (open_part 1 n ∷ []) in
      let f : ℕ → ℕ → ℕ → ℕ = λ j x y. number (get_or (loop_of ts ms k) (cond (eqb j n) 0 j) (side 0 0)) in
      let p = part_length (part_codes n cs (omega (arith, (ready k now).0)) c.0) in
      let a = read_length (mirrored ts ms k) (map (renamed f) us) in
      let b = length-map us (renamed f) in
      omega (arith, length-append (named_polygon number ts ms k d) (named_polygons number ts ms ks (drop (around ms k - 2) cs)), length-append (loop_of ts ms k) (positions ts ms ks), tree_length k (ready k now))
