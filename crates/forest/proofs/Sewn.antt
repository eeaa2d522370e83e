-- The split is a sewing, so that what it leaves is closed.
use Rattle.std.proofs.Common.{◌≡◌, ℕ, ◌+◌, ◌-◌, ◌*◌, ◌<◌, ◌≤◌, Bool, true, false, cond, ◌⊎◌, List, [], ◌∷◌, ◌++◌, map, length, get_or, take, sym, refl, ap, ◌∙◌, subst, inl, inr, ⊎_elim, arith, length-append, le-ltb, lt-ltb}
use lib.ListN.{length-map}
use native.Mathlib.Decide.{dec_lt}
use Rattle.mesh.specs.Lists.{Mem, Apart}
use Rattle.mesh.specs.Triangles.{Tri, tri}
use Rattle.mesh.specs.Sides.{Side, side, sides}
use Rattle.mesh.specs.Rings.{Link, here, there, at_first, at_second, at_third}
use Rattle.mesh.specs.Closed.{Closed}
use Rattle.forest.specs.Marks.{Marked}
use Rattle.forest.specs.Trees.{label, start, end, trees}
use Rattle.forest.specs.Roots.{mirrored}
use Rattle.forest.specs.Loops.{positions}
use Rattle.forest.specs.Numbering.{renamed, unused, corner_number}
use Rattle.forest.specs.Polygons.{Code, polygons}
use Rattle.forest.specs.Theorems.{origin, led_back}
use Rattle.forest.proofs.Fans.{Fan, link_cases}
use Rattle.forest.proofs.Sectors.{On}
use Rattle.forest.proofs.Marking.{Unmarked, marked_dec, marked_back, touched_dec}
use Rattle.forest.proofs.Sewing.{Sewing, split_closed, corner_name, corners_apart, sewn, corner_at}
use Rattle.forest.proofs.Hops.{next, hop_ours, hop_start, nx, pr, nx_pr, pr_nx, pr_ours, pr_end, src, src_ours, src_label, place_of, place_ours, place_start, place_inj, place_nx, place_pr, dst}
use Rattle.forest.proofs.Numbers.{Entry, entry, number_of, unused_le, numbered_side, numbered_form, numbered_once, number_mem, number_is, number_new, number_old, side_numbered, parents_mem, number_parent, entries}
use Rattle.forest.proofs.Renaming.{link_old}
use Rattle.forest.proofs.Labels.{Ours, trees_apart, tree_there}
use Rattle.forest.proofs.Turning.{Good, good_closed, EdgesIn}
use Rattle.forest.proofs.Forests.{Ready, Coded, positions_in, in_positions, positions_apart, polygons_only, polygons_proper, polygons_fan, named_polygons, polygons_counted}
use Rattle.forest.proofs.Passing.{sector_at, run_passed, passes_end, passes_same, passed}
use Rattle.forest.proofs.Folding.{all_keep, all_found}
use Rattle.forest.specs.Splitting.{split_triangles, split_parents, split_vertices, kept_triangles, added_triangles}
use Rattle.forest.proofs.Naming.{polygons_named, numbers_named}
use Rattle.forest.proofs.Clashes.{sent, apart_unmap}
use Rattle.forest.proofs.Once.{polygons_once}

module _ (V : ℕ) (ts : List Tri) (ms : List Side) (cs : List Code) (closed : Closed V ts) (edges : EdgesIn ts ms)
    (ready : (k : ℕ) → Mem k (trees V ms) → Ready ts ms k) (coded : Coded ms (trees V ms) cs) where
  g : Good V ts
  g = good_closed V ts closed

  abbrev ks : List ℕ
  ks = trees V ms

  abbrev ss : List Side
  ss = positions ts ms (trees V ms)

  abbrev es : List Entry
  es = entries [] V (positions ts ms (trees V ms))

  abbrev V' : ℕ
  V' = unused [] V (positions ts ms (trees V ms))

  abbrev number : Side → ℕ
  number s = number_of es s

  pub ours_small : (s : Side) → Ours ms s → start s < V
  ours_small (side u v) m = let l = edges u v m in (closed.fits u v l.0 l.1).0

  tree_in : (s : Side) → Ours ms s → Mem (label ms (start s)) ks
  tree_in s m = tree_there V ms s m (ours_small s m)

  pub ours_in : (s : Side) → Ours ms s → Mem s ss
  ours_in s m = in_positions V ts ms g edges ks ready (label ms (start s)) (tree_in s m) s (m, refl)

  pub in_ours : (s : Side) → Mem s ss → Ours ms s
  in_ours s m = (positions_in V ts ms g edges ks ready s m).2.0

  pub ss_apart : Apart ss
  ss_apart = positions_apart V ts ms g edges (trees_apart V ms) ready

  in_small : (s : Side) → Mem s ss → start s < V
  in_small s m = ours_small s (in_ours s m)

  entry_of : (s : Side) → Ours ms s → Mem (entry s (number s)) es
  entry_of s m = number_mem es (side_numbered [] V ss (ours_in s m)).1

  pub numbers_once : (s t : Side) → Ours ms s → Ours ms t → number s ≡ number t → s ≡ t
  numbers_once s t m n e = numbered_once V [] V ss in_small (omega arith) (entry_of s m) (subst (λ (z : ℕ). Mem (entry t z) es) (sym e) (entry_of t n))

  number_form : (s : Side) → Ours ms s → (number s ≡ start s) ⊎ ((V ≤ number s) × (number s < V'))
  number_form s m = ⊎_elim (λ h. inl h.0) (λ h. inr h) (numbered_form [] V ss (entry_of s m))

  number_small : (s : Side) → Ours ms s → number s < V'
  number_small s m = let a = ours_small s m in let b = unused_le [] V ss in ⊎_elim (λ h. omega arith) (λ h. h.1) (number_form s m)

  abbrev next_to : Side → Side
  next_to s = nx V ts ms g edges s

  abbrev before : Side → Side
  before s = pr V ts ms g edges s

  abbrev num : Side → ℕ
  num t = number (place_of V ts ms g edges t)

  abbrev f : ℕ → ℕ → ℕ → ℕ
  f = corner_number ts ms ks (map number ss)

  abbrev ps : List Tri
  ps = named_polygons number ts ms ks cs

  num_inj : (t r : Side) → Ours ms t → Ours ms r → num t ≡ num r → t ≡ r
  num_inj t r m n e = place_inj V ts ms g edges t r m n (numbers_once (place_of V ts ms g edges t) (place_of V ts ms g edges r) (place_ours V ts ms g edges t m) (place_ours V ts ms g edges r n) e)

  passing : (t : Side) (m : Ours ms t) (p q : ℕ) → On (sector_at V ts ms g edges t m).2 p q → passed ts ms (start t) p q (src V ts ms g edges t) ≡ true
  passing t m p q o =
      let e = hop_start V ts ms g edges false t m in
      let marked : Marked ms (start t) (start (next_to t)) = subst (λ (z : ℕ). Marked ms (start t) z) (sym e) m in
      let arrival : Marked ms (start t) (start (before t)) = back_mark (before t) (pr_ours V ts ms g edges t m) (start t) (pr_end V ts ms g edges t m) in
      run_passed V ts ms g edges t m (sector_at V ts ms g edges t m).2 e refl marked arrival p q o
    where
      back_mark : (s : Side) → Ours ms s → (v : ℕ) → end s ≡ v → Marked ms v (start s)
      back_mark (side u w) m v e = subst (λ (z : ℕ). Marked ms z u) e (marked_back ms u w m)

  -- a corner in the run after a side has the number of the next
  pub takes : (s : Side) → Ours ms s → (v p q : ℕ) → passed ts ms v p q s ≡ true → f v p q ≡ number (next ts ms s)
  takes s n v p q e =
      all_found V ts ms g edges number v p q ks ready (number (next ts ms s)) v (ours_in s n) e
      (λ r k i. ap (λ z. number (next ts ms z)) (passes_same V ts ms g edges r s (in_ours r k) n v p q i e))

  naming : (t : Side) (m : Ours ms t) (p q : ℕ) → On (sector_at V ts ms g edges t m).2 p q → f (start t) p q ≡ num t
  unfolding place_of
  naming t m p q o = takes (src V ts ms g edges t) (src_ours V ts ms g edges t m) (start t) p q (passing t m p q o)

  pub keeping : (v p q : ℕ) → ((x : ℕ) → Unmarked (Marked ms) v x) → f v p q ≡ v
  keeping v p q n = all_keep V ts ms g edges number v p q ks ready v (λ t k i. absurd (out t (in_ours t k) (passes_end ts ms v p q t i)))
    where
      out : (s : Side) → Ours ms s → end s ≡ v → ⊥
      out (side u w) m e = n u (subst (λ (z : ℕ). Marked ms z u) e (marked_back ms u w m))

  start_marked : (s : Side) → Ours ms s → (v : ℕ) → start s ≡ v → Marked ms v (end s)
  start_marked (side u w) m v e = subst (λ (z : ℕ). Marked ms z w) e m

  others : (v : ℕ) (t : Side) → v < V → Ours ms t → ((x : ℕ) → Unmarked (Marked ms) v x) → num t ≡ v → ⊥
  others v t small m n e =
      let s = place_of V ts ms g edges t in let o = place_ours V ts ms g edges t m in
      ⊎_elim (λ (h : number s ≡ start s). n (end s) (start_marked s o v (sym h ∙ e))) (λ h. omega (arith, h.0)) (number_form s o)

  cond_number : (b : Bool) (s t : Side) → number (cond b s t) ≡ cond b (number s) (number t)
  cond_number true s t = refl
  cond_number false s t = refl

  fans : (t : Side) → Ours ms t → Fan (Link ps (num t)) (num (before t)) (num (next_to t))
  unfolding place_of
  fans t m =
      let s = src V ts ms g edges t in
      let n = src_ours V ts ms g edges t m in
      let k = label ms (start t) in
      let a : num (before t) ≡ cond (mirrored ts ms k) (number (next ts ms (next ts ms s))) (number s) = ap number (place_pr V ts ms g edges t m) ∙ cond_number (mirrored ts ms k) (next ts ms (next ts ms s)) s in
      let b : num (next_to t) ≡ cond (mirrored ts ms k) (number s) (number (next ts ms (next ts ms s))) = ap number (place_nx V ts ms g edges t m) ∙ cond_number (mirrored ts ms k) s (next ts ms (next ts ms s)) in
      cast a b (polygons_fan V ts ms g edges number numbers_once (trees_apart V ms) ready cs coded k (tree_in t m) s (n, src_label V ts ms g edges t m))
    where
      cast : {u x x' y y' : ℕ} → x ≡ x' → y ≡ y' → Fan (Link ps u) x' y' → Fan (Link ps u) x y
      cast e i h = rw (e, i) h

  only_at : (u p q : ℕ) → Link ps u p q → (s : Side) × Ours ms s × (u ≡ number s)
  only_at u p q l = let r = polygons_only V ts ms g edges number numbers_once ks ready cs coded u p q l in (r.2, r.3.0, r.4)

  onlys : (u p q : ℕ) → Link ps u p q → (t : Side) × Ours ms t × (u ≡ num t)
  onlys u p q l = let r = only_at u p q l in let d = dst V ts ms g edges r.0 r.1 in (d.0, d.1, r.2 ∙ ap number (sym d.3))

  sewing : Sewing V ts (Marked ms) Side (Ours ms) start num before next_to f ps
  sewing = record {
    decides = marked_dec ms;
    touched = touched_dec ms;
    even = marked_back ms;
    edge = λ v x m. let l = edges v x m in ((closed.fits v x l.0 l.1).0, l);
    pos_nx = λ t m. hop_ours V ts ms g edges false t m;
    pos_pr = λ t m. pr_ours V ts ms g edges t m;
    nx_pr = λ t m. nx_pr V ts ms g edges t m;
    pr_nx = λ t m. pr_nx V ts ms g edges t m;
    inside = ours_small;
    marked = λ t m. subst (λ (z : ℕ). Marked ms (start t) z) (sym (hop_start V ts ms g edges false t m)) m;
    seam = λ v x m. (side v x, m, refl, hop_start V ts ms g edges false (side v x) m);
    sector = sector_at V ts ms g edges;
    numbers = num_inj;
    named = naming;
    kept = λ v p q l n. keeping v p q n;
    other = others;
    fan = fans;
    only = onlys;
  }

  -- each corner at a vertex of a tree is in a run
  pub met : (v p q : ℕ) → Link ts v p q → (x : ℕ) × Marked ms v x → (s : Side) × Ours ms s × (passed ts ms v p q s ≡ true)
  unfolding sewing
  met v p q l m =
      let k = corner_at V ts (Marked ms) Side (Ours ms) start num before next_to f ps closed sewing v p q l m in
      (src V ts ms g edges k.0, src_ours V ts ms g edges k.0 k.1, subst (λ (z : ℕ). passed ts ms z p q (src V ts ms g edges k.0) ≡ true) k.2 (passing k.0 k.1 p q (k.3 k.1)))

  each : (u : ℕ) → u < V' → ((t : Side) × Ours ms t × (num t ≡ u)) ⊎ ((u < V) × ((x : ℕ) → Unmarked (Marked ms) u x))
  each u h = go (dec_lt u V) (touched_dec ms u)
    where
      at_entry : (s : Side) → Mem s ss → Mem (entry s u) es → (t : Side) × Ours ms t × (num t ≡ u)
      at_entry s k m = let d = dst V ts ms g edges s (in_ours s k) in (d.0, d.1, ap number d.3 ∙ number_is [] V ss_apart m)

      go : Dec (u < V) → Dec ((x : ℕ) × Marked ms u x) → ((t : Side) × Ours ms t × (num t ≡ u)) ⊎ ((u < V) × ((x : ℕ) → Unmarked (Marked ms) u x))
      go (yes l) (yes r) = let n = number_old [] V ss u (side u r.0) (ours_in (side u r.0) r.1) refl (λ m. elim m [ ]) in inl (at_entry n.0 (numbered_side [] V ss n.1) n.1)
      go (yes l) (no n) = inr (l, λ x m. n (x, m))
      go (no l) d = let n = number_new [] V ss u (omega arith) h in inl (at_entry n.0 (numbered_side [] V ss n.1) n.1)

  -- the triangles after the split
  kept_same : map (renamed f) ts ≡ kept_triangles V ts ms
  kept_same = ap (λ ns. map (renamed (corner_number ts ms ks ns)) ts) (numbers_named V ss_apart)

  added_same : ps ≡ added_triangles V ts ms cs
  added_same = sym (polygons_named V ts ms g edges number ks ready cs coded) ∙ ap (λ ns. polygons ts ms ks ns cs) (numbers_named V ss_apart)

  same : sewn f ts ps ≡ split_triangles V ts ms cs
  same = ap (λ us. map (renamed f) ts ++ us) added_same ∙ ap (λ us. us ++ added_triangles V ts ms cs) kept_same

  fits_here : (v x y : ℕ) → Link (sewn f ts ps) v x y → (v < V') × (v ≡ x → ⊥)
  fits_here v x y l = ⊎_elim {C = (v < V') × (v ≡ x → ⊥)} old new (link_cases (map (renamed f) ts) l)
    where
      new : Link ps v x y → (v < V') × (v ≡ x → ⊥)
      new l = let r = only_at v x y l in (subst (λ (z : ℕ). z < V') (sym r.2) (number_small r.0 r.1), polygons_proper V ts ms g edges number numbers_once ks ready cs coded v x y l)

      small : (w p q : ℕ) → Link ts w p q → f w p q < V'
      small w p q l = ⊎_elim (λ r. subst (λ (z : ℕ). z < V') (sym r.3) (number_small (place_of V ts ms g edges r.0) (place_ours V ts ms g edges r.0 r.1)))
          (λ r. let a = (closed.fits w p q l).0 in let b = unused_le [] V ss in let e = r.0 in omega arith)
          (corner_name V ts (Marked ms) Side (Ours ms) start num before next_to f ps closed sewing w p q l)

      old : Link (map (renamed f) ts) v x y → (v < V') × (v ≡ x → ⊥)
      old l =
          let r = link_old f ts l in (
            subst (λ (z : ℕ). z < V') (sym r.4) (small r.0 r.1 r.2 r.3),
            λ e. corners_apart V ts (Marked ms) Side (Ours ms) start num before next_to f ps closed sewing r.0 r.1 r.2 r.3 (sym r.4 ∙ e ∙ r.5),
          )

  pub fits : (v x y : ℕ) → Link (split_triangles V ts ms cs) v x y → (v < split_vertices V ts ms) × (v ≡ x → ⊥)
  fits = subst (λ (us : List Tri). (v x y : ℕ) → Link us v x y → (v < V') × (v ≡ x → ⊥)) same fits_here

  pub sown_closed : Apart (sides (split_triangles V ts ms cs)) → Closed (split_vertices V ts ms) (split_triangles V ts ms cs)
  sown_closed = subst (λ (us : List Tri). Apart (sides us) → Closed V' us) same (λ apart. split_closed V ts (Marked ms) Side (Ours ms) start num before next_to f ps closed sewing V' each fits_here apart)

  -- following back
  pub parents_old : (p : ℕ) → Mem p (split_parents V ts ms) → p < V
  parents_old p m = let r = parents_mem [] ss p m in subst (λ (z : ℕ). z < V) r.2 (in_small r.0 r.1)

  origin_old : (u : ℕ) → u < V → origin V (split_parents V ts ms) u ≡ u
  origin_old u h = ap (λ b. cond b u (get_or (split_parents V ts ms) (u - V) 0)) (lt-ltb u V h)

  origin_new : (i : ℕ) → origin V (split_parents V ts ms) (V + i) ≡ get_or (split_parents V ts ms) i 0
  origin_new i =
      let h : V ≤ V + i = omega arith in let e : V + i - V ≡ i = omega arith in
      ap (λ b. cond b (V + i) (get_or (split_parents V ts ms) (V + i - V) 0)) (le-ltb (V + i) V h) ∙ ap (λ z. get_or (split_parents V ts ms) z 0) e

  pub number_origin : (s : Side) → Ours ms s → origin V (split_parents V ts ms) (number s) ≡ start s
  number_origin s m = ⊎_elim
      (λ (e : number s ≡ start s). ap (origin V (split_parents V ts ms)) e ∙ origin_old (start s) (ours_small s m))
      (λ r. ap (origin V (split_parents V ts ms)) r.1 ∙ origin_new r.0 ∙ r.2) (number_parent [] V ss (entry_of s m))

  corner_origin : (v p q : ℕ) → Link ts v p q → origin V (split_parents V ts ms) (f v p q) ≡ v
  corner_origin v p q l = ⊎_elim
      (λ r. ap (origin V (split_parents V ts ms)) r.3 ∙ number_origin (place_of V ts ms g edges r.0) (place_ours V ts ms g edges r.0 r.1) ∙ place_start V ts ms g edges r.0 r.1 ∙ r.2)
      (λ r. ap (origin V (split_parents V ts ms)) r.0 ∙ origin_old v (closed.fits v p q l).0) (corner_name V ts (Marked ms) Side (Ours ms) start num before next_to f ps closed sewing v p q l)

  led_part : (os : List Tri) (rest : List Tri) → ((v p q : ℕ) → Link os v p q → Link ts v p q) → map (led_back V (split_parents V ts ms)) (take (length os) (map (renamed f) os ++ rest)) ≡ os
  led_part [] rest h = refl
  led_part (tri x y z ∷ os) rest h =
      let a = corner_origin x y z (h x y z (here at_first)) in
      let b = corner_origin y z x (h y z x (here at_second)) in
      let c = corner_origin z x y (h z x y (here at_third)) in
      let r = led_part os rest (λ v p q l. h v p q (there l)) in
      cc

  pub led_all : map (led_back V (split_parents V ts ms)) (take (length ts) (split_triangles V ts ms cs)) ≡ ts
  led_all = subst (λ (us : List Tri). map (led_back V (split_parents V ts ms)) (take (length ts) us) ≡ ts) same (led_part ts ps (λ v p q l. l))

  -- no side of the kept triangles comes twice, for it leads back to a side of the old ones
  sides_led : (os : List Tri) → ((v p q : ℕ) → Link os v p q → Link ts v p q) → map (sent (origin V (split_parents V ts ms))) (sides (map (renamed f) os)) ≡ sides os
  sides_led [] h = refl
  sides_led (tri x y z ∷ os) h =
      let a = corner_origin x y z (h x y z (here at_first)) in
      let b = corner_origin y z x (h y z x (here at_second)) in
      let c = corner_origin z x y (h z x y (here at_third)) in
      let r = sides_led os (λ v p q l. h v p q (there l)) in
      cc

  pub kept_once : Apart (sides (kept_triangles V ts ms))
  kept_once =
      subst (λ (us : List Tri). Apart (sides us)) kept_same
      (apart_unmap (sent (origin V (split_parents V ts ms))) (sides (map (renamed f) ts)) (subst (λ (ss : List Side). Apart ss) (sym (sides_led ts (λ v p q l. l))) closed.once))

  -- nor one of the added triangles
  pub added_once : Apart (sides (added_triangles V ts ms cs))
  added_once = subst (λ (us : List Tri). Apart (sides us)) added_same (polygons_once V ts ms g edges number numbers_once (trees_apart V ms) ready cs coded)

  -- and their number
  pub triangles_counted : length (split_triangles V ts ms cs) + 2 * length ks ≡ length ts + length ss
  triangles_counted =
      let p = polygons_counted V ts ms g edges number ks ready cs coded in
      let e = ap length same in
      omega (arith, length-append (map (renamed f) ts) ps, length-map ts (renamed f))
