-- A split that is accepted keeps the mesh closed, and numbers its positions well.
use Rattle.std.proofs.Common.{◌≡◌, ℕ, zero, suc, ◌+◌, ◌*◌, ◌<◌, Bool, cond, List, [], ◌∷◌, map, length, Some, sym, refl, ap, ◌∙◌, subst, ⊎_elim, arith}
use Rattle.std.specs.List.{slice_get}
use Rattle.mesh.specs.Lists.{Apart, Mem, later, now}
use Rattle.mesh.specs.Triangles.{Tri}
use Rattle.mesh.specs.Sides.{Side}
use Rattle.mesh.specs.Closed.{Closed}
use Rattle.forest.specs.Trees.{start, trees}
use Rattle.forest.specs.Numbering.{has, numbers}
use Rattle.forest.specs.Polygons.{Code}
use Rattle.forest.specs.Splitting.{all_numbers, all_positions, marked_of, split_parents, split_triangles, split_vertices}
use Rattle.forest.specs.Theorems.{Accepted, Kept, Placed, PositionsNumbered, SplitKeeps, origin, Renumbered, CornersRenumbered}
use Rattle.mesh.proofs.Counting.{edges_counted}
use Rattle.mesh.proofs.Members.{mem_cases, mem_eq}
use Rattle.mesh.proofs.Tests.{none_some, some_inj}
use Rattle.forest.proofs.Forests.{Coded, Ready}
use Rattle.forest.proofs.Turning.{EdgesIn}
use Rattle.forest.proofs.Labels.{Ours}
use Rattle.forest.proofs.Checking.{Planted, Sewn, marks_apart, marks_edges, marks_rising, planted, sewn_well, twice_none}
use Rattle.forest.proofs.Numbers.{entries, entry, number_new, number_of, numbered_form, numbered_side, parents_counted, unused_le}
use Rattle.forest.proofs.Sewn.{fits, in_ours, led_all, number_origin, numbers_once, ours_in, ours_small, parents_old, sown_closed, ss_apart, triangles_counted, keeping, met, takes}
use Rattle.forest.proofs.Naming.{numbers_named}
use Rattle.forest.proofs.Vertices.{positions_counted, vertices_counted}
use Rattle.forest.proofs.Marking.{touched_dec}
use Rattle.forest.proofs.Hops.{next_hop}
use Rattle.forest.proofs.Clashes.{apart_map}

numbers_length : (seen : List ℕ) (n : ℕ) (ss : List Side) → length (numbers seen n ss) ≡ length ss
numbers_length seen n [] = refl
numbers_length seen n (s ∷ ss) = ap suc (numbers_length (start s ∷ seen) (cond (has (start s) seen) (suc n) n) ss)

-- a number and its entry
pub number_entry : (seen : List ℕ) (n : ℕ) (ss : List Side) (m : ℕ) → Mem m (numbers seen n ss) → (s : Side) × Mem (entry s m) (entries seen n ss)
number_entry seen n [] m k = elim k [ ]
number_entry seen n (t ∷ ss) m k =
    ⊎_elim {C = (s : Side) × Mem (entry s m) (entries seen n (t ∷ ss))} (λ (e : m ≡ cond (has (start t) seen) n (start t)). (t, mem_eq (ap (λ z. entry t z) e) now))
    (λ k. let r = number_entry (start t ∷ seen) (cond (has (start t) seen) (suc n) n) ss m k in (r.0, later r.1)) (mem_cases k)

entry_number : (seen : List ℕ) (n : ℕ) (ss : List Side) (s : Side) (m : ℕ) → Mem (entry s m) (entries seen n ss) → Mem m (numbers seen n ss)
entry_number seen n [] s m k = elim k [ ]
entry_number seen n (t ∷ ss) s m k =
    ⊎_elim (λ (e : entry s m ≡ entry t (cond (has (start t) seen) n (start t))). mem_eq (cc) now)
    (λ k. later (entry_number (start t ∷ seen) (cond (has (start t) seen) (suc n) n) ss s m k)) (mem_cases k)

map_map : {A : Type 0} (f : ℕ → ℕ) (g : A → ℕ) (h : A → ℕ) (xs : List A) → ((x : A) → Mem x xs → f (g x) ≡ h x) → map f (map g xs) ≡ map h xs
map_map f g h [] e = refl
map_map f g h (x ∷ xs) e = let a = e x now in let b = map_map f g h xs (λ x m. e x (later m)) in cc

module _ (V : ℕ) (ts : List Tri) (bs : List Bool) (cs : List Code) (closed : Closed V ts) (accepted : Accepted V ts bs cs) where
  abbrev ms : List Side
  ms = marked_of ts bs

  abbrev ks : List ℕ
  ks = trees V (marked_of ts bs)

  abbrev ss : List Side
  ss = all_positions V ts (marked_of ts bs)

  abbrev us : List Tri
  us = split_triangles V ts (marked_of ts bs) cs

  forest : Planted V (marked_of ts bs) (length cs)
  forest = planted V ts bs (length cs) accepted.0

  seams : Sewn V ts (marked_of ts bs) cs
  seams = sewn_well V ts bs cs accepted.1

  edges_in : EdgesIn ts (marked_of ts bs)
  edges_in = marks_edges V ts bs closed

  ready : (k : ℕ) → Mem k (trees V (marked_of ts bs)) → Ready ts (marked_of ts bs) k
  ready k m = (forest.long k m, seams.wholes k m)

  coded : Coded (marked_of ts bs) (trees V (marked_of ts bs)) cs
  coded = seams.coded

  small : (s : Side) → Ours ms s → start s < V
  small = ours_small V ts ms cs closed edges_in ready coded

  apart : Apart ss
  apart = ss_apart V ts ms cs closed edges_in ready coded

  ours : (s : Side) → Mem s ss → Ours ms s
  ours = in_ours V ts ms cs closed edges_in ready coded

  passed_all : (s : Side) → Ours ms s → Mem s ss
  passed_all = ours_in V ts ms cs closed edges_in ready coded

  stays_closed : Closed (split_vertices V ts ms) us
  stays_closed = sown_closed V ts ms cs closed edges_in ready coded (twice_none 0 [] us (λ v x y l. (fits V ts ms cs closed edges_in ready coded v x y l).1) seams.no_twice).0

  count : length ss ≡ 2 * length ms
  count = positions_counted V ms ss (touched_dec ms) small forest.free (marks_apart V ts bs closed) (marks_rising V ts bs closed) apart ours passed_all

  vertices : split_vertices V ts ms + length ks ≡ V + length ms
  vertices = vertices_counted V ms ss (touched_dec ms) small forest.free (marks_apart V ts bs closed) (marks_rising V ts bs closed) apart ours passed_all

  triangles : length us + 2 * length ks ≡ length ts + 2 * length ms
  triangles = let a = triangles_counted V ts ms cs closed edges_in ready coded in let b = count in omega arith

  pub kept : Kept V ts (length ms) (length ks) (split_vertices V ts ms) (split_parents V ts ms) us
  kept = record {
    closed = stays_closed;
    vertices = vertices;
    triangles = triangles;
    euler = let a = edges_counted V ts closed in let b = edges_counted (split_vertices V ts ms) us stays_closed in let c = vertices in let d = triangles in omega arith;
    grown = parents_counted [] V ss;
    old_parents = parents_old V ts ms cs closed edges_in ready coded;
    old_triangles = led_all V ts ms cs closed edges_in ready coded;
  }

  number : Side → ℕ
  number s = number_of (entries [] V (all_positions V ts (marked_of ts bs))) s

  named : map number ss ≡ all_numbers V ts ms
  unfolding number
  named = numbers_named V apart

  once : (s t : Side) → Mem s ss → Mem t ss → number s ≡ number t → s ≡ t
  unfolding number
  once s t m k e = numbers_once V ts ms cs closed edges_in ready coded s t (ours s m) (ours t k) e

  leads : (s : Side) → Mem s ss → origin V (split_parents V ts ms) (number s) ≡ start s
  unfolding number
  leads s m = number_origin V ts ms cs closed edges_in ready coded s (ours s m)

  pub placed : Placed V ms (split_vertices V ts ms) (split_parents V ts ms) ss (all_numbers V ts ms)
  placed = record {
    count = count;
    apart = apart;
    marked = ours;
    passed = passed_all;
    numbered = numbers_length [] V ss;
    once = subst (λ (ns : List ℕ). Apart ns) named (apart_map number apart once);
    small = λ n m. low n (number_entry [] V ss n m);
    from = ap (map (origin V (split_parents V ts ms))) (sym named) ∙ map_map (origin V (split_parents V ts ms)) number start ss leads;
    new = λ n h k. let r = number_new [] V ss n h k in entry_number [] V ss r.0 n r.1;
  }
    where
      low : (n : ℕ) → (s : Side) × Mem (entry s n) (entries [] V ss) → n < split_vertices V ts ms
      low n r =
          let a = small r.0 (ours r.0 (numbered_side [] V ss r.1)) in
          let b = unused_le [] V ss in
          ⊎_elim (λ h. omega (arith, h.0)) (λ h. h.1) (numbered_form [] V ss r.1)

  pub renumbered : Renumbered ts ms ks ss (all_numbers V ts ms)
  unfolding number
  renumbered = subst (λ (ns : List ℕ). Renumbered ts ms ks ss ns) named (record {
    stays = λ v x y h. keeping V ts ms cs closed edges_in ready coded v x y h;
    met = λ v x y z l m. let r = met V ts ms cs closed edges_in ready coded v x y l (z, m) in (r.0, passed_all r.0 r.1, r.2);
    takes = λ v x y i n s m e h k. takes V ts ms cs closed edges_in ready coded s (ours s m) v x y e ∙ (ap number (next_hop ts ms s) ∙ numbered_at ss i h k);
  })
    where
      numbered_at : (xs : List Side) (i : ℕ) {t : Side} {n : ℕ} → slice_get xs i ≡ Some t → slice_get (map number xs) i ≡ Some n → number t ≡ n
      numbered_at [] i h k = none_some h
      numbered_at (x ∷ xs) zero h k = ap number (sym (some_inj h)) ∙ some_inj k
      numbered_at (x ∷ xs) (suc i) h k = numbered_at xs i h k

pub corners_renumbered : CornersRenumbered
corners_renumbered V ts bs cs closed accepted = renumbered V ts bs cs closed accepted

pub split_keeps : SplitKeeps
split_keeps V ts bs cs closed accepted = kept V ts bs cs closed accepted

pub positions_numbered : PositionsNumbered
positions_numbered V ts bs cs closed accepted = placed V ts bs cs closed accepted
