-- The positions of a forest: how many there are, where they start, that the loops walk them, and what is made of them.
use Rattle.std.proofs.Common.{◌≡◌, ℕ, suc, ◌+◌, ◌-◌, ◌*◌, ◌/◌, ◌<◌, ◌≤◌, Bool, true, false, cond, List, [], ◌∷◌, map, length, get_or, inl, inr, sym, refl, ap, ◌∙◌, subst, ⊎_elim, arith, length-append}
use Rattle.std.specs.List.{sum as std_sum, sum_by}
use Rattle.std.proofs.lemmas.List.{length-map}
use Rattle.std.proofs.lemmas.List.Sums.{sum_by-cons}
use Rattle.mesh.specs.Lists.{Mem, now, later}
use Rattle.mesh.specs.Triangles.{Tri}
use Rattle.mesh.specs.Sides.{Side, side}
use Rattle.mesh.specs.Closed.{Closed}
use Rattle.mesh.proofs.Counting.{edges_counted}
use Rattle.mesh.proofs.Members.{mem_map, mem_split}
use Rattle.forest.specs.Marks.{marked_edges}
use Rattle.forest.specs.Trees.{below, end, some, start, tree_edges, trees}
use Rattle.forest.specs.Roots.{root, mirrored}
use Rattle.forest.specs.Loops.{around, hop, loop_of, positions}
use Rattle.forest.specs.Numbering.{has, numbers, parents, renamed}
use Rattle.forest.specs.Polygons.{Code}
use Rattle.forest.specs.Splitting.{added_triangles, all_numbers, all_positions, first_unclosed, kept_triangles, marked_of}
use Rattle.forest.specs.Tables.{filled, flags_of, key_side, key_sides, renumbered, unclosed_from, walked}
use Rattle.forest.specs.Theorems.{sum}
use Rattle.forest.proofs.Checking.{marks_edges, marks_small, planted}
use Rattle.forest.proofs.Hops.{hop_ours}
use Rattle.forest.proofs.Labels.{Ours, length_below, root_mem, tree_some}
use Rattle.forest.proofs.Loops.{loop_length, nth_mem}
use Rattle.forest.proofs.Means.{trees_summed}
use Rattle.forest.proofs.Naming.{renamed_same}
use Rattle.forest.proofs.Rounds.{loop_keeps}
use Rattle.forest.proofs.Tables.{filled_polygons, renumbered_all, unclosed_first, walked_positions}
use Rattle.forest.proofs.Turning.{good_closed}
use Rattle.engine.specs.Marking.{marked}
use Rattle.engine.specs.Sewing.{marked_in, Sound, Standing}
use Rattle.engine.proofs.Tallies.{filter_le, marked_le}

numbers_long : (seen : List ℕ) (n : ℕ) (ss : List Side) → length (numbers seen n ss) ≡ length ss
numbers_long seen n [] = refl
numbers_long seen n (s ∷ ss) = ap suc (numbers_long (start s ∷ seen) (cond (has (start s) seen) (suc n) n) ss)

-- there is no more than one new vertex for a position
pub parents_le : (seen : List ℕ) (ss : List Side) → length (parents seen ss) ≤ length ss
parents_le seen [] = omega arith
parents_le seen (s ∷ ss) = go (has (start s) seen) (parents_le (start s ∷ seen) ss)
  where
    go : (b : Bool) → length (parents (start s ∷ seen) ss) ≤ length ss → length (cond b (start s ∷ parents (start s ∷ seen) ss) (parents (start s ∷ seen) ss)) ≤ suc (length ss)
    go true h = omega arith
    go false h = omega arith

same_sum : (ns : List ℕ) → std_sum ns ≡ sum ns
same_sum [] = refl
same_sum (n ∷ ns) = sum_by-cons (λ x. x) n ns ∙ ap (λ m. n + m) (same_sum ns)

-- two codes less than positions for each tree
codes_summed : (ms : List Side) (ks : List ℕ) → ((k : ℕ) → Mem k ks → 2 ≤ length (tree_edges ms k)) → sum_by (λ n. n - 2) (map (around ms) ks) + 2 * length ks ≡ sum (map (around ms) ks)
codes_summed ms [] f = refl
codes_summed ms (k ∷ ks) f =
    let e = codes_summed ms ks (λ k m. f k (later m)) in
    let h = f k now in
    let c = sum_by-cons (λ n. n - 2) (around ms k) (map (around ms) ks) in
    omega arith

sum_double : (f : ℕ → ℕ) (ks : List ℕ) → sum (map (λ k. 2 * f k) ks) ≡ 2 * sum (map f ks)
sum_double f [] = refl
sum_double f (k ∷ ks) = let e = sum_double f ks in omega arith

positions_length : (ts : List Tri) (ms : List Side) (ks : List ℕ) → length (positions ts ms ks) ≡ sum (map (around ms) ks)
positions_length ts ms [] = refl
positions_length ts ms (k ∷ ks) =
    length-append (loop_of ts ms k) (positions ts ms ks)
    ∙ (ap (λ n. n + length (positions ts ms ks)) (loop_length (hop ts ms (mirrored ts ms k)) (around ms k) (root ms k)) ∙ ap (λ n. around ms k + n) (positions_length ts ms ks))

module _ (V : ℕ) (ts : List Tri) (bs : List Bool) (closed : Closed V ts) where
  positions_ours : (ks : List ℕ) → ((k : ℕ) → Mem k ks → 0 < length (tree_edges (marked_of ts bs) k)) → (s : Side) → Mem s (positions ts (marked_of ts bs) ks) → Ours (marked_of ts bs) s
  positions_ours [] f s m = elim m [ ]
  positions_ours (k ∷ ks) f s m =
      ⊎_elim (λ i. loop_keeps (hop ts (marked_of ts bs) (mirrored ts (marked_of ts bs) k)) (Ours (marked_of ts bs))
      (λ z p. hop_ours V ts (marked_of ts bs) (good_closed V ts closed) (marks_edges V ts bs closed) (mirrored ts (marked_of ts bs) k) z p)
      (around (marked_of ts bs) k) (root (marked_of ts bs) k) s (root_mem (marked_of ts bs) k (f k now)).0 i)
      (λ i. positions_ours ks (λ k m. f k (later m)) s i) (mem_split (loop_of ts (marked_of ts bs) k) m)

  start_small : (s : Side) → Ours (marked_of ts bs) s → start s < V
  start_small s (inl m) = (marks_small V ts bs closed (side (start s) (end s)) m).0
  start_small s (inr m) = (marks_small V ts bs closed (side (end s) (start s)) m).1

  -- a position starts at a vertex
  pub position_small : (s : Side) → Mem s (all_positions V ts (marked_of ts bs)) → start s < V
  position_small s m = start_small s (positions_ours (trees V (marked_of ts bs)) (λ k i. (tree_some V (marked_of ts bs) k i).1) s m)

  arounds_summed : sum (map (around (marked_of ts bs)) (trees V (marked_of ts bs))) ≡ 2 * length (marked_of ts bs)
  arounds_summed =
      sum_double (λ k. length (tree_edges (marked_of ts bs) k)) (trees V (marked_of ts bs))
      ∙ ap (λ n. 2 * n) (trees_summed V (marked_of ts bs) (λ s m. (marks_small V ts bs closed s m).0))

-- the tables of a forest
module _ (V : ℕ) (ts : List Tri) (keys marks arounds roots mirrors : List ℕ) (closed : Closed V ts) (standing : Standing V ts keys marks arounds roots mirrors) where
  pub marks_told : marked keys marks ≡ marked_in ts marks
  marks_told = ap (λ es. marked_edges es (flags_of marks)) standing.keys_told

  pub marks_few : 2 * length (marked_in ts marks) ≤ 3 * length ts
  marks_few =
      let a = marked_le keys marks in
      let b = ap length marks_told in
      let c = sym (length-map keys key_side) ∙ ap length standing.keys_told in
      let d = edges_counted V ts closed in
      omega arith

  pub total : sum arounds ≡ 2 * length (marked_in ts marks)
  total = ap sum standing.arounds_told ∙ arounds_summed V ts (flags_of marks) closed

  pub walks : (ms : List Side) → ms ≡ marked keys marks → walked ts ms (key_sides roots) arounds (flags_of mirrors) ≡ all_positions V ts (marked_in ts marks)
  walks ms e =
      rw (e ∙ marks_told, standing.arounds_told, standing.roots_told, standing.mirrors_told) (walked_positions ts (marked_in ts marks) (trees V (marked_in ts marks)))

  pub starts : (ps : List ℕ) → key_sides ps ≡ all_positions V ts (marked_in ts marks) → (k : ℕ) → k < length ps → get_or ps k 0 / 16384 < V
  starts ps e k h = position_small V ts (flags_of marks) closed (key_side (get_or ps k 0)) (subst (Mem (key_side (get_or ps k 0))) e (mem_map key_side (nth_mem ps 0 k h)))

  pub counted : (ps : List ℕ) → key_sides ps ≡ all_positions V ts (marked_in ts marks) → sum arounds ≡ length ps
  counted ps e =
      ap sum standing.arounds_told
      ∙ (sym (positions_length ts (marked_in ts marks) (trees V (marked_in ts marks))) ∙ (sym (ap length e) ∙ length-map ps key_side))

  pub numbers_counted : (us : List ℕ) → us ≡ all_numbers V ts (marked_in ts marks) → length us ≡ sum arounds
  numbers_counted us e =
      ap length e
      ∙ (numbers_long [] V (all_positions V ts (marked_in ts marks))
      ∙ (positions_length ts (marked_in ts marks) (trees V (marked_in ts marks)) ∙ sym (ap sum standing.arounds_told)))

  pub renumbers : (ms : List Side) (ps us : List ℕ) → ms ≡ marked keys marks → key_sides ps ≡ all_positions V ts (marked_in ts marks) → us ≡ all_numbers V ts (marked_in ts marks)
      → map (renamed (λ v x y. renumbered ts ms arounds (flags_of mirrors) (key_sides ps) us v x y v)) ts ≡ kept_triangles V ts (marked_in ts marks)
  renumbers ms ps us e p n =
      renamed_same (λ v x y. renumbered ts ms arounds (flags_of mirrors) (key_sides ps) us v x y v) _ ts
      (λ v x y l. rw (e ∙ marks_told, standing.arounds_told, standing.mirrors_told, p, n) (renumbered_all ts (marked_in ts marks) (trees V (marked_in ts marks)) (all_numbers V ts (marked_in ts marks)) v x y v))

  pub trees_few : length arounds ≤ V
  trees_few =
      let a = ap length standing.arounds_told ∙ length-map (trees V (marked_in ts marks)) (around (marked_in ts marks)) in
      let b = filter_le (λ k. some (tree_edges (marked_in ts marks) k)) (below V) in
      let c = length_below V in
      omega arith

  pub unclosed : (cs : List Code) → unclosed_from 0 arounds cs ≡ first_unclosed (marked_in ts marks) 0 (trees V (marked_in ts marks)) cs
  unclosed cs = ap (λ ns. unclosed_from 0 ns cs) standing.arounds_told ∙ unclosed_first (marked_in ts marks) 0 (trees V (marked_in ts marks)) cs

  pub fills : (us : List ℕ) (cs : List Code) → us ≡ all_numbers V ts (marked_in ts marks) → filled arounds (flags_of mirrors) us cs ≡ added_triangles V ts (marked_in ts marks) cs
  fills us cs e = rw (standing.arounds_told, standing.mirrors_told, e) (filled_polygons ts (marked_in ts marks) (trees V (marked_in ts marks)) (all_numbers V ts (marked_in ts marks)) cs)

  pub std_total : std_sum arounds ≡ sum arounds
  std_total = same_sum arounds

  -- the number of codes, where there is no fault
  module _ (n : ℕ) (sound : Sound V ts marks n) where
    pub coded : sum_by (λ k. k - 2) arounds ≡ n
    coded =
        let p = planted V ts (flags_of marks) n sound in
        let e = ap (λ ns. sum_by (λ k. k - 2) ns) standing.arounds_told in
        let a = codes_summed (marked_in ts marks) (trees V (marked_in ts marks)) p.long in
        let b = sym (ap sum standing.arounds_told) in
        let t = total in
        let q = p.codes in
        omega arith

    pub codes_few : n ≤ 3 * length ts
    codes_few =
        let q = (planted V ts (flags_of marks) n sound).codes in
        let f = marks_few in
        omega arith
