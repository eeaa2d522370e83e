-- What the tables tell of a forest.
use Rattle.std.proofs.Common.{◌≡◌, ℕ, zero, suc, ◌/◌, ◌%◌, ◌<◌, ◌≤◌, Bool, List, [], ◌∷◌, map, length, take, get_or, Some, None, sym, refl, ap, ◌∙◌, subst, inl, inr, arith}
use Rattle.std.proofs.lemmas.List.{take_all, length-map}
use Rattle.fault.specs.declared.fault.Fault.TheVariants.{NoMark}
use Rattle.mesh.specs.Lists.{Mem, now, later}
use Rattle.mesh.specs.Triangles.{Tri}
use Rattle.mesh.specs.Sides.{Side, side, sides}
use Rattle.mesh.specs.Edges.{edges, up}
use Rattle.mesh.specs.Closed.{Closed}
use Rattle.mesh.proofs.Counting.{closed_sided, edge_up, edges_half}
use Rattle.mesh.proofs.Links.{side_link}
use Rattle.mesh.proofs.Members.{kept_mem, mem_map}
use Rattle.forest.specs.Marks.{marked_edges}
use Rattle.forest.specs.Trees.{start, end, tree_edges, trees}
use Rattle.forest.specs.Roots.{root, against, mirrored}
use Rattle.forest.specs.Splitting.{marked_of, unmarked_fault}
use Rattle.forest.specs.Tables.{Climbing, key_side, key_sides, flags_of}
use Rattle.forest.specs.Theorems.{sum}
use Rattle.forest.proofs.Labels.{tree_some, root_mem, Ours}
use Rattle.forest.proofs.Means.{trees_summed}
use Rattle.forest.proofs.Checking.{marks_small}
use Rattle.record.specs.Parts.{set_count}
use Rattle.runs.specs.Parts.{record_marks}
use Rattle.runs.proofs.Parts.{marked_counted}
use Rattle.engine.specs.Joining.{EndsBelow}
use Rattle.engine.specs.Marking.{marked}
use Rattle.engine.proofs.EdgeKeys.{at_mem}
use Rattle.engine.proofs.Tallies.{marked_le}

-- ---- the marks

pub none_marked : (ms : List Side) (n : ℕ) → n ≡ length ms → n ≡ 0 → Some NoMark ≡ unmarked_fault ms
none_marked [] n e z = refl
none_marked (m ∷ ms) n e z = absurd (omega arith)

pub some_marked : (ms : List Side) (n : ℕ) → n ≡ length ms → (n ≡ 0 → ⊥) → None ≡ unmarked_fault ms
some_marked [] n e z = absurd (z e)
some_marked (m ∷ ms) n e z = refl

pub marks_counted : (ts : List Tri) (bs : List ℕ) (m n : ℕ) → m ≡ length (edges ts) → n ≡ set_count bs m → n ≡ length (marked_of ts (record_marks bs m))
marks_counted ts bs m n e c = c ∙ sym (subst (λ (k : ℕ). length (marked_of ts (record_marks bs k)) ≡ set_count bs k) (sym e) (marked_counted ts bs))

pub all_climbing : (n : ℕ) (ks : List ℕ) → length ks ≤ n → Climbing (take n ks) → Climbing ks
all_climbing n ks h c = subst Climbing (take_all n ks h) c

-- ---- a closed mesh

-- a list is no longer than a sum over it of numbers that are one at least
one_each : (f : ℕ → ℕ) (ks : List ℕ) → ((k : ℕ) → Mem k ks → 0 < f k) → length ks ≤ sum (map f ks)
one_each f [] h = omega arith
one_each f (k ∷ ks) h = let a = h k now in let b = one_each f ks (λ i l. h i (later l)) in omega arith

keys_low : (f : ℕ → Side) (rs ks : List ℕ) → key_sides rs ≡ map f ks → ((k : ℕ) → Mem k ks → start (f k) < 16384) → (i : ℕ) → i < length rs → get_or rs i 0 < 268435456
keys_low f [] ks e h i l = absurd (omega arith)
keys_low f (r ∷ rs) [] e h i l = absurd (cc)
keys_low f (r ∷ rs) (k ∷ ks) e h zero l =
    let s : key_side r ≡ f k = cc in
    let q : r / 16384 ≡ start (f k) = ap start s in
    let b = h k now in omega arith
keys_low f (r ∷ rs) (k ∷ ks) e h (suc i) l = let s : key_sides rs ≡ map f ks = cc in keys_low f rs ks s (λ j m. h j (later m)) i (omega arith)

module _ (V : ℕ) (ts : List Tri) (closed : Closed V ts) where
  edge_small : (s : Side) → Mem s (edges ts) → (start s < V) × (end s < V)
  edge_small (side i j) m =
      let h = (kept_mem up (sides ts) (edge_up ts (closed_sided V ts closed) (side i j) m)).0 in
      let a = side_link ts h in
      let b = side_link ts (closed.both_ways (side i j) h) in
      ((closed.fits i j a.0 a.1).0, (closed.fits j i b.0 b.1).0)

  key_small : (ks : List ℕ) → key_sides ks ≡ edges ts → (e : ℕ) → e < length ks → (get_or ks e 0 / 16384 < V) × (get_or ks e 0 % 16384 < V)
  key_small ks listed e l = edge_small (key_side (get_or ks e 0)) (subst (Mem (key_side (get_or ks e 0))) listed (mem_map key_side (at_mem ks e l)))

  pub ends_below : (ks : List ℕ) → key_sides ks ≡ edges ts → EndsBelow V ks
  ends_below ks listed = record { low = λ e l. (key_small ks listed e l).0; high = λ e l. (key_small ks listed e l).1 }

  pub few_keys : (ks : List ℕ) → key_sides ks ≡ edges ts → length ts ≤ 32768 → length ks < 65536
  few_keys ks listed h =
      let e = edges_half ts (closed_sided V ts closed) in let n = length-map ks key_side in let m = ap length listed in omega arith

  module _ (bs : List Bool) where
    few_trees : length (trees V (marked_of ts bs)) ≤ length (marked_of ts bs)
    few_trees =
        let a = one_each (λ k. length (tree_edges (marked_of ts bs) k)) (trees V (marked_of ts bs)) (λ k m. (tree_some V (marked_of ts bs) k m).1) in
        let b = trees_summed V (marked_of ts bs) (λ s m. (marks_small V ts bs closed s m).0) in omega arith

    ours_small : (s : Side) → Ours (marked_of ts bs) s → start s < V
    ours_small (side u v) (inl m) = (marks_small V ts bs closed (side u v) m).0
    ours_small (side u v) (inr m) = (marks_small V ts bs closed (side v u) m).1

    roots_low : V ≤ 16384 → (rs : List ℕ) → key_sides rs ≡ map (root (marked_of ts bs)) (trees V (marked_of ts bs)) → (i : ℕ) → i < length rs → get_or rs i 0 < 268435456
    roots_low few rs e =
        keys_low (root (marked_of ts bs)) rs (trees V (marked_of ts bs)) e
        (λ k m. let a = ours_small (root (marked_of ts bs) k) (root_mem (marked_of ts bs) k (tree_some V (marked_of ts bs) k m).1).0 in omega arith)

    -- the tables of the edges, of their marks, and of the trees
    module _ (ks ns : List ℕ) (listed : key_sides ks ≡ edges ts) (flags : flags_of ns ≡ bs) (W : ℕ) (is : W ≡ V) where
      abbrev ms : List Side
      ms = marked_of ts bs

      marked_same : marked ks ns ≡ ms
      marked_same = ap (λ es. marked_edges es (flags_of ns)) listed ∙ ap (marked_edges (edges ts)) flags

      pub few_marks : length ts ≤ 32768 → length ms < 65536
      few_marks h = let a = few_keys ks listed h in let b = marked_le ks ns in let c = ap length marked_same in omega arith

      pub by_trees : {X : Type 0} (f : List Side → ℕ → X) → map (f (marked ks ns)) (trees W (marked ks ns)) ≡ map (f ms) (trees V ms)
      by_trees f = ap (λ es. map (f es) (trees W es)) marked_same ∙ ap (λ n. map (f ms) (trees n ms)) is

      module _ (rs : List ℕ) (rooted : key_sides rs ≡ map (root (marked ks ns)) (trees W (marked ks ns))) where
        pub roots_told : key_sides rs ≡ map (root ms) (trees V ms)
        roots_told = rooted ∙ by_trees root

        pub few_roots : length rs ≤ length ms
        few_roots =
            let a = few_trees in let b = ap length roots_told in
            let c = length-map rs key_side in let d = length-map (trees V ms) (root ms) in omega arith

        pub low_roots : V ≤ 16384 → (i : ℕ) → i < length rs → get_or rs i 0 < 268435456
        low_roots few = roots_low few rs roots_told

        pub mirrors_told : (bs' : List Bool) → bs' ≡ map (against ts) (key_sides rs) → bs' ≡ map (mirrored ts ms) (trees V ms)
        mirrors_told bs' e = e ∙ ap (map (against ts)) roots_told ∙ both (trees V ms)
          where
            both : (ks : List ℕ) → map (against ts) (map (root ms) ks) ≡ map (mirrored ts ms) ks
            both [] = refl
            both (k ∷ ks) = ap (λ xs. against ts (root ms k) ∷ xs) (both ks)
