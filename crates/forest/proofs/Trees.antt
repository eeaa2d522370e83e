-- A tree has one vertex more than edges.
use Rattle.std.proofs.Common.{◌≡◌, ℕ, ◌+◌, ◌<◌, ◌≤◌, Bool, true, eqb, List, map, length, filter, sym, refl, ap, ◌∙◌, subst, inl, inr, ⊎_elim, arith, eq-eqb, eqb-true}
use Rattle.mesh.specs.Lists.{Mem}
use Rattle.mesh.specs.Sides.{Side, side}
use Rattle.mesh.specs.Edges.{two_way}
use Rattle.mesh.specs.Closed.{Closed}
use Rattle.forest.specs.Trees.{label, own, tree_edges, below, trees, start, loop_free}
use Rattle.forest.specs.Splitting.{marked_of}
use Rattle.forest.specs.Theorems.{sum, TreeCounted}
use Rattle.mesh.proofs.Members.{apart_le, kept_mem, mem_kept, kept_apart, mem_eq, same_length}
use Rattle.forest.proofs.Labels.{label_edge, Ours, of_mem, below_apart, mem_below, trees_apart, tree_some, tree_there, first_of, ours_two, two_apart, two_ours}
use Rattle.forest.proofs.Vertices.{Touched, decided, decided_true, true_decided, touched_counted, label_alone, label_from}
use Rattle.forest.proofs.Marking.{touched_dec}
use Rattle.forest.proofs.Leaves.{more_touched, free_part}
use Rattle.forest.proofs.Means.{trees_summed}
use Rattle.forest.proofs.Checking.{marks_apart, marks_edges, marks_rising, marks_small}
use Rattle.forest.proofs.Summing.{sum_plus, sum_tight, summed}

pub tree_counted : TreeCounted
tree_counted V ts bs forest k m =
    same_length (kept_apart (λ v. eqb (label ms v) k) (below_apart V)) (kept_apart (λ v. eqb (label ms v) k) (kept_apart t (below_apart V))) to from
    ∙ sum_tight (λ k. length (tree_edges ms k) + 1) (λ k. length (filter (λ v. eqb (label ms v) k) xs)) (trees V ms) least total k m
  where
    ms : List Side
    ms = marked_of ts bs

    closed : Closed V ts
    closed = forest.0

    free : loop_free own ms ≡ true
    free = forest.1

    t : ℕ → Bool
    t v = decided (touched_dec ms v)

    xs : List ℕ
    xs = filter t (below V)

    ours_small : (s : Side) → Ours ms s → start s < V
    ours_small (side u v) m = let l = marks_edges V ts bs closed u v m in (closed.fits u v l.0 l.1).0

    counted : length xs ≡ length ms + length (trees V ms)
    counted = touched_counted V ms (two_way ms) (touched_dec ms) ours_small free (marks_apart V ts bs closed) (marks_rising V ts bs closed) (two_apart ms (marks_apart V ts bs closed) (marks_rising V ts bs closed)) (two_ours ms) (ours_two ms)

    in_trees : (v : ℕ) → Mem v xs → Mem (label ms v) (trees V ms)
    in_trees v q = let r = kept_mem t (below V) q in let x = decided_true (touched_dec ms v) r.1 in tree_there V ms (side v x.0) x.1 (mem_below V v r.0)

    total : sum (map (λ k. length (filter (λ v. eqb (label ms v) k) xs)) (trees V ms)) ≤ sum (map (λ k. length (tree_edges ms k) + 1) (trees V ms))
    total =
        let a = summed (label ms) (trees_apart V ms) xs in_trees in
        let b = sum_plus (λ k. length (tree_edges ms k)) (trees V ms) in
        let c = trees_summed V ms (λ s m. (marks_small V ts bs closed s m).0) in
        let d = counted in omega arith

    tree_touch : (k v : ℕ) → Touched (tree_edges ms k) v → Touched ms v × (label ms v ≡ k)
    tree_touch k v (x, inl q) = let r = of_mem ms k (side v x) q in ((x, inl r.0), r.1)
    tree_touch k v (x, inr q) = let r = of_mem ms k (side x v) q in ((x, inr r.0), label_edge ms v x (inr r.0) ∙ r.1)

    least : (k : ℕ) → Mem k (trees V ms) → length (tree_edges ms k) + 1 ≤ length (filter (λ v. eqb (label ms v) k) xs)
    least k m =
        let s = first_of (tree_edges ms k) (tree_some V ms k m).1 in
        let a = more_touched V (tree_edges ms k) (λ s m. marks_small V ts bs closed s (of_mem ms k s m).0) (free_part (λ m. eqb (label ms (start m)) k) own own (λ v w e. e) ms free) (touched_dec (tree_edges ms k)) s.0 s.1 in
        let b = apart_le (λ z. z) (λ x z e. e) (filter (λ v. eqb (label ms v) k) xs) (kept_apart (λ v. decided (touched_dec (tree_edges ms k) v)) (below_apart V))
        (λ v q. let r = kept_mem (λ v. decided (touched_dec (tree_edges ms k) v)) (below V) q in let u = tree_touch k v (decided_true (touched_dec (tree_edges ms k) v) r.1) in
        mem_kept (λ v. eqb (label ms v) k) (mem_kept t r.0 (true_decided (touched_dec ms v) u.0)) (eq-eqb (label ms v) k u.1)) in
        omega arith

    -- a vertex of a tree's label is touched
    labelled : (v : ℕ) → label ms v ≡ k → Touched ms v
    labelled v e = go (touched_dec ms v)
      where
        go : Dec (Touched ms v) → Touched ms v
        go (yes x) = x
        go (no n) =
            let a = label_alone own ms v n refl (λ w e. e) in
            let s = first_of (tree_edges ms k) (tree_some V ms k m).1 in
            let r = of_mem ms k s.0 s.1 in
            absurd (n (root_touched s.0 r.0 (r.1 ∙ sym e ∙ a)))
          where
            root_touched : (s : Side) → Mem s ms → label ms (start s) ≡ v → Touched ms v
            root_touched (side x y) q i = ⊎_elim (λ h. (y, inl (mem_eq (ap (λ z. side z y) (sym i ∙ h)) q))) (λ h. subst (λ (z : ℕ). Touched ms z) (sym h.2 ∙ i) h.1) (label_from own ms x)

    to : (v : ℕ) → Mem v (filter (λ v. eqb (label ms v) k) (below V)) → Mem v (filter (λ v. eqb (label ms v) k) xs)
    to v q = let r = kept_mem (λ v. eqb (label ms v) k) (below V) q in mem_kept (λ v. eqb (label ms v) k) (mem_kept t r.0 (true_decided (touched_dec ms v) (labelled v (eqb-true (label ms v) k r.1)))) r.1

    from : (v : ℕ) → Mem v (filter (λ v. eqb (label ms v) k) xs) → Mem v (filter (λ v. eqb (label ms v) k) (below V))
    from v q = let r = kept_mem (λ v. eqb (label ms v) k) xs q in mem_kept (λ v. eqb (label ms v) k) (kept_mem t (below V) r.0).0 r.1
