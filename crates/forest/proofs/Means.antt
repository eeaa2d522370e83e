-- What labels, roots and trees mean.
use Rattle.std.proofs.Common.{◌≡◌, ℕ, zero, suc, ◌<◌, ◌≤◌, min, max, Bool, true, false, cond, ◌⊎◌, List, [], ◌∷◌, ◌++◌, length, filter, sym, refl, ap, ◌∙◌, inl, inr, ⊎_elim, arith, eqb-true}
use Rattle.mesh.specs.Lists.{Mem, now, later}
use Rattle.mesh.specs.Sides.{Side, side}
use Rattle.mesh.specs.Rings.{Walk, stop, step}
use Rattle.forest.specs.Marks.{Marked}
use Rattle.forest.specs.Trees.{merged, labels, own, label, start, end, below, some, tree_edges}
use Rattle.forest.specs.Roots.{touches, leaf, root}
use Rattle.forest.specs.Splitting.{marked_of}
use Rattle.forest.specs.Theorems.{LabelsMeant, TreesSummed, Rising, RootLowest, TreesOrdered}
use Rattle.mesh.proofs.Members.{mem_cases, kept_mem, mem_kept, mem_eq, mem_split}
use Rattle.mesh.proofs.Walks.{walk_append, walk_start, walk_end}
use Rattle.forest.proofs.Rings.{walk_back}
use Rattle.forest.proofs.Labels.{label_edge, label_le, InTree, trees_apart, tree_there, mem_below, of_mem, tree_some}
use Rattle.forest.proofs.Marking.{marked_back}
use Rattle.forest.proofs.Vertices.{merged_cases, labels_still}
use Rattle.forest.proofs.Leaves.{root_lowest, touch_start}
use Rattle.forest.proofs.Checking.{marks_rising, marks_small}
use Rattle.forest.proofs.Summing.{summed}

-- what labels mean
module _ (M : ℕ → ℕ → Type 0) (even : (v w : ℕ) → M v w → M w v) where
  walks_back : {v w : ℕ} → Walk M v w → Walk M w v
  walks_back r = walk_back even r

  pub labels_walk : (l : ℕ → ℕ) (ms : List Side) → ((s : Side) → Mem s ms → M (start s) (end s)) → ((v : ℕ) → Walk M v (l v)) → (v : ℕ) → Walk M v (labels l ms v)
  labels_walk l [] h f v = f v
  labels_walk l (side i j ∷ ms) h f v = labels_walk (λ v. merged (l i) (l j) (l v)) ms (λ s m. h s (later m)) merged_walk v
    where
      across : Walk M (l i) (l j)
      across = walk_append (walks_back (f i)) (step (h (side i j) now) (f j))

      between : (x y : ℕ) → (x ≡ l i) ⊎ (x ≡ l j) → (y ≡ l i) ⊎ (y ≡ l j) → Walk M x y
      between x y (inl a) (inl b) = walk_start (a ∙ sym b) stop
      between x y (inl a) (inr b) = walk_start a (walk_end (sym b) across)
      between x y (inr a) (inl b) = walk_start a (walk_end (sym b) (walks_back across))
      between x y (inr a) (inr b) = walk_start (a ∙ sym b) stop

      low : (min (l i) (l j) ≡ l i) ⊎ (min (l i) (l j) ≡ l j)
      low = grind arith

      high : (max (l i) (l j) ≡ l i) ⊎ (max (l i) (l j) ≡ l j)
      high = grind arith

      merged_walk : (v : ℕ) → Walk M v (merged (l i) (l j) (l v))
      merged_walk v = ⊎_elim
          (λ k. walk_append (f v) (walk_start k.0 (walk_end (sym k.1) (between (max (l i) (l j)) (min (l i) (l j)) high low))))
          (λ k. walk_end (sym k.1) (f v)) (merged_cases (l i) (l j) (l v))

walk_label : (ms : List Side) {v w : ℕ} → Walk (Marked ms) v w → label ms v ≡ label ms w
walk_label ms stop = refl
walk_label ms (step {x} {y} m r) = label_edge ms x y m ∙ walk_label ms r

pub labels_meant : LabelsMeant
labels_meant ms v w = (λ e. walk_append (to v) (walk_start e (walk_back (marked_back ms) (to w))), λ r. walk_label ms r, λ r. (let h = label_le ms w in let e = walk_label ms r in omega arith), to v)
  where
    ours : (s : Side) → Mem s ms → Marked ms (start s) (end s)
    ours (side i j) m = inl m

    to : (v : ℕ) → Walk (Marked ms) v (label ms v)
    to v = labels_walk (Marked ms) (marked_back ms) own ms ours (λ v. stop) v

-- the root side of a tree
one_there : (p : Side → Bool) (ms : List Side) → length (filter p ms) ≡ 1 → (s : Side) × Mem s ms × (p s ≡ true)
one_there p ms e = go (filter p ms) (λ s m. kept_mem p ms m) e
  where
    go : (xs : List Side) → ((s : Side) → Mem s xs → Mem s ms × (p s ≡ true)) → length xs ≡ 1 → (s : Side) × Mem s ms × (p s ≡ true)
    go [] f e = absurd (omega arith)
    go (x ∷ xs) f e = (x, (f x now).0, (f x now).1)

pub root_is_lowest : RootLowest
root_is_lowest V ts bs forest k m = record { marked = r.0.0; of_tree = r.0.1; is_leaf = r.1; lowest = λ v l e. low v l e }
  where
    ms : List Side
    ms = marked_of ts bs

    r : InTree ms k (root ms k) × (leaf ms (start (root ms k)) ≡ true) × ((s : Side) → InTree ms k s → leaf ms (start s) ≡ true → start (root ms k) ≤ start s)
    r = root_lowest V ms (marks_small V ts bs forest.0) forest.1 (marks_rising V ts bs forest.0) k m

    from_v : (v : ℕ) (s : Side) → Mem s ms → touches v s ≡ true → (x : ℕ) × Marked ms v x
    from_v v (side i j) m e = ⊎_elim {C = (x : ℕ) × Marked ms v x} (λ (h : i ≡ v). (j, inl (mem_eq (ap (λ z. side z j) (sym h)) m))) (λ (h : j ≡ v). (i, inr (mem_eq (ap (λ z. side i z) (sym h)) m))) (touch_start v (side i j) e)

    low : (v : ℕ) → label ms v ≡ k → leaf ms v ≡ true → start (root ms k) ≤ v
    low v l e = let s = one_there (touches v) ms (eqb-true (length (filter (touches v) ms)) 1 e) in let x = from_v v s.0 s.1 s.2 in r.2 (side v x.0) (x.1, l) e

pub trees_summed : TreesSummed
trees_summed V ms small = summed (λ s. label ms (start s)) (trees_apart V ms) ms (λ s m. tree_there V ms s (ours s m) (small s m))
  where
    ours : (s : Side) → Mem s ms → Marked ms (start s) (end s)
    ours (side i j) m = inl m

-- the trees by their lowest vertices
rises : (p : ℕ → Bool) (n : ℕ) → Rising (filter p (below n))
rises p zero = tt
rises p (suc n) = go (below n) (λ i m. mem_below n i m) (rises p n)
  where
    last : (b : Bool) → Rising (cond b (n ∷ []) [])
    last true = (λ i m. elim m [ ], tt)
    last false = tt

    go : (xs : List ℕ) → ((i : ℕ) → Mem i xs → i < n) → Rising (filter p xs) → Rising (filter p (xs ++ (n ∷ [])))
    go [] h r = last (p n)
    go (x ∷ xs) h r = at (p x) r (λ r. go xs (λ i m. h i (later m)) r)
      where
        after_it : (i : ℕ) → Mem i (filter p (xs ++ (n ∷ []))) → Mem i (filter p xs) ⊎ (i ≡ n)
        after_it i m = let q = kept_mem p (xs ++ (n ∷ [])) m in ⊎_elim (λ k. inl (mem_kept p k q.1)) (λ k. inr (⊎_elim (λ e. e) (λ z. elim z [ ]) (mem_cases k))) (mem_split xs q.0)

        at : (b : Bool) → Rising (cond b (x ∷ filter p xs) (filter p xs)) → (Rising (filter p xs) → Rising (filter p (xs ++ (n ∷ [])))) → Rising (cond b (x ∷ filter p (xs ++ (n ∷ []))) (filter p (xs ++ (n ∷ []))))
        at true r f = (λ i m. ⊎_elim (λ k. r.0 i k) (λ (e : i ≡ n). let l = h x now in omega arith) (after_it i m), f r.1)
        at false r f = f r

pub trees_ordered : TreesOrdered
trees_ordered V ms = (rises (λ k. some (tree_edges ms k)) V, λ k m. ((tree_some V ms k m).0, own_label k (tree_edges ms k) (λ s q. (of_mem ms k s q).1) (tree_some V ms k m).1))
  where
    own_label : (k : ℕ) (es : List Side) → ((s : Side) → Mem s es → label ms (start s) ≡ k) → 0 < length es → label ms k ≡ k
    own_label k [] f h = absurd (omega arith)
    own_label k (s ∷ es) f h = let e = f s now in ap (label ms) (sym e) ∙ (labels_still own ms (λ v. refl) (start s) ∙ e)
