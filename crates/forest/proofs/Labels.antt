-- Labels of vertices, and the sides of a tree.
use Rattle.std.proofs.Common.{◌≡◌, ℕ, zero, suc, ◌*◌, ◌<◌, ◌≤◌, min, max, Bool, true, false, cond, eqb, ◌⊎◌, List, [], ◌∷◌, ◌++◌, map, length, sym, refl, ap, ◌∙◌, inl, inr, ⊎_elim, arith, length-append, eq-eqb, eqb-true}
use borrow.Author.Tests.{eqb-false, clash}
use lib.ListN.{length-map}
use Rattle.mesh.specs.Lists.{Mem, now, later, Apart, no_one, one_more}
use Rattle.mesh.specs.Sides.{Side, side, back}
use Rattle.mesh.specs.Edges.{two_way, rising}
use Rattle.forest.specs.Marks.{Marked}
use Rattle.forest.specs.Trees.{merged, labels, own, label, start, end, tree_edges, below, some, trees}
use Rattle.forest.specs.Roots.{better, best, root_of, root}
use Rattle.mesh.proofs.Members.{mem_cases, kept_mem, mem_kept, kept_apart, mem_left, mem_right, mem_split, mem_map, map_mem, apart_append, mem_eq}
use Rattle.mesh.proofs.Counting.{back_inj}

pub merged_le : (a b x : ℕ) → merged a b x ≤ x
merged_le a b x = go (eqb x (max a b)) refl
  where
    go : (c : Bool) → eqb x (max a b) ≡ c → cond c (min a b) x ≤ x
    go true e = let h = eqb-true x (max a b) e in omega arith
    go false e = omega arith

pub merged_ends : (a b : ℕ) → merged a b a ≡ merged a b b
merged_ends a b = go (eqb a (max a b)) (eqb b (max a b)) refl refl
  where
    go : (c d : Bool) → eqb a (max a b) ≡ c → eqb b (max a b) ≡ d → cond c (min a b) a ≡ cond d (min a b) b
    go true true e i = refl
    go true false e i = let h = eqb-true a (max a b) e in omega arith
    go false true e i = let h = eqb-true b (max a b) i in omega arith
    go false false e i = let h = eqb-false a (max a b) e in let k = eqb-false b (max a b) i in absurd (omega arith)

pub labels_le : (l : ℕ → ℕ) (ms : List Side) → ((v : ℕ) → l v ≤ v) → (v : ℕ) → labels l ms v ≤ v
labels_le l [] h v = h v
labels_le l (side i j ∷ ms) h v = labels_le (λ v. merged (l i) (l j) (l v)) ms (λ v. let a = merged_le (l i) (l j) (l v) in let b = h v in omega arith) v

pub labels_same : (l : ℕ → ℕ) (ms : List Side) (v w : ℕ) → l v ≡ l w → labels l ms v ≡ labels l ms w
labels_same l [] v w e = e
labels_same l (side i j ∷ ms) v w e = labels_same (λ v. merged (l i) (l j) (l v)) ms v w (ap (merged (l i) (l j)) e)

pub labels_edge : (l : ℕ → ℕ) (ms : List Side) {v w : ℕ} → Mem (side v w) ms → labels l ms v ≡ labels l ms w
labels_edge l [] m = elim m [ ]
labels_edge l (side i j ∷ ms) {v} {w} m =
    ⊎_elim (λ (e : side v w ≡ side i j). labels_same (λ v. merged (l i) (l j) (l v)) ms v w (let a : v ≡ i = cc in let b : w ≡ j = cc in rw (a, b) (merged_ends (l i) (l j))))
    (λ k. labels_edge (λ v. merged (l i) (l j) (l v)) ms k) (mem_cases m)

module _ (ms : List Side) where
  pub label_edge : (v w : ℕ) → Marked ms v w → label ms v ≡ label ms w
  label_edge v w (inl m) = labels_edge own ms m
  label_edge v w (inr m) = sym (labels_edge own ms m)

  pub label_le : (v : ℕ) → label ms v ≤ v
  label_le v = labels_le own ms (λ v. omega arith) v

  -- a marked side, in either direction
  abbrev pub Ours : Side → Type 0
  Ours s = Marked ms (start s) (end s)

  -- a side of the tree k
  abbrev pub InTree : ℕ → Side → Type 0
  InTree k s = Ours s × (label ms (start s) ≡ k)

  pub of_mem : (k : ℕ) (s : Side) → Mem s (tree_edges ms k) → Mem s ms × (label ms (start s) ≡ k)
  of_mem k s m = let h = kept_mem (λ m. eqb (label ms (start m)) k) ms m in (h.0, eqb-true (label ms (start s)) k h.1)

  pub mem_of : (k : ℕ) (s : Side) → Mem s ms → label ms (start s) ≡ k → Mem s (tree_edges ms k)
  mem_of k s m e = mem_kept (λ m. eqb (label ms (start m)) k) m (eq-eqb (label ms (start s)) k e)

  pub tree_side : (k : ℕ) (s : Side) → Mem s (two_way (tree_edges ms k)) → InTree k s
  tree_side k s m = go s (mem_split (tree_edges ms k) m)
    where
      turned : (s t : Side) → Mem t (tree_edges ms k) → s ≡ back t → InTree k s
      turned (side u v) (side x y) m e =
          let a : u ≡ y = cc in let b : v ≡ x = cc in
          let h = of_mem k (side x y) m in
          let o : Marked ms u v = inr (rw (a, b) h.0) in
          (o, label_edge u v o ∙ rw b h.1)

      go : (s : Side) → Mem s (tree_edges ms k) ⊎ Mem s (map back (tree_edges ms k)) → InTree k s
      go (side u v) (inl m) = let h = of_mem k (side u v) m in (inl h.0, h.1)
      go s (inr m) = let h = map_mem back (tree_edges ms k) m in turned s h.0 h.1 h.2

  pub side_tree : (k : ℕ) (s : Side) → InTree k s → Mem s (two_way (tree_edges ms k))
  side_tree k (side u v) (inl m, e) = mem_left (map back (tree_edges ms k)) (mem_of k (side u v) m e)
  side_tree k (side u v) (inr m, e) = mem_right (tree_edges ms k) (mem_map back (mem_of k (side v u) m (labels_edge own ms m ∙ e)))

  pub two_way_length : (es : List Side) → length (two_way es) ≡ 2 * length es
  two_way_length es = omega (arith, length-append es (map back es), length-map es back)

  -- the root's side is a side of its tree
  best_mem : (s : Side) (ss : List Side) → Mem (best ms s ss) (s ∷ ss)
  best_mem s [] = now
  best_mem s (t ∷ ss) = go (better ms s t) (best_mem s ss) (best_mem t ss)
    where
      go : (b : Bool) → Mem (best ms s ss) (s ∷ ss) → Mem (best ms t ss) (t ∷ ss) → Mem (best ms (cond b t s) ss) (s ∷ t ∷ ss)
      go true a b = later b
      go false a b = ⊎_elim (λ (e : best ms s ss ≡ s). rw e now) (λ k. later (later k)) (mem_cases a)

  pub root_mem : (k : ℕ) → 0 < length (tree_edges ms k) → InTree k (root ms k)
  root_mem k h = tree_side k (root ms k) (go (two_way (tree_edges ms k)) (let e = two_way_length (tree_edges ms k) in omega arith))
    where
      go : (ss : List Side) → 0 < length ss → Mem (root_of ms ss) ss
      go [] h = absurd (omega arith)
      go (s ∷ ss) h = best_mem s ss

-- the numbers below n
pub mem_below : (n : ℕ) (v : ℕ) → Mem v (below n) → v < n
mem_below zero v m = elim m [ ]
mem_below (suc n) v m = ⊎_elim (λ k. let h = mem_below n v k in omega arith) (λ k. ⊎_elim (λ (e : v ≡ n). omega arith) (λ k. elim k [ ]) (mem_cases k)) (mem_split (below n) m)

pub below_mem : (n : ℕ) (v : ℕ) → v < n → Mem v (below n)
below_mem zero v h = absurd (omega arith)
below_mem (suc n) v h = go (eqb v n) refl (λ k. below_mem n v k)
  where
    go : (b : Bool) → eqb v n ≡ b → (v < n → Mem v (below n)) → Mem v (below n ++ (n ∷ []))
    go true e f = mem_right (below n) (rw (eqb-true v n e) now)
    go false e f = let i = eqb-false v n e in mem_left (n ∷ []) (f (omega arith))

pub below_apart : (n : ℕ) → Apart (below n)
below_apart zero = no_one
below_apart (suc n) = apart_append (below_apart n) (one_more (λ m. elim m [ ]) no_one) (λ z m k. ⊎_elim (λ (e : z ≡ n). let h = mem_below n z m in omega arith) (λ k. elim k [ ]) (mem_cases k))

pub length_below : (n : ℕ) → length (below n) ≡ n
length_below zero = refl
length_below (suc n) = let h = length_below n in omega (arith, length-append (below n) (n ∷ []))

some_true : (ss : List Side) → some ss ≡ true → 0 < length ss
some_true [] e = absurd (clash e)
some_true (s ∷ ss) e = omega arith

mem_some : {s : Side} (ss : List Side) → Mem s ss → some ss ≡ true
mem_some [] m = elim m [ ]
mem_some (s ∷ ss) m = refl

module _ (V : ℕ) (ms : List Side) where
  pub trees_apart : Apart (trees V ms)
  trees_apart = kept_apart (λ k. some (tree_edges ms k)) (below_apart V)

  pub tree_some : (k : ℕ) → Mem k (trees V ms) → (k < V) × (0 < length (tree_edges ms k))
  tree_some k m = let h = kept_mem (λ k. some (tree_edges ms k)) (below V) m in (mem_below V k h.0, some_true (tree_edges ms k) h.1)

  pub tree_there : (s : Side) → Ours ms s → start s < V → Mem (label ms (start s)) (trees V ms)
  tree_there s o h =
      let k = label ms (start s) in
      let i = label_le ms (start s) in
      mem_kept (λ k. some (tree_edges ms k)) (below_mem V k (omega arith)) (go s (o))
    where
      go : (s : Side) → Ours ms s → some (tree_edges ms (label ms (start s))) ≡ true
      go (side u v) (inl m) = mem_some (tree_edges ms (label ms u)) (mem_of ms (label ms u) (side u v) m refl)
      go (side u v) (inr m) = mem_some (tree_edges ms (label ms u)) (mem_of ms (label ms u) (side v u) m (labels_edge own ms m))

-- both directions of the marked edges
pub first_of : (es : List Side) → 0 < length es → (s : Side) × Mem s es
first_of [] h = absurd (omega arith)
first_of (s ∷ es) h = (s, now)

pub two_apart : (es : List Side) → Apart es → ((s : Side) → Mem s es → start s < end s) → Apart (two_way es)
two_apart es a rising = apart_append a (backs a) (λ z m k. let r = map_mem back es k in out z r.0 (rising z m) (rising r.0 r.1) r.2)
  where
    backs : {xs : List Side} → Apart xs → Apart (map back xs)
    backs no_one = no_one
    backs (one_more {x} {xs} n a) = one_more (λ m. let r = map_mem back xs m in n (mem_eq (back_inj x r.0 r.2) r.1)) (backs a)

    out : (s t : Side) → start s < end s → start t < end t → s ≡ back t → ⊥
    out (side a b) (side c d) h k e = let x : a ≡ d = cc in let y : b ≡ c = cc in omega arith

module _ (ms : List Side) where
  pub ours_two : (s : Side) → Ours ms s → Mem s (two_way ms)
  ours_two (side u v) (inl m) = mem_left (map back ms) m
  ours_two (side u v) (inr m) = mem_right ms (mem_map back m)

  pub two_ours : (s : Side) → Mem s (two_way ms) → Ours ms s
  two_ours s m = ⊎_elim (λ k. plain s k) (λ k. let r = map_mem back ms k in flip s r.0 r.1 r.2) (mem_split ms m)
    where
      plain : (s : Side) → Mem s ms → Ours ms s
      plain (side u v) m = inl m

      flip : (s r : Side) → Mem r ms → s ≡ back r → Ours ms s
      flip (side a b) (side c d) m e = inr (mem_eq (let x : a ≡ d = cc in let y : b ≡ c = cc in cc) m)
