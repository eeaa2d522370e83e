-- A tree has a leaf, so that its root is the lowest of them.
use Rattle.std.proofs.Common.{◌≡◌, ℕ, suc, ◌+◌, ◌*◌, ◌<◌, ◌≤◌, min, max, Bool, true, false, cond, not, ◌&&◌, ◌||◌, eqb, ltb, ◌⊎◌, List, [], ◌∷◌, map, length, filter, sym, refl, ap, ◌∙◌, subst, inl, inr, ⊎_elim, arith, ltb-false, ltb-true, eq-eqb, ne_eqb, eqb-true}
use borrow.Author.Tests.{eqb-false, not-true, not-false, clash}
use Rattle.std.proofs.lemmas.List.Filters.{length-filter_both}
use Rattle.std.proofs.lemmas.List.{length-append}
use Rattle.std.proofs.lemmas.List.Elements.{filter-append}
use Rattle.std.proofs.lemmas.Bool.{and_parts, and_from, or_cases, or_parts}
use Rattle.mesh.specs.Lists.{Mem, now, later, Apart, no_one, one_more}
use Rattle.mesh.specs.Sides.{Side, side, back}
use Rattle.mesh.specs.Edges.{two_way}
use Rattle.forest.specs.Trees.{merged, own, label, loop_free, start, end, tree_edges, below, trees}
use Rattle.forest.specs.Roots.{touches, leaf, better, best, root_of, root}
use Rattle.mesh.proofs.Members.{mem_cases, apart_le, kept_mem, mem_kept, kept_apart, mem_left, mem_right, mem_map, mem_eq, same_length}
use Rattle.forest.proofs.Labels.{label_edge, tree_some, root_mem, InTree, of_mem, below_mem, below_apart, length_below, tree_side, side_tree, two_way_length, first_of}
use Rattle.forest.proofs.Vertices.{Touched, labels_counted, label_alone, label_from, labels_still, merged_cases, Fixed, decided, decided_true, decided_false}
use Rattle.forest.proofs.Marking.{touched_dec}
use Rattle.forest.proofs.Summing.{kept_others, labelled}

-- Fewer merges tell more apart

abbrev pub Finer : (ℕ → ℕ) → (ℕ → ℕ) → Type 0
Finer k l = (v w : ℕ) → k v ≡ k w → l v ≡ l w

module _ (a b : ℕ) where
  -- what a merge brings together: the same before, or both one of the two
  pub merged_apart : (x y : ℕ) → merged a b x ≡ merged a b y → (x ≡ y) ⊎ (((x ≡ a) ⊎ (x ≡ b)) × ((y ≡ a) ⊎ (y ≡ b)))
  merged_apart x y e = go (merged_cases a b x) (merged_cases a b y)
    where
      go : ((x ≡ max a b) × (merged a b x ≡ min a b)) ⊎ ((x ≡ max a b → ⊥) × (merged a b x ≡ x)) → ((y ≡ max a b) × (merged a b y ≡ min a b)) ⊎ ((y ≡ max a b → ⊥) × (merged a b y ≡ y)) → (x ≡ y) ⊎ (((x ≡ a) ⊎ (x ≡ b)) × ((y ≡ a) ⊎ (y ≡ b)))
      go (inl h) (inl k) = inl (h.0 ∙ sym k.0)
      go (inl h) (inr k) = let p = h.0 in let q : y ≡ min a b = sym k.1 ∙ sym e ∙ h.1 in inr (grind arith, grind arith)
      go (inr h) (inl k) = let p = k.0 in let q : x ≡ min a b = sym h.1 ∙ e ∙ k.1 in inr (grind arith, grind arith)
      go (inr h) (inr k) = inl (sym h.1 ∙ e ∙ k.1)

  merged_either : (x : ℕ) → (x ≡ a) ⊎ (x ≡ b) → merged a b x ≡ min a b
  merged_either x h = ⊎_elim (λ k. k.1) (λ k. let n = k.0 in let e = k.1 in let r : x ≡ min a b = go h n in e ∙ r) (merged_cases a b x)
    where
      go : (x ≡ a) ⊎ (x ≡ b) → (x ≡ max a b → ⊥) → x ≡ min a b
      go (inl e) n = omega arith
      go (inr e) n = omega arith

pub finer_both : (k l : ℕ → ℕ) → Finer k l → (i j : ℕ) → Finer (λ v. merged (k i) (k j) (k v)) (λ v. merged (l i) (l j) (l v))
finer_both k l f i j v w e = go (merged_apart (k i) (k j) (k v) (k w) e)
  where
    one : (z : ℕ) → (k z ≡ k i) ⊎ (k z ≡ k j) → merged (l i) (l j) (l z) ≡ min (l i) (l j)
    one z h = merged_either (l i) (l j) (l z) (⊎_elim (λ e. inl (f z i e)) (λ e. inr (f z j e)) h)

    go : (k v ≡ k w) ⊎ (((k v ≡ k i) ⊎ (k v ≡ k j)) × ((k w ≡ k i) ⊎ (k w ≡ k j))) → merged (l i) (l j) (l v) ≡ merged (l i) (l j) (l w)
    go (inl h) = ap (merged (l i) (l j)) (f v w h)
    go (inr h) = one v h.0 ∙ sym (one w h.1)

pub finer_one : (k l : ℕ → ℕ) → Finer k l → (i j : ℕ) → Finer k (λ v. merged (l i) (l j) (l v))
finer_one k l f i j v w e = ap (merged (l i) (l j)) (f v w e)

pub free_part : (p : Side → Bool) (k l : ℕ → ℕ) → Finer k l → (ms : List Side) → loop_free l ms ≡ true → loop_free k (filter p ms) ≡ true
free_part p k l f [] e = refl
free_part p k l f (side i j ∷ ms) e =
    let h = and_parts (not (eqb (l i) (l j))) (loop_free (λ v. merged (l i) (l j) (l v)) ms) e in
    let n = eqb-false (l i) (l j) (not-true (eqb (l i) (l j)) h.0) in
    go (p (side i j)) n (free_part p (λ v. merged (k i) (k j) (k v)) (λ v. merged (l i) (l j) (l v)) (finer_both k l f i j) ms h.1) (free_part p k (λ v. merged (l i) (l j) (l v)) (finer_one k l f i j) ms h.1)
  where
    go : (b : Bool) → (l i ≡ l j → ⊥) → loop_free (λ v. merged (k i) (k j) (k v)) (filter p ms) ≡ true → loop_free k (filter p ms) ≡ true → loop_free k (cond b (side i j ∷ filter p ms) (filter p ms)) ≡ true
    go true n x y = and_from (not (eqb (k i) (k j))) (loop_free (λ v. merged (k i) (k j) (k v)) (filter p ms)) (ap not (ne_eqb (k i) (k j) (λ e. n (f i j e)))) x
    go false n x y = y

-- The sides that leave a vertex

-- the side leaves v
abbrev from : ℕ → Side → Bool
from v s = labelled start v s

-- the sides that leave v are the marked edges at v
pub degree : (v : ℕ) (ms : List Side) → ((s : Side) → Mem s ms → start s < end s) → length (filter (from v) (two_way ms)) ≡ length (filter (touches v) ms)
degree v ms rising = ap length (filter-append (from v) ms (map back ms)) ∙ length-append (filter (from v) ms) (filter (from v) (map back ms)) ∙ sum ms rising
  where
    sum : (ms : List Side) → ((s : Side) → Mem s ms → start s < end s) → length (filter (from v) ms) + length (filter (from v) (map back ms)) ≡ length (filter (touches v) ms)
    sum [] r = refl
    sum (side i j ∷ ms) r = go (eqb i v) (eqb j v) refl refl (r (side i j) now) (sum ms (λ s m. r s (later m)))
      where
        go : (a b : Bool) → eqb i v ≡ a → eqb j v ≡ b → i < j → length (filter (from v) ms) + length (filter (from v) (map back ms)) ≡ length (filter (touches v) ms)
            → length (cond a (side i j ∷ filter (from v) ms) (filter (from v) ms)) + length (cond b (side j i ∷ filter (from v) (map back ms)) (filter (from v) (map back ms))) ≡ length (cond (a || b) (side i j ∷ filter (touches v) ms) (filter (touches v) ms))
        go true true x y h e = let p = eqb-true i v x in let q = eqb-true j v y in absurd (omega arith)
        go true false x y h e = omega arith
        go false true x y h e = omega arith
        go false false x y h e = e

-- vertices that two sides leave are at most half as many as the sides
pub two_each : {vs : List ℕ} → Apart vs → (xs : List Side) → ((v : ℕ) → Mem v vs → 2 ≤ length (filter (from v) xs)) → 2 * length vs ≤ length xs
two_each no_one xs f = omega arith
two_each (one_more {x = v} {xs = vs} n a) xs f =
    let h = two_each a (filter (λ s. not (from v s)) xs) (λ w m. let e = kept_others start v w (λ i. n (mem_eq (sym i) m)) xs in let k = f w (later m) in omega arith) in
    let k = f v now in
    let e = length-filter_both (from v) (λ s. not (from v s)) (λ s. refl) xs in
    omega arith

kept_sub : (p q : Side → Bool) (ms : List Side) → ((s : Side) → Mem s ms → p s ≡ true → q s ≡ true) → length (filter p (filter q ms)) ≡ length (filter p ms)
kept_sub p q [] f = refl
kept_sub p q (x ∷ xs) f = go (q x) (p x) refl refl (f x now) (kept_sub p q xs (λ s m. f s (later m)))
  where
    go : (a b : Bool) → q x ≡ a → p x ≡ b → (p x ≡ true → q x ≡ true) → length (filter p (filter q xs)) ≡ length (filter p xs)
        → length (filter p (cond a (x ∷ filter q xs) (filter q xs))) ≡ length (cond b (x ∷ filter p xs) (filter p xs))
    go true b i j h e = rw j (inner b e)
      where
        inner : (b : Bool) → length (filter p (filter q xs)) ≡ length (filter p xs) → length (cond b (x ∷ filter p (filter q xs)) (filter p (filter q xs))) ≡ length (cond b (x ∷ filter p xs) (filter p xs))
        inner true e = ap suc e
        inner false e = e
    go false true i j h e = absurd (clash (sym i ∙ h j))
    go false false i j h e = e

mem_some_length : {A : Type 0} {z : A} {xs : List A} → Mem z xs → 1 ≤ length xs
mem_some_length now = omega arith
mem_some_length (later m) = let h = mem_some_length m in omega arith

-- the touched vertices are more than the edges
module _ (V : ℕ) (ms : List Side) (small : (s : Side) → Mem s ms → (start s < V) × (end s < V)) (free : loop_free own ms ≡ true) where
  all_own : length (filter (Fixed own) (below V)) ≡ length (below V)
  all_own = same_length (kept_apart (Fixed own) (below_apart V)) (below_apart V) (λ z m. (kept_mem (Fixed own) (below V) m).0) (λ z m. mem_kept (Fixed own) m (eq-eqb z z refl))

  touched_small : (v : ℕ) → Touched ms v → v < V
  touched_small v (x, inl m) = (small (side v x) m).0
  touched_small v (x, inr m) = (small (side x v) m).1

  pub more_touched : (t : (v : ℕ) → Dec (Touched ms v)) → (s : Side) → Mem s ms → length ms + 1 ≤ length (filter (λ v. decided (t v)) (below V))
  more_touched t (side a b) m =
      let f = labels_counted V own ms (λ v. refl) (λ v. omega arith) small free in
      let i = all_own in let j = length_below V in
      let k = length-filter_both (λ v. decided (t v)) (λ v. not (decided (t v))) (λ v. refl) (below V) in
      let e = apart_le (λ z. z) (λ x z e. e) (filter (Fixed (label ms)) (below V)) (one_more fresh (kept_apart (λ v. not (decided (t v))) (below_apart V))) into in
      omega arith
    where
      v₀ : ℕ
      v₀ = label ms a

      v₀_touched : Touched ms v₀
      v₀_touched = ⊎_elim (λ k. subst (λ (z : ℕ). Touched ms z) (sym k) (b, inl m)) (λ k. subst (λ (z : ℕ). Touched ms z) (sym k.2) k.1) (label_from own ms a)

      fresh : Mem v₀ (filter (λ v. not (decided (t v))) (below V)) → ⊥
      fresh k = decided_false (t v₀) (kept_mem (λ v. not (decided (t v))) (below V) k).1 v₀_touched

      into : (z : ℕ) → Mem z (v₀ ∷ filter (λ v. not (decided (t v))) (below V)) → Mem z (filter (Fixed (label ms)) (below V))
      into z k = ⊎_elim (λ (e : z ≡ v₀). mem_eq e (mem_kept (Fixed (label ms)) (below_mem V v₀ (touched_small v₀ v₀_touched)) (eq-eqb (label ms v₀) v₀ (labels_still own ms (λ v. refl) a))))
          (λ k. let r = kept_mem (λ v. not (decided (t v))) (below V) k in mem_kept (Fixed (label ms)) r.0 (eq-eqb (label ms z) z (label_alone own ms z (decided_false (t z) r.1) refl (λ w e. e)))) (mem_cases k)

any_leaf : (ms ss : List Side) → ((s : Side) × Mem s ss × (leaf ms (start s) ≡ true)) ⊎ ((s : Side) → Mem s ss → leaf ms (start s) ≡ false)
any_leaf ms [] = inr (λ s m. elim m [ ])
any_leaf ms (s ∷ ss) = go (leaf ms (start s)) refl (any_leaf ms ss)
  where
    go : (b : Bool) → leaf ms (start s) ≡ b → ((r : Side) × Mem r ss × (leaf ms (start r) ≡ true)) ⊎ ((r : Side) → Mem r ss → leaf ms (start r) ≡ false) → ((r : Side) × Mem r (s ∷ ss) × (leaf ms (start r) ≡ true)) ⊎ ((r : Side) → Mem r (s ∷ ss) → leaf ms (start r) ≡ false)
    go true e h = inl (s, now, e)
    go false e (inl h) = inl (h.0, later h.1, h.2)
    go false e (inr h) = inr (λ r m. ⊎_elim (λ (i : r ≡ s). ap (λ z. leaf ms (start z)) i ∙ e) (λ k. h r k) (mem_cases m))

pub touch_start : (v : ℕ) (s : Side) → touches v s ≡ true → (start s ≡ v) ⊎ (end s ≡ v)
touch_start v (side i j) e = ⊎_elim (λ k. inl (eqb-true i v k)) (λ k. inr (eqb-true j v k)) (or_cases (eqb i v) (eqb j v) e)

module _ (V : ℕ) (ms : List Side) (small : (s : Side) → Mem s ms → (start s < V) × (end s < V)) (free : loop_free own ms ≡ true) (rising : (s : Side) → Mem s ms → start s < end s) (k : ℕ) where
  in_label : (s : Side) → Mem s ms → (v : ℕ) → touches v s ≡ true → label ms v ≡ k → eqb (label ms (start s)) k ≡ true
  in_label (side i j) m v e l = eq-eqb (label ms i) k (⊎_elim (λ h. ap (label ms) h ∙ l) (λ h. label_edge ms i j (inl m) ∙ ap (label ms) h ∙ l) (touch_start v (side i j) e))

  same_degree : (v : ℕ) → label ms v ≡ k → length (filter (touches v) (tree_edges ms k)) ≡ length (filter (touches v) ms)
  same_degree v l = kept_sub (touches v) (λ m. eqb (label ms (start m)) k) ms (λ s m e. in_label s m v e l)

  part_rising : (s : Side) → Mem s (tree_edges ms k) → start s < end s
  part_rising s m = rising s (of_mem ms k s m).0

  part_side : (v : ℕ) → Touched (tree_edges ms k) v → (x : ℕ) × Mem (side v x) (two_way (tree_edges ms k))
  part_side v (x, inl m) = (x, mem_left (map back (tree_edges ms k)) m)
  part_side v (x, inr m) = (x, mem_right (tree_edges ms k) (mem_map back m))

  pub leaf_there : (s : Side) → Mem s (tree_edges ms k) → (r : Side) × Mem r (two_way (tree_edges ms k)) × (leaf ms (start r) ≡ true)
  leaf_there s m = ⊎_elim (λ h. h) (λ h. absurd (none h)) (any_leaf ms (two_way (tree_edges ms k)))
    where
      t : (v : ℕ) → Dec (Touched (tree_edges ms k) v)
      t v = touched_dec (tree_edges ms k) v

      none : ((r : Side) → Mem r (two_way (tree_edges ms k)) → leaf ms (start r) ≡ false) → ⊥
      none f =
          let a = more_touched V (tree_edges ms k) (λ s m. small s (of_mem ms k s m).0) (free_part (λ m. eqb (label ms (start m)) k) own own (λ v w e. e) ms free) t s m in
          let b = two_each (kept_apart (λ v. decided (t v)) (below_apart V)) (two_way (tree_edges ms k)) each in
          let c = two_way_length ms (tree_edges ms k) in
          omega arith
        where
          each : (v : ℕ) → Mem v (filter (λ v. decided (t v)) (below V)) → 2 ≤ length (filter (from v) (two_way (tree_edges ms k)))
          each v q =
              let x = part_side v (decided_true (t v) (kept_mem (λ v. decided (t v)) (below V) q).1) in
              let l = (tree_side ms k (side v x.0) x.1).1 in
              let d = degree v (tree_edges ms k) part_rising in
              let e = same_degree v l in
              let n = eqb-false (length (filter (touches v) ms)) 1 (f (side v x.0) x.1) in
              let p = mem_some_length (mem_kept (from v) x.1 (eq-eqb v v refl)) in
              omega arith

-- the best side is the lowest leaf's
abbrev Low : List Side → Side → Side → Type 0
Low ms r t = (leaf ms (start r) ≡ true) × (start r ≤ start t)

best_low : (ms : List Side) (s : Side) (ss : List Side) → (leaf ms (start s) ≡ true → Low ms (best ms s ss) s) × ((t : Side) → Mem t ss → leaf ms (start t) ≡ true → Low ms (best ms s ss) t)
best_low ms s [] = (λ e. (e, omega arith), λ t m. elim m [ ])
best_low ms s (t ∷ ss) = go (better ms s t) refl (best_low ms s ss) (best_low ms t ss)
  where
    go : (b : Bool) → better ms s t ≡ b → (leaf ms (start s) ≡ true → Low ms (best ms s ss) s) × ((t : Side) → Mem t ss → leaf ms (start t) ≡ true → Low ms (best ms s ss) t)
        → (leaf ms (start t) ≡ true → Low ms (best ms t ss) t) × ((r : Side) → Mem r ss → leaf ms (start r) ≡ true → Low ms (best ms t ss) r)
        → (leaf ms (start s) ≡ true → Low ms (best ms (cond b t s) ss) s) × ((r : Side) → Mem r (t ∷ ss) → leaf ms (start r) ≡ true → Low ms (best ms (cond b t s) ss) r)
    go true e x y =
        let a = and_parts (leaf ms (start t)) (not (leaf ms (start s)) || ltb (start t) (start s)) e in
        let low = y.0 a.0 in (
          λ i. (low.0, ⊎_elim (λ j. absurd (clash (sym (not-true (leaf ms (start s)) j) ∙ i))) (λ j. let q = ltb-true (start t) (start s) j in omega (arith, low.1)) (or_cases (not (leaf ms (start s))) (ltb (start t) (start s)) a.1)),
          λ r m i. ⊎_elim (λ (j : r ≡ t). subst (Low ms (best ms t ss)) (sym j) low) (λ k. y.1 r k i) (mem_cases m),
        )
    go false e x y = (x.0, λ r m i. ⊎_elim (λ (j : r ≡ t). subst (Low ms (best ms s ss)) (sym j) (head (ap (λ z. leaf ms (start z)) (sym j) ∙ i))) (λ k. x.1 r k i) (mem_cases m))
      where
        head : leaf ms (start t) ≡ true → Low ms (best ms s ss) t
        head i =
            let a : (not (leaf ms (start s)) || ltb (start t) (start s)) ≡ false = second (leaf ms (start t)) (not (leaf ms (start s)) || ltb (start t) (start s)) e i in
            let b = or_parts (not (leaf ms (start s))) (ltb (start t) (start s)) a in
            let low = x.0 (not-false (leaf ms (start s)) b.0) in
            let q = ltb-false (start t) (start s) b.1 in
            (low.0, omega (arith, low.1))
          where
            second : (a b : Bool) → (a && b) ≡ false → a ≡ true → b ≡ false
            second true b e i = e
            second false b e i = absurd (clash i)

root_low : (ms ss : List Side) (t : Side) → Mem t ss → leaf ms (start t) ≡ true → Low ms (root_of ms ss) t
root_low ms [] t m e = elim m [ ]
root_low ms (s ∷ ss) t m e = ⊎_elim (λ (i : t ≡ s). subst (Low ms (best ms s ss)) (sym i) ((best_low ms s ss).0 (ap (λ z. leaf ms (start z)) (sym i) ∙ e))) (λ k. (best_low ms s ss).1 t k e) (mem_cases m)

-- the root is a leaf of its tree, and the lowest
pub root_lowest : (V : ℕ) (ms : List Side) → ((s : Side) → Mem s ms → (start s < V) × (end s < V)) → loop_free own ms ≡ true → ((s : Side) → Mem s ms → start s < end s) → (k : ℕ) → Mem k (trees V ms)
    → InTree ms k (root ms k) × (leaf ms (start (root ms k)) ≡ true) × ((s : Side) → InTree ms k s → leaf ms (start s) ≡ true → start (root ms k) ≤ start s)
root_lowest V ms small free rising k m =
    let h = (tree_some V ms k m).1 in
    let s = first_of (tree_edges ms k) h in
    let r = leaf_there V ms small free rising k s.0 s.1 in
    (root_mem ms k h, (root_low ms (two_way (tree_edges ms k)) r.0 r.1 r.2).0, λ t p e. (root_low ms (two_way (tree_edges ms k)) t (side_tree ms k t p) e).1)
