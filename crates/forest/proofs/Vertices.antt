-- How many vertices a split has.
use Rattle.std.proofs.Common.{◌≡◌, ℕ, suc, ◌+◌, ◌*◌, ◌<◌, ◌≤◌, min, max, Bool, true, false, cond, not, eqb, ◌⊎◌, List, [], ◌∷◌, ◌++◌, map, length, filter, sym, refl, ap, ◌∙◌, subst, inl, inr, ⊎_elim, arith, length-append, eq-eqb, eqb-true}
use native.Mathlib.Decide.{ℕ_discrete}
use borrow.Author.Tests.{eqb-false, not-true, clash}
use lib.ListN.{length-map}
use Rattle.std.proofs.lemmas.List.Filters.{length-filter_both}
use Rattle.std.proofs.lemmas.Bool.{and_parts}
use Rattle.mesh.specs.Lists.{Mem, now, later, Apart, no_one, one_more}
use Rattle.mesh.specs.Sides.{Side, side, back}
use Rattle.forest.specs.Marks.{Marked}
use Rattle.forest.specs.Trees.{merged, labels, own, label, loop_free, start, end, tree_edges, below, trees}
use Rattle.forest.specs.Numbering.{has, unused}
use Rattle.mesh.proofs.Members.{mem_cases, kept_mem, mem_kept, kept_apart, mem_left, mem_right, mem_split, mem_eq, apart_append, same_length}
use Rattle.forest.proofs.Labels.{merged_le, Ours, of_mem, below_mem, below_apart, length_below, trees_apart, tree_some, tree_there, ours_two, two_apart, two_ours}
use Rattle.forest.proofs.Numbers.{has_true, has_false}

-- what merging two labels does
pub merged_cases : (a b x : ℕ) → ((x ≡ max a b) × (merged a b x ≡ min a b)) ⊎ ((x ≡ max a b → ⊥) × (merged a b x ≡ x))
merged_cases a b x = go (eqb x (max a b)) refl
  where
    go : (c : Bool) → eqb x (max a b) ≡ c → ((x ≡ max a b) × (cond c (min a b) x ≡ min a b)) ⊎ ((x ≡ max a b → ⊥) × (cond c (min a b) x ≡ x))
    go true e = inl (eqb-true x (max a b) e, refl)
    go false e = inr (eqb-false x (max a b) e, refl)

abbrev pub Still : (ℕ → ℕ) → Type 0
Still l = (v : ℕ) → l (l v) ≡ l v

either_of : (a b : ℕ) → (min a b ≡ a) ⊎ (min a b ≡ b)
either_of a b = grind arith

either_max : (a b : ℕ) → (max a b ≡ a) ⊎ (max a b ≡ b)
either_max a b = grind arith

module _ (l : ℕ → ℕ) (still : Still l) (i j : ℕ) where
  low_still : l (min (l i) (l j)) ≡ min (l i) (l j)
  low_still = ⊎_elim (λ (e : min (l i) (l j) ≡ l i). ap l e ∙ still i ∙ sym e) (λ (e : min (l i) (l j) ≡ l j). ap l e ∙ still j ∙ sym e) (either_of (l i) (l j))

  high_still : l (max (l i) (l j)) ≡ max (l i) (l j)
  high_still = ⊎_elim (λ (e : max (l i) (l j) ≡ l i). ap l e ∙ still i ∙ sym e) (λ (e : max (l i) (l j) ≡ l j). ap l e ∙ still j ∙ sym e) (either_max (l i) (l j))

  merged_low : merged (l i) (l j) (min (l i) (l j)) ≡ min (l i) (l j)
  merged_low = ⊎_elim (λ h. h.1) (λ h. h.1) (merged_cases (l i) (l j) (min (l i) (l j)))

  pub merge_still : Still (λ v. merged (l i) (l j) (l v))
  merge_still v = go (merged_cases (l i) (l j) (l v))
    where
      go : ((l v ≡ max (l i) (l j)) × (merged (l i) (l j) (l v) ≡ min (l i) (l j))) ⊎ ((l v ≡ max (l i) (l j) → ⊥) × (merged (l i) (l j) (l v) ≡ l v)) → merged (l i) (l j) (l (merged (l i) (l j) (l v))) ≡ merged (l i) (l j) (l v)
      go (inl h) = ap (λ z. merged (l i) (l j) (l z)) h.1 ∙ ap (merged (l i) (l j)) low_still ∙ merged_low ∙ sym h.1
      go (inr h) = ap (λ z. merged (l i) (l j) (l z)) h.1 ∙ ap (merged (l i) (l j)) (still v)

  -- what keeps its own label: as before, but the higher of the two
  pub fixed_after : (l i ≡ l j → ⊥) → (v : ℕ) → merged (l i) (l j) (l v) ≡ v → (l v ≡ v) × (v ≡ max (l i) (l j) → ⊥)
  fixed_after apart v e = go (merged_cases (l i) (l j) (l v))
    where
      go : ((l v ≡ max (l i) (l j)) × (merged (l i) (l j) (l v) ≡ min (l i) (l j))) ⊎ ((l v ≡ max (l i) (l j) → ⊥) × (merged (l i) (l j) (l v) ≡ l v)) → (l v ≡ v) × (v ≡ max (l i) (l j) → ⊥)
      go (inl h) =
          let a : v ≡ min (l i) (l j) = sym e ∙ h.1 in
          let b : max (l i) (l j) ≡ min (l i) (l j) = sym h.0 ∙ ap l a ∙ low_still in
          absurd (apart (omega arith))
      go (inr h) = let a : l v ≡ v = sym h.1 ∙ e in (a, λ k. h.0 (a ∙ k))

  pub fixed_before : (v : ℕ) → l v ≡ v → (v ≡ max (l i) (l j) → ⊥) → merged (l i) (l j) (l v) ≡ v
  fixed_before v e n = ⊎_elim (λ h. absurd (n (sym e ∙ h.0))) (λ h. h.1 ∙ e) (merged_cases (l i) (l j) (l v))

abbrev pub Fixed : (ℕ → ℕ) → ℕ → Bool
Fixed l v = eqb (l v) v

-- each merge leaves one vertex fewer with its own label
pub labels_counted : (V : ℕ) (l : ℕ → ℕ) (ms : List Side) → Still l → ((v : ℕ) → l v ≤ v) → ((s : Side) → Mem s ms → (start s < V) × (end s < V)) → loop_free l ms ≡ true
    → length (filter (Fixed (labels l ms)) (below V)) + length ms ≡ length (filter (Fixed l) (below V))
labels_counted V l [] still low small free = omega arith
labels_counted V l (side i j ∷ ms) still low small free =
    let f = and_parts (not (eqb (l i) (l j))) (loop_free (λ v. merged (l i) (l j) (l v)) ms) free in
    let apart = eqb-false (l i) (l j) (not-true (eqb (l i) (l j)) f.0) in
    let h = labels_counted V (λ v. merged (l i) (l j) (l v)) ms (merge_still l still i j) (λ v. let a = merged_le (l i) (l j) (l v) in let b = low v in omega arith) (λ s m. small s (later m)) f.1 in
    let k = one_less apart in
    omega arith
  where
    high : max (l i) (l j) < V
    high = let a = small (side i j) now in let b = low i in let c = low j in omega (arith, a.0, a.1)

    to : (l i ≡ l j → ⊥) → (z : ℕ) → Mem z (max (l i) (l j) ∷ filter (Fixed (λ v. merged (l i) (l j) (l v))) (below V)) → Mem z (filter (Fixed l) (below V))
    to apart z m = ⊎_elim
        (λ (e : z ≡ max (l i) (l j)). mem_eq e (mem_kept (Fixed l) (below_mem V (max (l i) (l j)) high) (eq-eqb (l (max (l i) (l j))) (max (l i) (l j)) (high_still l still i j))))
        (λ k. let r = kept_mem (Fixed (λ v. merged (l i) (l j) (l v))) (below V) k in
        mem_kept (Fixed l) r.0 (eq-eqb (l z) z (fixed_after l still i j apart z (eqb-true (merged (l i) (l j) (l z)) z r.1)).0)) (mem_cases m)

    from : (z : ℕ) → Mem z (filter (Fixed l) (below V)) → Mem z (max (l i) (l j) ∷ filter (Fixed (λ v. merged (l i) (l j) (l v))) (below V))
    from z m = let r = kept_mem (Fixed l) (below V) m in go r (ℕ_discrete z (max (l i) (l j)))
      where
        go : Mem z (below V) × (Fixed l z ≡ true) → Dec (z ≡ max (l i) (l j)) → Mem z (max (l i) (l j) ∷ filter (Fixed (λ v. merged (l i) (l j) (l v))) (below V))
        go r (yes e) = mem_eq e now
        go r (no n) = later (mem_kept (Fixed (λ v. merged (l i) (l j) (l v))) r.0 (eq-eqb (merged (l i) (l j) (l z)) z (fixed_before l still i j z (eqb-true (l z) z r.1) n)))

    one_less : (l i ≡ l j → ⊥) → suc (length (filter (Fixed (λ v. merged (l i) (l j) (l v))) (below V))) ≡ length (filter (Fixed l) (below V))
    one_less apart = same_length
        (one_more (λ m. let r = kept_mem (Fixed (λ v. merged (l i) (l j) (l v))) (below V) m in (fixed_after l still i j apart (max (l i) (l j)) (eqb-true (merged (l i) (l j) (l (max (l i) (l j)))) (max (l i) (l j)) r.1)).1 refl)
        (kept_apart (Fixed (λ v. merged (l i) (l j) (l v))) (below_apart V)))
        (kept_apart (Fixed l) (below_apart V)) (to apart) from

-- which vertices keep their own label
abbrev pub Touched : List Side → ℕ → Type 0
Touched ms v = (x : ℕ) × Marked ms v x

pub touched_later : (m : Side) (ms : List Side) (v : ℕ) → Touched ms v → Touched (m ∷ ms) v
touched_later m ms v t = (t.0, ⊎_elim (λ k. inl (later k)) (λ k. inr (later k)) t.1)

-- a label is the old one, or that of an end of a marked edge
pub label_from : (l : ℕ → ℕ) (ms : List Side) (w : ℕ) → (labels l ms w ≡ l w) ⊎ ((e : ℕ) × Touched ms e × (labels l ms w ≡ l e))
label_from l [] w = inl refl
label_from l (side i j ∷ ms) w = go (label_from (λ v. merged (l i) (l j) (l v)) ms w)
  where
    one : (z : ℕ) → (merged (l i) (l j) (l z) ≡ l z) ⊎ ((e : ℕ) × Touched (side i j ∷ ms) e × (merged (l i) (l j) (l z) ≡ l e))
    one z = ⊎_elim {C = (merged (l i) (l j) (l z) ≡ l z) ⊎ ((e : ℕ) × Touched (side i j ∷ ms) e × (merged (l i) (l j) (l z) ≡ l e))}
        (λ h. inr (⊎_elim {C = (e : ℕ) × Touched (side i j ∷ ms) e × (merged (l i) (l j) (l z) ≡ l e)} (λ e. (i, (j, inl now), h.1 ∙ e)) (λ e. (j, (i, inr now), h.1 ∙ e)) (either_of (l i) (l j))))
        (λ h. inl h.1) (merged_cases (l i) (l j) (l z))

    go : (labels (λ v. merged (l i) (l j) (l v)) ms w ≡ merged (l i) (l j) (l w)) ⊎ ((e : ℕ) × Touched ms e × (labels (λ v. merged (l i) (l j) (l v)) ms w ≡ merged (l i) (l j) (l e)))
        → (labels (λ v. merged (l i) (l j) (l v)) ms w ≡ l w) ⊎ ((e : ℕ) × Touched (side i j ∷ ms) e × (labels (λ v. merged (l i) (l j) (l v)) ms w ≡ l e))
    go (inl h) = ⊎_elim {C = (labels (λ v. merged (l i) (l j) (l v)) ms w ≡ l w) ⊎ ((e : ℕ) × Touched (side i j ∷ ms) e × (labels (λ v. merged (l i) (l j) (l v)) ms w ≡ l e))}
        (λ k. inl (h ∙ k)) (λ k. inr (k.0, k.1, h ∙ k.2)) (one w)
    go (inr h) = ⊎_elim {C = (labels (λ v. merged (l i) (l j) (l v)) ms w ≡ l w) ⊎ ((e : ℕ) × Touched (side i j ∷ ms) e × (labels (λ v. merged (l i) (l j) (l v)) ms w ≡ l e))}
        (λ k. inr (h.0, touched_later (side i j) ms h.0 h.1, h.2 ∙ k)) (λ k. inr (k.0, k.1, h.2 ∙ k.2)) (one h.0)

pub labels_still : (l : ℕ → ℕ) (ms : List Side) → Still l → Still (labels l ms)
labels_still l [] still = still
labels_still l (side i j ∷ ms) still = labels_still (λ v. merged (l i) (l j) (l v)) ms (merge_still l still i j)

pub label_alone : (l : ℕ → ℕ) (ms : List Side) (v : ℕ) → (Touched ms v → ⊥) → l v ≡ v → ((w : ℕ) → l w ≡ v → w ≡ v) → labels l ms v ≡ v
label_alone l [] v n e f = e
label_alone l (side i j ∷ ms) v n e f =
    label_alone (λ v. merged (l i) (l j) (l v)) ms v (λ t. n (touched_later (side i j) ms v t)) stays (λ w h. alone w h (merged_cases (l i) (l j) (l w)))
  where
    not_i : l i ≡ v → ⊥
    not_i h = n (j, inl (mem_eq (ap (λ z. side z j) (sym (f i h))) now))

    not_j : l j ≡ v → ⊥
    not_j h = n (i, inr (mem_eq (ap (λ z. side i z) (sym (f j h))) now))

    stays : merged (l i) (l j) (l v) ≡ v
    stays = ⊎_elim (λ h. absurd (⊎_elim (λ k. not_i (sym k ∙ sym h.0 ∙ e)) (λ k. not_j (sym k ∙ sym h.0 ∙ e)) (either_max (l i) (l j)))) (λ h. h.1 ∙ e) (merged_cases (l i) (l j) (l v))

    alone : (w : ℕ) → merged (l i) (l j) (l w) ≡ v → ((l w ≡ max (l i) (l j)) × (merged (l i) (l j) (l w) ≡ min (l i) (l j))) ⊎ ((l w ≡ max (l i) (l j) → ⊥) × (merged (l i) (l j) (l w) ≡ l w)) → w ≡ v
    alone w h (inl k) = absurd (⊎_elim (λ q. not_i (sym q ∙ sym k.1 ∙ h)) (λ q. not_j (sym q ∙ sym k.1 ∙ h)) (either_of (l i) (l j)))
    alone w h (inr k) = f w (sym k.1 ∙ h)

abbrev pub decided : {A : Type 0} → Dec A → Bool
decided (yes a) = true
decided (no n) = false

pub decided_true : {A : Type 0} (d : Dec A) → decided d ≡ true → A
decided_true (yes a) e = a
decided_true (no n) e = absurd (clash e)

pub decided_false : {A : Type 0} (d : Dec A) → not (decided d) ≡ true → A → ⊥
decided_false (yes a) e = absurd (clash e)
decided_false (no n) e = n

pub true_decided : {A : Type 0} (d : Dec A) → A → decided d ≡ true
true_decided (yes a) e = refl
true_decided (no n) a = absurd (n a)

pub false_decided : {A : Type 0} (d : Dec A) → (A → ⊥) → not (decided d) ≡ true
false_decided (yes a) n = absurd (n a)
false_decided (no n) m = refl

-- the vertices that are met first
abbrev firsts : List ℕ → List Side → List ℕ
firsts seen [] = []
firsts seen (s ∷ ss) = let r = firsts (start s ∷ seen) ss in cond (has (start s) seen) r (start s ∷ r)

firsts_counted : (seen : List ℕ) (n : ℕ) (ss : List Side) → unused seen n ss + length (firsts seen ss) ≡ n + length ss
firsts_counted seen n [] = refl
firsts_counted seen n (s ∷ ss) = go (has (start s) seen) (λ n. firsts_counted (start s ∷ seen) n ss)
  where
    go : (b : Bool) → ((n : ℕ) → unused (start s ∷ seen) n ss + length (firsts (start s ∷ seen) ss) ≡ n + length ss)
        → unused (start s ∷ seen) (cond b (suc n) n) ss + length (cond b (firsts (start s ∷ seen) ss) (start s ∷ firsts (start s ∷ seen) ss)) ≡ n + suc (length ss)
    go true f = let h = f (suc n) in omega arith
    go false f = let h = f n in omega arith

firsts_mem : (seen : List ℕ) (ss : List Side) (v : ℕ) → Mem v (firsts seen ss) → (Mem v seen → ⊥) × ((s : Side) × Mem s ss × (start s ≡ v))
firsts_mem seen [] v m = elim m [ ]
firsts_mem seen (s ∷ ss) v m = go (has (start s) seen) refl m (λ k. firsts_mem (start s ∷ seen) ss v k)
  where
    go : (b : Bool) → has (start s) seen ≡ b → Mem v (cond b (firsts (start s ∷ seen) ss) (start s ∷ firsts (start s ∷ seen) ss))
        → (Mem v (firsts (start s ∷ seen) ss) → (Mem v (start s ∷ seen) → ⊥) × ((t : Side) × Mem t ss × (start t ≡ v)))
        → (Mem v seen → ⊥) × ((t : Side) × Mem t (s ∷ ss) × (start t ≡ v))
    go true e k f = let r = f k in (λ q. r.0 (later q), (r.1.0, later r.1.1, r.1.2))
    go false e k f = ⊎_elim {C = (Mem v seen → ⊥) × ((t : Side) × Mem t (s ∷ ss) × (start t ≡ v))} (λ (i : v ≡ start s). (λ q. has_false (start s) seen e (mem_eq (sym i) q), (s, now, sym i)))
        (λ k. let r = f k in (λ q. r.0 (later q), (r.1.0, later r.1.1, r.1.2))) (mem_cases k)

firsts_apart : (seen : List ℕ) (ss : List Side) → Apart (firsts seen ss)
firsts_apart seen [] = no_one
firsts_apart seen (s ∷ ss) = go (has (start s) seen) (firsts_apart (start s ∷ seen) ss)
  where
    go : (b : Bool) → Apart (firsts (start s ∷ seen) ss) → Apart (cond b (firsts (start s ∷ seen) ss) (start s ∷ firsts (start s ∷ seen) ss))
    go true a = a
    go false a = one_more (λ m. (firsts_mem (start s ∷ seen) ss (start s) m).0 now) a

mem_firsts : (seen : List ℕ) (ss : List Side) {s : Side} → Mem s ss → (Mem (start s) seen → ⊥) → Mem (start s) (firsts seen ss)
mem_firsts seen [] m n = elim m [ ]
mem_firsts seen (t ∷ ss) {s} m n = go (has (start t) seen) refl (mem_cases m) (ℕ_discrete (start s) (start t)) (λ k n. mem_firsts (start t ∷ seen) ss k n)
  where
    head : (b : Bool) → has (start t) seen ≡ b → start s ≡ start t → Mem (start s) (cond b (firsts (start t ∷ seen) ss) (start t ∷ firsts (start t ∷ seen) ss))
    head true e i = absurd (n (mem_eq i (has_true (start t) seen e)))
    head false e i = mem_eq i now

    tail : (b : Bool) → Mem (start s) (firsts (start t ∷ seen) ss) → Mem (start s) (cond b (firsts (start t ∷ seen) ss) (start t ∷ firsts (start t ∷ seen) ss))
    tail true k = k
    tail false k = later k

    go : (b : Bool) → has (start t) seen ≡ b → (s ≡ t) ⊎ Mem s ss → Dec (start s ≡ start t) → (Mem s ss → (Mem (start s) (start t ∷ seen) → ⊥) → Mem (start s) (firsts (start t ∷ seen) ss)) → Mem (start s) (cond b (firsts (start t ∷ seen) ss) (start t ∷ firsts (start t ∷ seen) ss))
    go b e m (yes i) f = head b e i
    go b e (inl i) (no j) f = absurd (j (ap start i))
    go b e (inr k) (no j) f = tail b (f k (λ q. ⊎_elim j n (mem_cases q)))

-- V' + K = V + F
module _ (V : ℕ) (ms : List Side) (ss : List Side) (touched : (v : ℕ) → Dec (Touched ms v)) (small : (s : Side) → Ours ms s → start s < V)
    (free : loop_free own ms ≡ true) (apart : Apart ms) (rising : (s : Side) → Mem s ms → start s < end s)
    (ss_apart : Apart ss) (all_ours : (s : Side) → Mem s ss → Ours ms s) (ours_all : (s : Side) → Ours ms s → Mem s ss) where
  t : ℕ → Bool
  t v = decided (touched v)

  mem_small : (s : Side) → Mem s ms → (start s < V) × (end s < V)
  mem_small (side u v) m = (small (side u v) (inl m), small (side v u) (inr m))

  pub positions_counted : length ss ≡ 2 * length ms
  positions_counted = let h = same_length ss_apart (two_apart ms apart rising) (λ z m. ours_two ms z (all_ours z m)) (λ z m. ours_all z (two_ours ms z m)) in omega (arith, length-append ms (map back ms), length-map ms back)

  firsts_touched : length (firsts [] ss) ≡ length (filter t (below V))
  unfolding t
  firsts_touched = same_length (firsts_apart [] ss) (kept_apart t (below_apart V)) to from
    where
      touched_by : (s : Side) → Ours ms s → Touched ms (start s)
      touched_by (side u v) m = (v, m)

      to : (v : ℕ) → Mem v (firsts [] ss) → Mem v (filter t (below V))
      to v m =
          let r = (firsts_mem [] ss v m).1 in let o = all_ours r.0 r.1 in
          mem_eq (sym r.2) (mem_kept t (below_mem V (start r.0) (small r.0 o)) (true_decided (touched (start r.0)) (touched_by r.0 o)))

      from : (v : ℕ) → Mem v (filter t (below V)) → Mem v (firsts [] ss)
      from v m = let r = kept_mem t (below V) m in let x = decided_true (touched v) r.1 in mem_firsts [] ss (ours_all (side v x.0) x.1) (λ k. elim k [ ])

  fixed_trees : length (trees V ms) + length (filter (λ v. not (t v)) (below V)) ≡ length (filter (Fixed (label ms)) (below V))
  unfolding t
  fixed_trees =
      let h = same_length (apart_append (trees_apart V ms) (kept_apart (λ v. not (t v)) (below_apart V)) disjoint) (kept_apart (Fixed (label ms)) (below_apart V)) to from in
      omega (arith, length-append (trees V ms) (filter (λ v. not (t v)) (below V)))
    where
      tree_fixed : (v : ℕ) → Mem v (trees V ms) → (label ms v ≡ v) × Touched ms v
      tree_fixed v m = go (tree_edges ms v) (λ s q. of_mem ms v s q) (tree_some V ms v m).1
        where
          labelled : (s : Side) → Mem s ms → label ms (start s) ≡ v → Touched ms v
          labelled (side a b) q e =
              ⊎_elim (λ k. (b, inl (mem_eq (ap (λ z. side z b) (sym e ∙ k)) q))) (λ k. subst (λ (z : ℕ). Touched ms z) (sym k.2 ∙ e) k.1) (label_from own ms a)

          go : (es : List Side) → ((s : Side) → Mem s es → Mem s ms × (label ms (start s) ≡ v)) → 0 < length es → (label ms v ≡ v) × Touched ms v
          go [] f h = absurd (omega arith)
          go (s ∷ es) f h = let r = f s now in (ap (label ms) (sym r.1) ∙ labels_still own ms (λ v. refl) (start s) ∙ r.1, labelled s r.0 r.1)

      disjoint : (v : ℕ) → Mem v (trees V ms) → Mem v (filter (λ v. not (t v)) (below V)) → ⊥
      disjoint v m k = decided_false (touched v) (kept_mem (λ v. not (t v)) (below V) k).1 (tree_fixed v m).1

      to : (v : ℕ) → Mem v (trees V ms ++ filter (λ v. not (t v)) (below V)) → Mem v (filter (Fixed (label ms)) (below V))
      to v m = ⊎_elim
          (λ k. mem_kept (Fixed (label ms)) (below_mem V v (tree_some V ms v k).0) (eq-eqb (label ms v) v (tree_fixed v k).0))
          (λ k. let r = kept_mem (λ v. not (t v)) (below V) k in mem_kept (Fixed (label ms)) r.0 (eq-eqb (label ms v) v (label_alone own ms v (decided_false (touched v) r.1) refl (λ w e. e)))) (mem_split (trees V ms) m)

      from : (v : ℕ) → Mem v (filter (Fixed (label ms)) (below V)) → Mem v (trees V ms ++ filter (λ v. not (t v)) (below V))
      from v m = let r = kept_mem (Fixed (label ms)) (below V) m in go r (touched v) refl
        where
          go : Mem v (below V) × (Fixed (label ms) v ≡ true) → (d : Dec (Touched ms v)) → touched v ≡ d → Mem v (trees V ms ++ filter (λ v. not (t v)) (below V))
          go r (yes x) e = mem_left (filter (λ v. not (t v)) (below V)) (mem_eq (sym (eqb-true (label ms v) v r.1)) (tree_there V ms (side v x.0) x.1 (small (side v x.0) x.1)))
          go r (no n) e = mem_right (trees V ms) (mem_kept (λ v. not (t v)) r.0 (false_decided (touched v) n))

  pub touched_counted : length (filter (λ v. decided (touched v)) (below V)) ≡ length ms + length (trees V ms)
  unfolding t
  touched_counted =
      let d = fixed_trees in
      let e = labels_counted V own ms (λ v. refl) (λ v. omega arith) mem_small free in
      let f = length-filter_both t (λ v. not (t v)) (λ v. refl) (below V) in
      let h = length_below V in
      let i = same_length (kept_apart (Fixed own) (below_apart V)) (below_apart V) (λ z m. (kept_mem (Fixed own) (below V) m).0) (λ z m. mem_kept (Fixed own) m (eq-eqb z z refl)) in
      omega arith

  pub vertices_counted : unused [] V ss + length (trees V ms) ≡ V + length ms
  unfolding t
  vertices_counted =
      let a = firsts_counted [] V ss in
      let b = positions_counted in
      let c = firsts_touched in
      let d = fixed_trees in
      let e = labels_counted V own ms (λ v. refl) (λ v. omega arith) mem_small free in
      let f = length-filter_both t (λ v. not (t v)) (λ v. refl) (below V) in
      let h = length_below V in
      let i = all_own in
      omega arith
    where
      all_own : length (filter (Fixed own) (below V)) ≡ length (below V)
      all_own = same_length (kept_apart (Fixed own) (below_apart V)) (below_apart V) (λ z m. (kept_mem (Fixed own) (below V) m).0) (λ z m. mem_kept (Fixed own) m (eq-eqb z z refl))
