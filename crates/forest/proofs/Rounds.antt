-- A loop never comes round early: the loop of a tree passes all of its sides.
use Rattle.std.proofs.Common.{◌≡◌, ℕ, zero, suc, ◌<◌, Bool, true, false, cond, not, eqb, ◌⊎◌, List, [], ◌∷◌, filter, sym, refl, ap, ◌∙◌, subst, inl, inr, ⊎_elim, arith}
use native.Mathlib.Decide.{ℕ_discrete}
use borrow.Author.Tests.{eqb-false, not-true, clash}
use Rattle.std.proofs.lemmas.Bool.{and_parts}
use Rattle.mesh.specs.Lists.{Mem, now, later}
use Rattle.mesh.specs.Triangles.{Tri}
use Rattle.mesh.specs.Sides.{Side, side}
use Rattle.mesh.specs.Rings.{Link, Walk, stop, step}
use Rattle.forest.specs.Marks.{Marked, same_side}
use Rattle.forest.specs.Trees.{merged, labels, own, label, loop_free, start, end}
use Rattle.forest.specs.Roots.{mirrored}
use Rattle.forest.specs.Loops.{read_as, loop, hop}
use Rattle.mesh.proofs.Members.{mem_cases, mem_kept, mem_eq}
use Rattle.forest.proofs.Sectors.{Sector, one, more, sector_same}
use Rattle.forest.proofs.Marking.{Unmarked, same_true, true_same, marked_back, marked_dec}
use Rattle.forest.proofs.Hops.{next, flag, turns, hop_goes, next_hop, next_start}
use Rattle.forest.proofs.Labels.{label_edge, Ours, merged_ends}
use Rattle.forest.proofs.Leaves.{Finer, finer_both, finer_one, merged_apart}
use Rattle.forest.proofs.Turning.{Good, good_read, EdgesIn, edges_read}

-- an edge of a forest keeps its ends apart in the others
module _ (p : Side → Bool) (i j : ℕ) where
  apart_after : (k l : ℕ → ℕ) → Finer k l → l i ≡ l j → (k i ≡ k j → ⊥) → (ms : List Side) → loop_free l ms ≡ true → labels k (filter p ms) i ≡ labels k (filter p ms) j → ⊥
  apart_after k l f e n [] free = n
  apart_after k l f e n (side a b ∷ ms) free =
      let h = and_parts (not (eqb (l a) (l b))) (loop_free (λ v. merged (l a) (l b) (l v)) ms) free in
      let q = eqb-false (l a) (l b) (not-true (eqb (l a) (l b)) h.0) in
      go (p (side a b)) (apart_after (λ v. merged (k a) (k b) (k v)) (λ v. merged (l a) (l b) (l v)) (finer_both k l f a b) (ap (merged (l a) (l b)) e) (still q) ms h.1)
      (apart_after k (λ v. merged (l a) (l b) (l v)) (finer_one k l f a b) (ap (merged (l a) (l b)) e) n ms h.1)
    where
      still : (l a ≡ l b → ⊥) → merged (k a) (k b) (k i) ≡ merged (k a) (k b) (k j) → ⊥
      still q x = both (merged_apart (k a) (k b) (k i) (k j) x)
        where
          cases : (k i ≡ k a) ⊎ (k i ≡ k b) → (k j ≡ k a) ⊎ (k j ≡ k b) → ⊥
          cases (inl y) (inl z) = n (y ∙ sym z)
          cases (inl y) (inr z) = q (sym (f i a y) ∙ e ∙ f j b z)
          cases (inr y) (inl z) = q (sym (f j a z) ∙ sym e ∙ f i b y)
          cases (inr y) (inr z) = n (y ∙ sym z)

          both : (k i ≡ k j) ⊎ (((k i ≡ k a) ⊎ (k i ≡ k b)) × ((k j ≡ k a) ⊎ (k j ≡ k b))) → ⊥
          both (inl y) = n y
          both (inr y) = cases y.0 y.1

      go : (c : Bool) → (labels (λ v. merged (k a) (k b) (k v)) (filter p ms) i ≡ labels (λ v. merged (k a) (k b) (k v)) (filter p ms) j → ⊥) → (labels k (filter p ms) i ≡ labels k (filter p ms) j → ⊥)
          → labels k (cond c (side a b ∷ filter p ms) (filter p ms)) i ≡ labels k (cond c (side a b ∷ filter p ms) (filter p ms)) j → ⊥
      go true x y = x
      go false x y = y

abbrev pub but : Side → Side → Bool
but s m = not (same_side m s)

pub apart_without : (l k : ℕ → ℕ) → Finer k l → (ms : List Side) (i j : ℕ) → Mem (side i j) ms → loop_free l ms ≡ true → labels k (filter (but (side i j)) ms) i ≡ labels k (filter (but (side i j)) ms) j → ⊥
apart_without l k f [] i j m free = elim m [ ]
apart_without l k f (side a b ∷ ms) i j m free =
    let h = and_parts (not (eqb (l a) (l b))) (loop_free (λ v. merged (l a) (l b) (l v)) ms) free in
    let q = eqb-false (l a) (l b) (not-true (eqb (l a) (l b)) h.0) in
    go (same_side (side a b) (side i j)) refl q h.1 (mem_cases m)
    (λ r. apart_without (λ v. merged (l a) (l b) (l v)) (λ v. merged (k a) (k b) (k v)) (finer_both k l f a b) ms i j r h.1)
  where
    go : (c : Bool) → same_side (side a b) (side i j) ≡ c → (l a ≡ l b → ⊥) → loop_free (λ v. merged (l a) (l b) (l v)) ms ≡ true → (side i j ≡ side a b) ⊎ Mem (side i j) ms
        → (Mem (side i j) ms → labels (λ v. merged (k a) (k b) (k v)) (filter (but (side i j)) ms) i ≡ labels (λ v. merged (k a) (k b) (k v)) (filter (but (side i j)) ms) j → ⊥)
        → labels k (cond (not c) (side a b ∷ filter (but (side i j)) ms) (filter (but (side i j)) ms)) i ≡ labels k (cond (not c) (side a b ∷ filter (but (side i j)) ms) (filter (but (side i j)) ms)) j → ⊥
    go true e q free m r =
        let x = same_true (side a b) (side i j) e in let y : a ≡ i = cc in let z : b ≡ j = cc in
        apart_after (but (side i j)) i j k (λ v. merged (l a) (l b) (l v)) (finer_one k l f a b)
        (ap (λ w. merged (l a) (l b) (l w)) (sym y) ∙ merged_ends (l a) (l b) ∙ ap (λ w. merged (l a) (l b) (l w)) z) (λ u. q (ap l y ∙ f i j u ∙ ap l (sym z))) ms free
    go false e q free (inl x) r = absurd (clash (sym e ∙ true_same (side a b) (side i j) (sym x)))
    go false e q free (inr x) r = r x

-- steps one after another
module _ (N : Side → Side) where
  pub loop_map : (n : ℕ) (t z : Side) → Mem z (loop N n t) → Mem (N z) (loop N n (N t))
  loop_map zero t z m = elim m [ ]
  loop_map (suc n) t z m = ⊎_elim (λ (e : z ≡ t). mem_eq (ap N e) now) (λ k. later (loop_map n (N t) z k)) (mem_cases m)

  abbrev times : ℕ → Side → Side
  times zero t = t
  times (suc n) t = times n (N t)

  times_out : (n : ℕ) (t : Side) → times n (N t) ≡ N (times n t)
  times_out zero t = refl
  times_out (suc n) t = times_out n (N t)

  -- as far as s
  upto : (n : ℕ) (t s : Side) → Mem s (loop N n t) → (j : ℕ) × (j < n) × (times j t ≡ s)
  upto zero t s m = elim m [ ]
  upto (suc n) t s m = ⊎_elim {C = (j : ℕ) × (j < suc n) × (times j t ≡ s)} (λ (e : s ≡ t). (0, omega arith, sym e)) (λ k. let r = upto n (N t) s k in (suc r.0, omega (arith, r.1), r.2)) (mem_cases m)

  step_mem : (n : ℕ) (t z : Side) → Mem z (loop N n t) → Mem (N z) (loop N n t) ⊎ (N z ≡ times n t)
  step_mem zero t z m = elim m [ ]
  step_mem (suc n) t z m = go n (mem_cases m) (λ k. step_mem n (N t) z k)
    where
      go : (n : ℕ) → (z ≡ t) ⊎ Mem z (loop N n (N t)) → (Mem z (loop N n (N t)) → Mem (N z) (loop N n (N t)) ⊎ (N z ≡ times n (N t))) → Mem (N z) (t ∷ loop N n (N t)) ⊎ (N z ≡ times n (N t))
      go zero (inl e) f = inr (ap N e)
      go (suc n) (inl e) f = inl (later (mem_eq (ap N e) now))
      go n (inr k) f = ⊎_elim (λ q. inl (later q)) (λ q. inr q) (f k)

  -- a loop that comes round is closed under the step
  pub round_closed : (n : ℕ) (s : Side) → Mem s (loop N n (N s)) → (j : ℕ) × (j < n) × (Mem s (loop N (suc j) (N s))) × ((z : Side) → Mem z (loop N (suc j) (N s)) → Mem (N z) (loop N (suc j) (N s)))
  round_closed n s m =
      let r = upto n (N s) s m in
      (r.0, r.1, last r.0 (N s) s r.2, λ z k. ⊎_elim (λ q. q) (λ (q : N z ≡ times (suc r.0) (N s)). mem_eq (q ∙ times_out r.0 (N s) ∙ ap N r.2) now) (step_mem (suc r.0) (N s) z k))
    where
      last : (j : ℕ) (t s : Side) → times j t ≡ s → Mem s (loop N (suc j) t)
      last zero t s e = mem_eq (sym e) now
      last (suc j) t s e = later (last j (N t) s e)

  pub loop_keeps : (P : Side → Type 0) → ((z : Side) → P z → P (N z)) → (n : ℕ) (t z : Side) → P t → Mem z (loop N n t) → P z
  loop_keeps P f zero t z p m = elim m [ ]
  loop_keeps P f (suc n) t z p m = ⊎_elim (λ (e : z ≡ t). subst P (sym e) p) (λ k. loop_keeps P f n (N t) z (f t p) k) (mem_cases m)

-- a set of marked sides that is closed under the step, and of which each comes round
module _ (V : ℕ) (ts : List Tri) (ms : List Side) (g : Good V ts) (edges : EdgesIn ts ms) (free : loop_free own ms ≡ true)
    (Orb : Side → Type 0) (ours : (s : Side) → Orb s → Ours ms s) (onward : (s : Side) → Orb s → Orb (next ts ms s)) (comes : (s : Side) → Orb s → (n : ℕ) × Mem s (loop (next ts ms) n (next ts ms s))) where
  -- over an edge that parts the tree, the loop comes back
  module _ (i j u v : ℕ) (m : Mem (side i j) ms) (ends : ((u ≡ i) × (v ≡ j)) ⊎ ((u ≡ j) × (v ≡ i))) where
    part : ℕ → ℕ
    part = label (filter (but (side i j)) ms)

    parted : part u ≡ part v → ⊥
    unfolding part
    parted e = go ends
      where
        x : label (filter (but (side i j)) ms) i ≡ label (filter (but (side i j)) ms) j → ⊥
        x = apart_without own own (λ v w e. e) ms i j m free

        go : ((u ≡ i) × (v ≡ j)) ⊎ ((u ≡ j) × (v ≡ i)) → ⊥
        go (inl h) = x (ap (label (filter (but (side i j)) ms)) (sym h.0) ∙ e ∙ ap (label (filter (but (side i j)) ms)) h.1)
        go (inr h) = x (ap (label (filter (but (side i j)) ms)) (sym h.1) ∙ sym e ∙ ap (label (filter (but (side i j)) ms)) h.0)

    abbrev Ends : ℕ → ℕ → Type 0
    Ends x y = ((x ≡ u) × (y ≡ v)) ⊎ ((x ≡ v) × (y ≡ u))

    same_part : (x y : ℕ) → Mem (side x y) ms → (part x ≡ part y) ⊎ Ends x y
    unfolding part
    same_part x y q = go (same_side (side x y) (side i j)) refl
      where
        fit : x ≡ i → y ≡ j → ((u ≡ i) × (v ≡ j)) ⊎ ((u ≡ j) × (v ≡ i)) → Ends x y
        fit a b (inl h) = inl (a ∙ sym h.0, b ∙ sym h.1)
        fit a b (inr h) = inr (a ∙ sym h.1, b ∙ sym h.0)

        go : (c : Bool) → same_side (side x y) (side i j) ≡ c → (label (filter (but (side i j)) ms) x ≡ label (filter (but (side i j)) ms) y) ⊎ Ends x y
        go true e = let r = same_true (side x y) (side i j) e in inr (fit (cc) (cc) ends)
        go false e = inl (label_edge (filter (but (side i j)) ms) x y (inl (mem_kept (but (side i j)) q (ap not e))))

    cross : (x y : ℕ) → Marked ms x y → (part x ≡ part y) ⊎ Ends x y
    cross x y (inl q) = same_part x y q
    cross x y (inr q) = ⊎_elim (λ e. inl (sym e)) (λ h. inr (⊎_elim (λ k. inr (k.1, k.0)) (λ k. inl (k.1, k.0)) h)) (same_part y x q)

    crosses : (t : Side) → Orb t → part (start t) ≡ part v → (part (end t) ≡ part v → ⊥) → Orb (side v u)
    crosses (side x y) o e n = ⊎_elim (λ k. absurd (n (sym k ∙ e))) (λ h. ⊎_elim (λ k. absurd (parted (ap part (sym k.0) ∙ e))) (λ k. subst Orb (let a = k.0 in let b = k.1 in cc) o) h) (cross x y (ours (side x y) o))

    comes_back : (n : ℕ) (t : Side) → Orb t → part (start t) ≡ part v → Mem (side u v) (loop (next ts ms) n t) → Orb (side v u)
    comes_back zero t o e k = elim k [ ]
    comes_back (suc n) t o e k = go (mem_cases k) (ℕ_discrete (part (start (next ts ms t))) (part v)) (λ e q. comes_back n (next ts ms t) (onward t o) e q)
      where
        go : (side u v ≡ t) ⊎ Mem (side u v) (loop (next ts ms) n (next ts ms t)) → Dec (part (start (next ts ms t)) ≡ part v)
            → (part (start (next ts ms t)) ≡ part v → Mem (side u v) (loop (next ts ms) n (next ts ms t)) → Orb (side v u)) → Orb (side v u)
        go (inl h) d f = absurd (parted (ap (λ z. part (start z)) h ∙ e))
        go (inr q) (yes h) f = f h q
        go (inr q) (no h) f = crosses t o e (λ x. h (ap part (next_start V ts ms g edges t (ours t o)) ∙ x))

  -- so the set has each side's reverse
  pub orb_back : (u v : ℕ) → Orb (side u v) → Orb (side v u)
  orb_back u v o = go (ours (side u v) o)
    where
      r : (n : ℕ) × Mem (side u v) (loop (next ts ms) n (next ts ms (side u v)))
      r = comes (side u v) o

      begin : (f : ℕ → ℕ) → f (start (next ts ms (side u v))) ≡ f v
      begin f = ap f (next_start V ts ms g edges (side u v) (ours (side u v) o))

      go : Marked ms u v → Orb (side v u)
      go (inl m) = comes_back u v u v m (inl (refl, refl)) r.0 (next ts ms (side u v)) (onward (side u v) o) (begin (part u v u v m (inl (refl, refl)))) r.1
      go (inr m) = comes_back v u u v m (inr (refl, refl)) r.0 (next ts ms (side u v)) (onward (side u v) o) (begin (part v u u v m (inr (refl, refl)))) r.1

  -- and with one side at v all that are marked
  module _ (v : ℕ) where
    us : List Tri
    us = read_as (flag ts ms v) ts

    abbrev Free : ℕ → Type 0
    Free = Unmarked (Marked ms) v

    arrive : (x : ℕ) → Orb (side v x) → {w y z : ℕ} → Sector (read_as (flag ts ms v) ts) v (Unmarked (Marked ms) v) w y z x → Marked ms v w → Orb (side v w)
    arrive x o {w} {y} {z} k m =
        let q = ours (side v x) o in
        let xv = marked_back ms v x q in
        let a = turns V ts ms g edges (flag ts ms v) x v xv in
        let e = (sector_same (read_as (flag ts ms v) ts) v (Unmarked (Marked ms) v) ((good_read (flag ts ms v) V ts g).into v) refl k a.sector (λ f. f m) (λ f. f a.marked)).0 in
        let f : flag ts ms x ≡ flag ts ms v = ap (mirrored ts ms) (label_edge ms x v xv) in
        let n : next ts ms (side x v) ≡ side v w = next_hop ts ms (side x v) ∙ ap (λ b. hop ts ms b (side x v)) f ∙ hop_goes V ts ms g edges (flag ts ms v) x v xv ∙ ap (λ z. side v z) (sym e) in
        subst Orb n (onward (side x v) (orb_back v x o))

    along : {p x : ℕ} → Walk (Link (read_as (flag ts ms v) ts) v) p x → Orb (side v x) → (w y z : ℕ) → Sector (read_as (flag ts ms v) ts) v (Unmarked (Marked ms) v) w y z p → Marked ms v w → Orb (side v w)
    along (stop {x}) o w y z k m = arrive x o k m
    along (step {x = p} {y = p'} l r) o w y z k m = go (marked_dec ms v p) (along r o p p' p (one l)) (λ n. along r o w y p (more k n l) m)
      where
        go : Dec (Marked ms v p) → (Marked ms v p → Orb (side v p)) → (Unmarked (Marked ms) v p → Orb (side v w)) → Orb (side v w)
        go (yes q) f h = arrive p (f q) k m
        go (no n) f h = h n

    pub orb_all : (x x' : ℕ) → Orb (side v x) → Marked ms v x' → Orb (side v x')
    orb_all x x' o m =
        let b = flag ts ms v in
        let l = edges_read b V ts ms g edges v x' m in
        let k = edges_read b V ts ms g edges v x (ours (side v x) o) in
        let gb = good_read b V ts g in
        along ((gb.ring v (gb.small v x' l.0 l.1)).round x' l.0 x k.0 l.1 k.1) o x' l.0 x' (one l.1) m

  pub orb_walk : {r w : ℕ} → Walk (Marked ms) r w → (a : ℕ) → Orb (side r a) → (x : ℕ) → Marked ms w x → Orb (side w x)
  orb_walk (stop {x = r}) a o x m = orb_all r a x o m
  orb_walk (step {x = r} {y = r'} e q) a o x m = orb_walk q r (orb_back r r' (orb_all r a r' o e)) x m
