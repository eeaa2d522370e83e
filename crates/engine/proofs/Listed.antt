-- What the tables tell of the trees.
use Rattle.std.proofs.Common.{◌≡◌, ℕ, suc, ◌+◌, ◌*◌, ◌/◌, ◌%◌, ◌<◌, ◌≤◌, Bool, true, false, cond, ◌||◌, eqb, ltb, List, [], ◌∷◌, map, length, filter, get_or, drop, Some, None, sym, refl, ap, ◌∙◌, subst, inl, inr, ⊎_elim, arith, eq-eqb, eqb-true}
use Rattle.std.proofs.lemmas.Bool.{cases_eq, cases_lt, ne_eqb, lt-ltb}
use Rattle.std.proofs.lemmas.List.{drop_more, drop_all}
use Rattle.std.specs.List.{slice_get, position, position_from}
use Rattle.std.specs.Option.{option_and_then}
use Rattle.std.proofs.lemmas.Option.{slice_get-get_or}
use Rattle.std.proofs.lemmas.Iterator.Adapters.{position_from-zero}
use Rattle.mesh.specs.Lists.{Mem, now, later}
use Rattle.mesh.specs.Sides.{Side, side}
use Rattle.forest.specs.Marks.{Marked}
use Rattle.forest.specs.Trees.{label, own, start, end, tree_edges, below, some, trees}
use Rattle.forest.specs.Roots.{touches, leaf, root}
use Rattle.forest.specs.Loops.{around}
use Rattle.forest.specs.Splitting.{first_closing, first_single}
use Rattle.forest.specs.Tables.{key_side, key_sides, flags_of}
use Rattle.mesh.proofs.Members.{mem_cases, kept_mem, mem_kept, map_mem}
use Rattle.forest.proofs.Labels.{mem_below, InTree}
use Rattle.forest.proofs.Marking.{marked_mem}
use Rattle.forest.proofs.Checking.{closing_none}
use Rattle.forest.proofs.Leaves.{root_lowest}
use Rattle.engine.specs.Joining.{EndsBelow, Labelled}
use Rattle.engine.specs.Tallies.{Ended, Sized, LeafBelow, picked}
use Rattle.engine.specs.Marking.{marked, Upward}
use Rattle.engine.proofs.Tallies.{filter_le, marked_le}

-- ---- the trees

filter_same : (f g : ℕ → Bool) (xs : List ℕ) → ((x : ℕ) → Mem x xs → f x ≡ g x) → filter f xs ≡ filter g xs
filter_same f g [] h = refl
filter_same f g (x ∷ xs) h =
    ap (λ b. cond b (x ∷ filter f xs) (filter f xs)) (h x now) ∙ ap (λ zs. cond (g x) (x ∷ zs) zs) (filter_same f g xs (λ x m. h x (later m)))

map_same : {X : Type 0} (f g : ℕ → X) (xs : List ℕ) → ((x : ℕ) → Mem x xs → f x ≡ g x) → map f xs ≡ map g xs
map_same f g [] h = refl
map_same f g (x ∷ xs) h = ap (λ y. y ∷ map f xs) (h x now) ∙ ap (λ zs. g x ∷ zs) (map_same f g xs (λ x m. h x (later m)))

map_map : (f : ℕ → ℕ) (g : ℕ → Side) (xs : List ℕ) → map g (map f xs) ≡ map (λ x. g (f x)) xs
map_map f g [] = refl
map_map f g (x ∷ xs) = ap (λ zs. g (f x) ∷ zs) (map_map f g xs)

some_above : (ss : List Side) → some ss ≡ ltb 0 (length ss)
some_above [] = refl
some_above (s ∷ ss) = sym (lt-ltb 0 (suc (length ss)) (omega arith))

mem_index : {x : ℕ} (xs : List ℕ) → Mem x xs → (i : ℕ) × (i < length xs) × (get_or xs i 0 ≡ x)
mem_index [] m = elim m [ ]
mem_index {x} (y ∷ ys) m =
    ⊎_elim {C = (i : ℕ) × (i < suc (length ys)) × (get_or (y ∷ ys) i 0 ≡ x)} (λ (e : x ≡ y). (0, (omega arith), sym e))
    (λ (k : Mem x ys). let r = mem_index {x = x} ys k in let l : r.0 < length ys = r.1 in (suc r.0, (omega arith), r.2)) (mem_cases m)

-- two members of a list of one
one_member : {s t : Side} (xs : List Side) → length xs ≡ 1 → Mem s xs → Mem t xs → s ≡ t
one_member [] e m n = elim m [ ]
one_member {s} {t} (x ∷ []) e m n = ⊎_elim (λ (p : s ≡ x). ⊎_elim (λ (q : t ≡ x). p ∙ sym q) (λ k. elim k [ ]) (mem_cases n)) (λ k. elim k [ ]) (mem_cases m)
one_member (x ∷ y ∷ xs) e m n = absurd (omega arith)

touches_start : (v a : ℕ) → touches v (side v a) ≡ true
touches_start v a = ap (λ b. b || eqb a v) (eq-eqb v v refl)

touches_end : (v a : ℕ) → touches v (side a v) ≡ true
touches_end v a = go (eqb a v) (eq-eqb v v refl)
  where
    go : (b : Bool) → eqb v v ≡ true → (b || eqb v v) ≡ true
    go true e = refl
    go false e = e

-- a leaf has one neighbour
one_end : (ms : List Side) (v a b : ℕ) → length (filter (touches v) ms) ≡ 1 → Marked ms v a → Marked ms v b → a ≡ b
one_end ms v a b e (inl m) (inl n) = let q : side v a ≡ side v b = one_member (filter (touches v) ms) e (mem_kept (touches v) m (touches_start v a)) (mem_kept (touches v) n (touches_start v b)) in cc
one_end ms v a b e (inl m) (inr n) = let q : side v a ≡ side b v = one_member (filter (touches v) ms) e (mem_kept (touches v) m (touches_start v a)) (mem_kept (touches v) n (touches_end v b)) in cc
one_end ms v a b e (inr m) (inl n) = let q : side a v ≡ side v b = one_member (filter (touches v) ms) e (mem_kept (touches v) m (touches_end v a)) (mem_kept (touches v) n (touches_start v b)) in cc
one_end ms v a b e (inr m) (inr n) = let q : side a v ≡ side b v = one_member (filter (touches v) ms) e (mem_kept (touches v) m (touches_end v a)) (mem_kept (touches v) n (touches_end v b)) in cc

key_of : (x y : ℕ) → y < 16384 → key_side (x * 16384 + y) ≡ side x y
key_of x y h = let a : (x * 16384 + y) / 16384 ≡ x = omega arith in let b : (x * 16384 + y) % 16384 ≡ y = omega arith in rw (a, b) refl

module _ (V : ℕ) (ks ns : List ℕ) (below_V : EndsBelow V ks) (upward : Upward ks) where
  abbrev ms : List Side
  ms = marked ks ns

  marked_key : (s : Side) → Mem s ms → (start s < V) × (end s < V) × (start s < end s)
  marked_key s m =
      let r = map_mem key_side ks (marked_mem (key_sides ks) (flags_of ns) m) in
      let i = mem_index ks r.1 in
      let e : s ≡ key_side (get_or ks i.0 0) = r.2 ∙ ap key_side (sym i.2) in
      rw e (below_V.low i.0 i.1, below_V.high i.0 i.1, upward i.0 i.1)

  pub marked_small : (v x : ℕ) → Marked ms v x → (v < V) × (x < V)
  marked_small v x (inl m) = let r = marked_key (side v x) m in (r.0, r.1)
  marked_small v x (inr m) = let r = marked_key (side x v) m in (r.1, r.0)

  module _ (sizes : List ℕ) (n : length sizes ≡ V) (sized : Sized ms sizes) where
    pub trees_picked : picked sizes (length sizes) ≡ trees V ms
    trees_picked =
        ap (picked sizes) n
        ∙ filter_same (λ k. ltb 0 (get_or sizes k 0)) (λ k. some (tree_edges ms k)) (below V)
        (λ k m. let l = mem_below V k m in ap (ltb 0) (sized.each k (omega arith)) ∙ sym (some_above (tree_edges ms k)))

    pub arounds_picked : map (λ k. 2 * get_or sizes k 0) (picked sizes (length sizes)) ≡ map (around ms) (trees V ms)
    arounds_picked =
        ap (map (λ k. 2 * get_or sizes k 0)) trees_picked
        ∙ map_same (λ k. 2 * get_or sizes k 0) (around ms) (trees V ms)
        (λ k m. let l = mem_below V k (kept_mem (λ k. some (tree_edges ms k)) (below V) m).0 in ap (λ x. 2 * x) (sized.each k (omega arith)))

    pub size_small : length ks < 2147483648 → (k : ℕ) → k < length sizes → get_or sizes k 0 < 2147483648
    size_small h k l = let e = sized.each k l in let a = filter_le (λ m. eqb (label ms (start m)) k) ms in let b = marked_le ks ns in omega arith

  module _ (few : V ≤ 16384) (forest : first_closing own 0 (key_sides ks) (flags_of ns) ≡ None) (labels counts others roots : List ℕ)
      (nl : length labels ≡ V) (nc : length counts ≡ V) (labelled : Labelled ms labels) (ended : Ended ms counts others) where
    pub others_small : (v : ℕ) → v < length labels → get_or counts v 0 ≡ 1 → get_or others v 0 < 16384
    others_small v h e = let r = (marked_small v (get_or others v 0) (ended.other v (omega arith) (omega arith))).1 in omega arith

    module _ (leaves : (v : ℕ) → v < length labels → get_or counts v 0 ≡ 1 → LeafBelow labels counts others roots v) where
      root_here : (k : ℕ) (r : Side) → InTree ms k r → leaf ms (start r) ≡ true → ((s : Side) → InTree ms k s → leaf ms (start s) ≡ true → start r ≤ start s) → key_side (get_or roots k 0) ≡ r
      root_here k (side v a) t one low =
          let hv = (marked_small v a t.0).0 in
          let cv = ended.count v (omega arith) in
          let lone = eqb-true (length (filter (touches v) ms)) 1 one in
          let w = leaves v (omega arith) (cv ∙ lone) in
          let lw = w.low in
          let cx = ended.count w.leaf (omega arith) in
          let alone = w.alone in
          let mx = ended.other w.leaf (omega arith) (omega arith) in
          let lx = labelled.each w.leaf (omega arith) in
          let lv = labelled.each v (omega arith) in
          let same : label ms w.leaf ≡ k = sym lx ∙ w.of_tree ∙ lv ∙ t.1 in
          let up = low (side w.leaf (get_or others w.leaf 0)) (mx, same) (eq-eqb (length (filter (touches w.leaf) ms)) 1 (sym cx ∙ alone)) in
          let x : w.leaf ≡ v = omega arith in
          let b : get_or others w.leaf 0 ≡ a = one_end ms v (get_or others w.leaf 0) a lone (subst (λ z. Marked ms z (get_or others w.leaf 0)) x mx) t.0 in
          let small = (marked_small w.leaf (get_or others w.leaf 0) mx).1 in
          let key : get_or roots k 0 ≡ w.leaf * 16384 + get_or others w.leaf 0 = ap (λ i. get_or roots i 0) (sym (lv ∙ t.1)) ∙ w.key in
          ap key_side key ∙ key_of w.leaf (get_or others w.leaf 0) (omega arith) ∙ ap (λ z. side z (get_or others w.leaf 0)) x ∙ ap (side v) b

      pub root_found : (k : ℕ) → Mem k (trees V ms) → key_side (get_or roots k 0) ≡ root ms k
      root_found k m =
          let r = root_lowest V ms (λ s q. let e = marked_key s q in (e.0, e.1)) (closing_none own 0 (key_sides ks) (flags_of ns) forest) (λ s q. (marked_key s q).2) k m in
          root_here k (root ms k) r.0 r.1 r.2

      pub roots_picked : (sizes : List ℕ) → length sizes ≡ V → Sized ms sizes → key_sides (map (λ k. get_or roots k 0) (picked sizes (length sizes))) ≡ map (root ms) (trees V ms)
      roots_picked sizes n sized =
          map_map (λ k. get_or roots k 0) key_side (picked sizes (length sizes))
          ∙ ap (map (λ k. key_side (get_or roots k 0))) (trees_picked sizes n sized)
          ∙ map_same (λ k. key_side (get_or roots k 0)) (root ms) (trees V ms) root_found

-- ---- the first tree of one edge

drop_head : (xs : List ℕ) (n x : ℕ) (ys : List ℕ) → drop n xs ≡ x ∷ ys → (slice_get xs n ≡ Some x) × (drop (n + 1) xs ≡ ys)
drop_head xs n x ys e =
    ⊎_elim {C = (slice_get xs n ≡ Some x) × (drop (n + 1) xs ≡ ys)} (λ (h : n < length xs). let a = drop_more xs n 0 h in let b = slice_get-get_or xs n 0 h in let p : get_or xs n 0 ≡ x = cc in (b ∙ ap Some p, (cc)))
    (λ (h : length xs ≤ n). let a = drop_all n xs h in absurd (cc)) (cases_lt n (length xs))

two_edges : (m : ℕ) → eqb (2 * m) 2 ≡ eqb m 1
two_edges m = ⊎_elim (λ (e : m ≡ 1). eq-eqb (2 * m) 2 (omega arith) ∙ sym (eq-eqb m 1 e)) (λ (n : m ≡ 1 → ⊥). ne_eqb (2 * m) 2 (λ e. n (omega arith)) ∙ sym (ne_eqb m 1 n)) (cases_eq m 1)

single_from : (es : List Side) (ls : List ℕ) (n : ℕ) (ks : List ℕ) → drop n ls ≡ ks → first_single es ks ≡ option_and_then (slice_get ls) (position_from (λ (x : ℕ). eqb x 2) n (map (around es) ks))
single_from es ls n [] e = refl
single_from es ls n (k ∷ ks) e =
    let h = drop_head ls n k ks e in
    go (eqb (length (tree_edges es k)) 1) h.0 (single_from es ls (n + 1) ks h.1)
    ∙ ap (λ b. option_and_then (slice_get ls) (cond b (Some n) (position_from (λ (x : ℕ). eqb x 2) (n + 1) (map (around es) ks)))) (sym (two_edges (length (tree_edges es k))))
  where
    go : (b : Bool) → slice_get ls n ≡ Some k → first_single es ks ≡ option_and_then (slice_get ls) (position_from (λ (x : ℕ). eqb x 2) (n + 1) (map (around es) ks))
        → cond b (Some k) (first_single es ks) ≡ option_and_then (slice_get ls) (cond b (Some n) (position_from (λ (x : ℕ). eqb x 2) (n + 1) (map (around es) ks)))
    go true p q = sym p
    go false p q = q

pub single_found : (ms : List Side) (ks xs : List ℕ) → xs ≡ map (around ms) ks → option_and_then (slice_get ks) (position (λ (x : ℕ). eqb x 2) xs) ≡ first_single ms ks
single_found ms ks xs e =
    ap (option_and_then (slice_get ks)) (ap (position (λ (x : ℕ). eqb x 2)) e ∙ position_from-zero (λ (x : ℕ). eqb x 2) (map (around ms) ks))
    ∙ sym (single_from ms ks 0 ks refl)
