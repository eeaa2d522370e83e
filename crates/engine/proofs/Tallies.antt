-- The marked edges at each vertex and of each tree, counted edge by edge.
use Rattle.std.proofs.Common.{◌≡◌, ℕ, suc, ◌+◌, ◌/◌, ◌%◌, ◌<◌, ◌≤◌, Bool, true, false, cond, ◌||◌, eqb, ◌⊎◌, List, [], ◌∷◌, length, filter, get_or, set, drop, sym, refl, ap, ◌∙◌, subst, inl, inr, ⊎_elim, arith, length-set, get_or-set_same, get_or-set_other, eq-eqb, eqb-true}
use Rattle.std.proofs.lemmas.Bool.{cases_eq, ne_eqb}
use Rattle.std.proofs.lemmas.List.{drop_more, drop_all, length-map}
use Rattle.mesh.specs.Lists.{Mem, now, later}
use Rattle.mesh.specs.Sides.{Side, side}
use Rattle.forest.specs.Marks.{Marked, marked_edges}
use Rattle.forest.specs.Trees.{label, start, tree_edges}
use Rattle.forest.specs.Roots.{touches}
use Rattle.forest.specs.Tables.{key_side, key_sides, flag_of, flags_of}
use Rattle.forest.proofs.Labels.{label_le}
use Rattle.engine.specs.Joining.{EndsBelow, Labelled, Falling}
use Rattle.engine.specs.Tallies.{Ended, Sized}
use Rattle.engine.specs.Marking.{marked, Upward}

-- ---- the marked edges that are left, one step on

module _ (ks ns : List ℕ) (e : ℕ) (h : e < length ks) (p : length ns ≡ length ks) where
  left_at : marked (drop e ks) (drop e ns) ≡ marked_edges (key_side (get_or ks e 0) ∷ key_sides (drop (e + 1) ks)) (flag_of (get_or ns e 0) ∷ flags_of (drop (e + 1) ns))
  left_at =
      ap (λ xs. marked xs (drop e ns)) (drop_more ks e 0 h)
      ∙ ap (λ xs. marked (get_or ks e 0 ∷ drop (e + 1) ks) xs) (drop_more ns e 0 (omega arith))

  pub left_marked : get_or ns e 0 ≡ 1 → marked (drop e ks) (drop e ns) ≡ key_side (get_or ks e 0) ∷ marked (drop (e + 1) ks) (drop (e + 1) ns)
  left_marked q = left_at ∙ ap (λ b. marked_edges (key_side (get_or ks e 0) ∷ key_sides (drop (e + 1) ks)) (b ∷ flags_of (drop (e + 1) ns))) (eq-eqb (get_or ns e 0) 1 q)

  pub left_unmarked : (get_or ns e 0 ≡ 1 → ⊥) → marked (drop e ks) (drop e ns) ≡ marked (drop (e + 1) ks) (drop (e + 1) ns)
  left_unmarked q = left_at ∙ ap (λ b. marked_edges (key_side (get_or ks e 0) ∷ key_sides (drop (e + 1) ks)) (b ∷ flags_of (drop (e + 1) ns))) (ne_eqb (get_or ns e 0) 1 q)

-- nothing is left at the end
pub left_none : (ks ns : List ℕ) (e : ℕ) → length ks ≤ e → marked (drop e ks) (drop e ns) ≡ []
left_none ks ns e h = ap (λ xs. marked xs (drop e ns)) (drop_all e ks h)

pub filter_le : {A : Type 0} (p : A → Bool) (xs : List A) → length (filter p xs) ≤ length xs
filter_le p [] = omega arith
filter_le p (x ∷ xs) = go (p x) (filter_le p xs)
  where
    go : (b : Bool) → length (filter p xs) ≤ length xs → length (cond b (x ∷ filter p xs) (filter p xs)) ≤ suc (length xs)
    go true h = omega arith
    go false h = omega arith

pub edges_le : (es : List Side) (bs : List Bool) → length (marked_edges es bs) ≤ length es
edges_le [] bs = omega arith
edges_le (e ∷ es) [] = omega arith
edges_le (e ∷ es) (true ∷ bs) = let h = edges_le es bs in omega arith
edges_le (e ∷ es) (false ∷ bs) = let h = edges_le es bs in omega arith

pub marked_le : (ks ns : List ℕ) → length (marked ks ns) ≤ length ks
marked_le ks ns = let h = edges_le (key_sides ks) (flags_of ns) in let e = length-map ks key_side in omega arith

-- 1 for yes
abbrev one : Bool → ℕ
one true = 1
one false = 0

bumped : (xs : List ℕ) (u v : ℕ) → u < length xs → get_or (set xs u (get_or xs u 0 + 1)) v 0 ≡ get_or xs v 0 + one (eqb u v)
bumped xs u v h =
    ⊎_elim (λ (e : v ≡ u). ap (λ i. get_or (set xs u (get_or xs u 0 + 1)) i 0) e ∙ get_or-set_same xs u (get_or xs u 0 + 1) 0 h ∙ ap (λ i. get_or xs i 0 + 1) (sym e) ∙ ap (λ b. get_or xs v 0 + one b) (sym (eq-eqb u v (sym e))))
    (λ (n : v ≡ u → ⊥). get_or-set_other xs u v (get_or xs u 0 + 1) 0 n ∙ (let z : get_or xs v 0 ≡ get_or xs v 0 + 0 = omega arith in z) ∙ ap (λ b. get_or xs v 0 + one b) (sym (ne_eqb u v (λ e. n (sym e))))) (cases_eq v u)

zero_sum : (n x : ℕ) → x ≡ 0 → x + n ≡ n
zero_sum n x e = omega arith

-- ---- the marked edges at each vertex

pub record Counting (ms left : List Side) (counts others : List ℕ) : Type 0 where
  pub count : (v : ℕ) → v < length counts → get_or counts v 0 + length (filter (touches v) left) ≡ length (filter (touches v) ms)
  pub other : (v : ℕ) → v < length counts → 0 < get_or counts v 0 → Marked ms v (get_or others v 0)
  pub within : (s : Side) → Mem s left → Mem s ms

pub counting_all : (ms : List Side) (counts others : List ℕ) → ((v : ℕ) → v < length counts → get_or counts v 0 ≡ 0) → Counting ms ms counts others
counting_all ms counts others z = record {
  count = λ v h. let e = z v h in omega arith;
  other = λ v h p. let e = z v h in absurd (omega arith);
  within = λ s m. m;
}

pub counting_same : (ms xs ys : List Side) (counts others : List ℕ) → xs ≡ ys → Counting ms xs counts others → Counting ms ys counts others
counting_same ms xs ys counts others e c = subst (λ zs. Counting ms zs counts others) e c

pub counting_end : (ms left : List Side) (counts others : List ℕ) → left ≡ [] → Counting ms left counts others → Ended ms counts others
counting_end ms left counts others e c = record {
  count = λ v h. let q = c.count v h in let z = ap (λ xs. length (filter (touches v) xs)) e in omega arith;
  other = c.other;
}

touch_more : (v i j : ℕ) (ss : List Side) → i < j → length (filter (touches v) (side i j ∷ ss)) ≡ one (eqb i v) + one (eqb j v) + length (filter (touches v) ss)
touch_more v i j ss h = go (eqb i v) (eqb j v) refl refl
  where
    go : (a b : Bool) → eqb i v ≡ a → eqb j v ≡ b → length (cond (a || b) (side i j ∷ filter (touches v) ss) (filter (touches v) ss)) ≡ one a + one b + length (filter (touches v) ss)
    go true true p q = let x = eqb-true i v p in let y = eqb-true j v q in absurd (omega arith)
    go true false p q = omega arith
    go false true p q = omega arith
    go false false p q = omega arith

module _ (ms rest : List Side) (i j : ℕ) (counts others : List ℕ) (hi : i < length counts) (hj : j < length counts) (up : i < j) (c : Counting ms (side i j ∷ rest) counts others) where
  pub room_low : get_or counts i 0 + 1 ≤ length ms
  room_low =
      let a = c.count i hi in
      let b = touch_more i i j rest up in
      let d : one (eqb i i) ≡ 1 = ap one (eq-eqb i i refl) in
      let f = filter_le (touches i) ms in omega arith

  pub room_high : get_or counts j 0 + 1 ≤ length ms
  room_high =
      let a = c.count j hj in
      let b = touch_more j i j rest up in
      let d : one (eqb j j) ≡ 1 = ap one (eq-eqb j j refl) in
      let f = filter_le (touches j) ms in omega arith

  module _ (counts1 counts2 others1 others2 : List ℕ) (eo : length others ≡ length counts) (c1 : counts1 ≡ set counts i (get_or counts i 0 + 1)) (c2 : counts2 ≡ set counts1 j (get_or counts1 j 0 + 1)) (o1 : others1 ≡ set others i j) (o2 : others2 ≡ set others1 j i) where
    length1 : length counts1 ≡ length counts
    length1 = ap length c1 ∙ length-set counts i (get_or counts i 0 + 1)

    length2 : length counts2 ≡ length counts
    length2 = ap length c2 ∙ length-set counts1 j (get_or counts1 j 0 + 1) ∙ length1

    length3 : length others1 ≡ length others
    length3 = ap length o1 ∙ length-set others i j

    count2 : (v : ℕ) → get_or counts2 v 0 ≡ get_or counts v 0 + one (eqb i v) + one (eqb j v)
    count2 v =
        let a = bumped counts i v hi in
        let l = length1 in
        let b = bumped counts1 j v (omega arith) in
        let x = ap (λ xs. get_or xs v 0) c1 in
        let y = ap (λ xs. get_or xs v 0) c2 in omega arith

    pub counting_more : Counting ms rest counts2 others2
    counting_more = record {
      count = λ v h.
          let l = length2 in
          let a = c.count v (omega arith) in
          let b = touch_more v i j rest up in
          let d = count2 v in omega arith;
      other = λ v h p. at_high v h p (cases_eq v j) (cases_eq v i);
      within = λ s m. c.within s (later m);
    }
      where
        here : Mem (side i j) ms
        here = c.within (side i j) now

        at_high : (v : ℕ) → v < length counts2 → 0 < get_or counts2 v 0 → (v ≡ j) ⊎ (v ≡ j → ⊥) → (v ≡ i) ⊎ (v ≡ i → ⊥) → Marked ms v (get_or others2 v 0)
        at_high v h p (inl e) d =
            let l = length3 in
            let w : get_or others2 v 0 ≡ i = ap (λ xs. get_or xs v 0) o2 ∙ ap (λ x. get_or (set others1 j i) x 0) e ∙ get_or-set_same others1 j i 0 (omega arith) in
            rw (w, e) (inr here)
        at_high v h p (inr n) (inl e) =
            let w : get_or others2 v 0 ≡ j = ap (λ xs. get_or xs v 0) o2 ∙ get_or-set_other others1 j v i 0 n ∙ ap (λ xs. get_or xs v 0) o1 ∙ ap (λ x. get_or (set others i j) x 0) e ∙ get_or-set_same others i j 0 (omega arith) in
            rw (w, e) (inl here)
        at_high v h p (inr n) (inr m) =
            let w : get_or others2 v 0 ≡ get_or others v 0 = ap (λ xs. get_or xs v 0) o2 ∙ get_or-set_other others1 j v i 0 n ∙ ap (λ xs. get_or xs v 0) o1 ∙ get_or-set_other others i v j 0 m in
            let l = length2 in
            let a = count2 v in
            let x : one (eqb i v) ≡ 0 = ap one (ne_eqb i v (λ e. m (sym e))) in
            let y : one (eqb j v) ≡ 0 = ap one (ne_eqb j v (λ e. n (sym e))) in
            rw w (c.other v (omega arith) (omega arith))

-- ---- the edges of each tree

pub record Sizing (ms left : List Side) (sizes : List ℕ) : Type 0 where
  pub each : (k : ℕ) → k < length sizes → get_or sizes k 0 + length (filter (λ m. eqb (label ms (start m)) k) left) ≡ length (tree_edges ms k)

pub sizing_all : (ms : List Side) (sizes : List ℕ) → ((v : ℕ) → v < length sizes → get_or sizes v 0 ≡ 0) → Sizing ms ms sizes
sizing_all ms sizes z = record { each = λ k h. zero_sum (length (tree_edges ms k)) (get_or sizes k 0) (z k h) }

pub sizing_same : (ms xs ys : List Side) (sizes : List ℕ) → xs ≡ ys → Sizing ms xs sizes → Sizing ms ys sizes
sizing_same ms xs ys sizes e c = subst (λ zs. Sizing ms zs sizes) e c

pub sizing_end : (ms left : List Side) (sizes : List ℕ) → left ≡ [] → Sizing ms left sizes → Sized ms sizes
sizing_end ms left sizes e c = record { each = λ k h. let q = c.each k h in let z = ap (λ xs. length (filter (λ m. eqb (label ms (start m)) k) xs)) e in omega arith }

size_more : (ms : List Side) (k i j : ℕ) (ss : List Side) → length (filter (λ m. eqb (label ms (start m)) k) (side i j ∷ ss)) ≡ one (eqb (label ms i) k) + length (filter (λ m. eqb (label ms (start m)) k) ss)
size_more ms k i j ss = go (eqb (label ms i) k)
  where
    go : (b : Bool) → length (cond b (side i j ∷ filter (λ m. eqb (label ms (start m)) k) ss) (filter (λ m. eqb (label ms (start m)) k) ss)) ≡ one b + length (filter (λ m. eqb (label ms (start m)) k) ss)
    go true = omega arith
    go false = omega arith

module _ (ms rest : List Side) (i j l : ℕ) (sizes : List ℕ) (e : l ≡ label ms i) (h : l < length sizes) (c : Sizing ms (side i j ∷ rest) sizes) where
  pub size_room : get_or sizes l 0 + 1 ≤ length ms
  size_room =
      let a = c.each l h in
      let b = size_more ms l i j rest in
      let d : one (eqb (label ms i) l) ≡ 1 = ap one (eq-eqb (label ms i) l (sym e)) in
      let f = filter_le (λ m. eqb (label ms (start m)) l) ms in omega arith

  pub sizing_more : Sizing ms rest (set sizes l (get_or sizes l 0 + 1))
  sizing_more = record {
    each = λ k q.
        let n = length-set sizes l (get_or sizes l 0 + 1) in
        let a = c.each k (omega arith) in
        let b = size_more ms k i j rest in
        let d = bumped sizes l k h in
        let f : one (eqb l k) ≡ one (eqb (label ms i) k) = ap (λ x. one (eqb x k)) e in omega arith;
  }

-- ---- one edge of a table

pub labels_fall : (ms : List Side) (ls : List ℕ) → Labelled ms ls → Falling ls
labels_fall ms ls l = record { each = λ v h. let e = l.each v h in let f = label_le ms v in omega arith }

module _ (ks ns : List ℕ) (e V : ℕ) (h : e < length ks) (p : length ns ≡ length ks) (ends : EndsBelow V ks) where
  abbrev all : List Side
  all = marked ks ns

  abbrev low : ℕ
  low = get_or ks e 0 / 16384

  abbrev high : ℕ
  high = get_or ks e 0 % 16384

  module _ (q : get_or ns e 0 ≡ 1) (up : Upward ks) (counts others : List ℕ) (n : length counts ≡ V) (inv : Counting all (marked (drop e ks) (drop e ns)) counts others) where
    at_low : low < length counts
    at_low = let a = ends.low e h in omega arith

    at_high : high < length counts
    at_high = let a = ends.high e h in omega arith

    first_left : Counting all (side low high ∷ marked (drop (e + 1) ks) (drop (e + 1) ns)) counts others
    first_left = counting_same all (marked (drop e ks) (drop e ns)) (side low high ∷ marked (drop (e + 1) ks) (drop (e + 1) ns)) counts others (left_marked ks ns e h p q) inv

    pub low_room : get_or counts low 0 + 1 ≤ length ks
    low_room = let a = room_low all (marked (drop (e + 1) ks) (drop (e + 1) ns)) low high counts others at_low at_high (up e h) first_left in let b = marked_le ks ns in omega arith

    pub high_room : (counts1 : List ℕ) → counts1 ≡ set counts low (get_or counts low 0 + 1) → get_or counts1 high 0 + 1 ≤ length ks
    high_room counts1 c1 =
        let a = room_high all (marked (drop (e + 1) ks) (drop (e + 1) ns)) low high counts others at_low at_high (up e h) first_left in
        let b = marked_le ks ns in
        let u = up e h in
        let d = ap (λ xs. get_or xs high 0) c1 ∙ get_or-set_other counts low high (get_or counts low 0 + 1) 0 (λ z. omega arith) in omega arith

    pub edge_counted : (counts1 counts2 others1 others2 : List ℕ) → length others ≡ length counts → counts1 ≡ set counts low (get_or counts low 0 + 1) → counts2 ≡ set counts1 high (get_or counts1 high 0 + 1)
        → others1 ≡ set others low high → others2 ≡ set others1 high low → Counting all (marked (drop (e + 1) ks) (drop (e + 1) ns)) counts2 others2
    edge_counted = counting_more all (marked (drop (e + 1) ks) (drop (e + 1) ns)) low high counts others at_low at_high (up e h) first_left

  module _ (q : get_or ns e 0 ≡ 1) (labels : List ℕ) (nl : length labels ≡ V) (labelled : Labelled all labels) (sizes : List ℕ) (n : length sizes ≡ V) (inv : Sizing all (marked (drop e ks) (drop e ns)) sizes) where
    pub label_at : get_or labels low 0 < length sizes
    label_at = let a = ends.low e h in let b = (labels_fall all labels labelled).each low (omega arith) in omega arith

    label_is : get_or labels low 0 ≡ label all low
    label_is = let a = ends.low e h in labelled.each low (omega arith)

    size_left : Sizing all (side low high ∷ marked (drop (e + 1) ks) (drop (e + 1) ns)) sizes
    size_left = sizing_same all (marked (drop e ks) (drop e ns)) (side low high ∷ marked (drop (e + 1) ks) (drop (e + 1) ns)) sizes (left_marked ks ns e h p q) inv

    pub label_room : get_or sizes (get_or labels low 0) 0 + 1 ≤ length ks
    label_room = let a = size_room all (marked (drop (e + 1) ks) (drop (e + 1) ns)) low high (get_or labels low 0) sizes label_is label_at size_left in let b = marked_le ks ns in omega arith

    pub edge_sized : Sizing all (marked (drop (e + 1) ks) (drop (e + 1) ns)) (set sizes (get_or labels low 0) (get_or sizes (get_or labels low 0) 0 + 1))
    edge_sized = sizing_more all (marked (drop (e + 1) ks) (drop (e + 1) ns)) low high (get_or labels low 0) sizes label_is label_at size_left
