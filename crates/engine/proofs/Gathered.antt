-- Lowest leaves written at their labels, and the entries above 0 moved to the front.
use Rattle.std.proofs.Common.{◌≡◌, ℕ, ◌+◌, ◌*◌, ◌<◌, ◌≤◌, cond, ltb, ◌⊎◌, List, [], ◌∷◌, ◌++◌, map, length, get_or, set, take, sym, refl, ap, ◌∙◌, inl, inr, ⊎_elim, add-one, arith, get_or-set_same, get_or-set_other}
use Rattle.std.proofs.lemmas.Bool.{cases_eq, lt-ltb, le-ltb}
use Rattle.std.proofs.lemmas.List.{append-nil, take_more_set, map_push, length_push}
use Rattle.std.proofs.lemmas.List.Elements.{filter-append}
use Rattle.forest.specs.Trees.{below}
use Rattle.engine.specs.Tallies.{LeafBelow, picked}

-- ---- the lowest leaf of each label

pub leaf_at : (labels counts others roots : List ℕ) (v u : ℕ) → get_or labels v 0 < length roots → get_or counts v 0 ≡ 1 → v ≤ u
    → (v + 1 ≤ u → LeafBelow labels counts others roots u) → LeafBelow labels counts others (set roots (get_or labels v 0) (v * 16384 + get_or others v 0)) u
leaf_at labels counts others roots v u h one le more =
    ⊎_elim (λ (e : get_or labels u 0 ≡ get_or labels v 0).
    record {
      leaf = v;
      alone = one;
      of_tree = sym e;
      low = le;
      key = ap (λ i. get_or (set roots (get_or labels v 0) (v * 16384 + get_or others v 0)) i 0) e ∙ get_or-set_same roots (get_or labels v 0) (v * 16384 + get_or others v 0) 0 h;
    })
    (λ (n : get_or labels u 0 ≡ get_or labels v 0 → ⊥).
    let r = more (later_one n (cases_eq u v)) in
    record {
      leaf = r.leaf;
      alone = r.alone;
      of_tree = r.of_tree;
      low = r.low;
      key = get_or-set_other roots (get_or labels v 0) (get_or labels u 0) (v * 16384 + get_or others v 0) 0 n ∙ r.key;
    }) (cases_eq (get_or labels u 0) (get_or labels v 0))
  where
    later_one : (get_or labels u 0 ≡ get_or labels v 0 → ⊥) → (u ≡ v) ⊎ (u ≡ v → ⊥) → v + 1 ≤ u
    later_one n (inl e) = absurd (n (ap (λ i. get_or labels i 0) e))
    later_one n (inr m) = omega arith

-- ---- the entries above 0, moved to the front

pub record Gathered (sizes keys lowest arounds roots : List ℕ) (k count : ℕ) : Type 0 where
  pub counted : count ≡ length (picked sizes k)
  pub few : count ≤ k
  pub trees_there : take count lowest ≡ picked sizes k
  pub arounds_there : take count arounds ≡ map (λ k. 2 * get_or sizes k 0) (picked sizes k)
  pub roots_there : take count roots ≡ map (λ k. get_or keys k 0) (picked sizes k)
  pub arounds_left : (i : ℕ) → k ≤ i → get_or arounds i 0 ≡ get_or sizes i 0
  pub roots_left : (i : ℕ) → k ≤ i → get_or roots i 0 ≡ get_or keys i 0

pub gathered_none : (sizes keys lowest : List ℕ) → Gathered sizes keys lowest sizes keys 0 0
gathered_none sizes keys lowest = record {
  counted = refl;
  few = omega arith;
  trees_there = refl;
  arounds_there = refl;
  roots_there = refl;
  arounds_left = λ i h. refl;
  roots_left = λ i h. refl;
}

picked_at : (sizes : List ℕ) (k : ℕ) → picked sizes (k + 1) ≡ picked sizes k ++ cond (ltb 0 (get_or sizes k 0)) (k ∷ []) []
picked_at sizes k = ap (picked sizes) (add-one k) ∙ filter-append (λ k. ltb 0 (get_or sizes k 0)) (below k) (k ∷ [])

picked_more : (sizes : List ℕ) (k : ℕ) → 0 < get_or sizes k 0 → picked sizes (k + 1) ≡ picked sizes k ++ k ∷ []
picked_more sizes k h = picked_at sizes k ∙ ap (λ b. picked sizes k ++ cond b (k ∷ []) []) (lt-ltb 0 (get_or sizes k 0) h)

picked_same : (sizes : List ℕ) (k : ℕ) → get_or sizes k 0 ≤ 0 → picked sizes (k + 1) ≡ picked sizes k
picked_same sizes k h = picked_at sizes k ∙ ap (λ b. picked sizes k ++ cond b (k ∷ []) []) (le-ltb 0 (get_or sizes k 0) h) ∙ append-nil (picked sizes k)

module _ (sizes keys lowest arounds roots : List ℕ) (k count : ℕ) (g : Gathered sizes keys lowest arounds roots k count) where
  pub gathered_less : get_or arounds k 0 ≤ 0 → Gathered sizes keys lowest arounds roots (k + 1) count
  gathered_less h =
      let e = g.arounds_left k (omega arith) in
      let p = picked_same sizes k (omega arith) in
      record {
        counted = g.counted ∙ sym (ap length p);
        few = let f = g.few in omega arith;
        trees_there = g.trees_there ∙ sym p;
        arounds_there = g.arounds_there ∙ ap (map (λ k. 2 * get_or sizes k 0)) (sym p);
        roots_there = g.roots_there ∙ ap (map (λ k. get_or keys k 0)) (sym p);
        arounds_left = λ i h. g.arounds_left i (omega arith);
        roots_left = λ i h. g.roots_left i (omega arith);
      }

  pub gathered_more : 0 < get_or arounds k 0 → count < length lowest → count < length arounds → count < length roots
      → Gathered sizes keys (set lowest count k) (set arounds count (2 * get_or arounds k 0)) (set roots count (get_or roots k 0)) (k + 1) (count + 1)
  gathered_more h hl ha hr =
      let e = g.arounds_left k (omega arith) in
      let d = g.roots_left k (omega arith) in
      let p = picked_more sizes k (omega arith) in
      let f = g.few in
      record {
        counted = (let a = ap length p in let b = length_push (picked sizes k) k in let c = g.counted in omega arith);
        few = omega arith;
        trees_there = take_more_set lowest count k hl ∙ ap (λ xs. xs ++ k ∷ []) g.trees_there ∙ sym p;
        arounds_there = take_more_set arounds count (2 * get_or arounds k 0) ha ∙ ap (λ xs. xs ++ 2 * get_or arounds k 0 ∷ []) g.arounds_there
            ∙ ap (λ x. map (λ k. 2 * get_or sizes k 0) (picked sizes k) ++ 2 * x ∷ []) e
            ∙ sym (ap (map (λ k. 2 * get_or sizes k 0)) p ∙ map_push (λ k. 2 * get_or sizes k 0) (picked sizes k) k);
        roots_there = take_more_set roots count (get_or roots k 0) hr ∙ ap (λ xs. xs ++ get_or roots k 0 ∷ []) g.roots_there
            ∙ ap (λ x. map (λ k. get_or keys k 0) (picked sizes k) ++ x ∷ []) d
            ∙ sym (ap (map (λ k. get_or keys k 0)) p ∙ map_push (λ k. get_or keys k 0) (picked sizes k) k);
        arounds_left = λ i q. get_or-set_other arounds count i (2 * get_or arounds k 0) 0 (λ z. omega arith) ∙ g.arounds_left i (omega arith);
        roots_left = λ i q. get_or-set_other roots count i (get_or roots k 0) 0 (λ z. omega arith) ∙ g.roots_left i (omega arith);
      }
