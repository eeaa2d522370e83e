-- The runs of a tree take their numbers one after another, and so do the trees.
use Rattle.std.proofs.Common.{◌≡◌, ℕ, ◌+◌, ◌<◌, ◌≤◌, Bool, cond, List, [], ◌∷◌, ◌++◌, map, length, get_or, set, take, drop, Some, sym, refl, ap, ◌∙◌, arith}
use Rattle.std.specs.List.{slice_get, take-map, drop-map}
use Rattle.std.proofs.lemmas.Option.{slice_get_within}
use Rattle.std.proofs.lemmas.List.{take_more, take_more_set, take_all, drop_more, map-append, drop-drop, length-map, length-append, length-drop, length-take}
use Rattle.mesh.specs.Triangles.{Tri, tri}
use Rattle.mesh.specs.Sides.{Side}
use Rattle.mesh.proofs.Indexed.{take_next}
use Rattle.forest.specs.Numbering.{passes, renamed, renumber, run_numbers}
use Rattle.forest.specs.Tables.{key_side, key_sides, flag_of, flags_of, renumbered, word_tris}
use Rattle.forest.specs.Theorems.{sum}
use Rattle.forest.proofs.Naming.{renamed_same}
use Rattle.engine.specs.Corners.{Renumbers}
use Rattle.engine.proofs.Runs.{then_numbers, same_numbers}

pub run_numbers_length : (ns : List ℕ) → length (run_numbers ns) ≡ length ns
run_numbers_length ns = let a = length-append (drop 1 ns) (take 1 ns) in let d = length-drop 1 ns in let t = length-take 1 ns in omega arith

-- one run more
renumber_more : (ts : List Tri) (ms : List Side) (m : Bool) (ss : List Side) (ns : List ℕ) (s : Side) (n v x y w : ℕ) → length ss ≡ length ns
    → renumber ts ms m (ss ++ s ∷ []) (ns ++ n ∷ []) v x y w ≡ cond (passes ts ms m v x y s) n (renumber ts ms m ss ns v x y w)
renumber_more ts ms m [] [] s n v x y w e = refl
renumber_more ts ms m [] (k ∷ ns) s n v x y w e = absurd (omega arith)
renumber_more ts ms m (r ∷ ss) [] s n v x y w e = absurd (omega arith)
renumber_more ts ms m (r ∷ ss) (k ∷ ns) s n v x y w e = renumber_more ts ms m ss ns s n v x y (cond (passes ts ms m v x y r) k w) (omega arith)

pub tree_none : (ts : List Tri) (ms : List Side) (m : Bool) (ks ns ws : List ℕ) → Renumbers ts ws ws (renumber ts ms m (key_sides (take 0 ks)) (take 0 ns))
tree_none ts ms m ks ns ws = same_numbers ts ws (renumber ts ms m [] []) (λ x y z w. refl)

pub tree_more : (ts : List Tri) (ms : List Side) (m : Bool) (ks ns old new after : List ℕ) (i n : ℕ) → Renumbers ts old new (renumber ts ms m (key_sides (take i ks)) (take i ns))
    → Renumbers ts new after (λ x y z w. cond (passes ts ms m x y z (key_side (get_or ks i 0))) n w) → n ≡ get_or ns i 0 → i < length ks → length ns ≡ length ks
    → Renumbers ts old after (renumber ts ms m (key_sides (take (i + 1) ks)) (take (i + 1) ns))
tree_more ts ms m ks ns old new after i n p q e h l =
    then_numbers ts old new after (renumber ts ms m (key_sides (take i ks)) (take i ns)) (λ x y z w. cond (passes ts ms m x y z (key_side (get_or ks i 0))) n w)
    (renumber ts ms m (key_sides (take (i + 1) ks)) (take (i + 1) ns)) p q go
  where
    fits : length (key_sides (take i ks)) ≡ length (take i ns)
    fits = let a = length-map (take i ks) key_side in let b = length-take i ks in let c = length-take i ns in omega arith

    go : (x y z w : ℕ) → cond (passes ts ms m x y z (key_side (get_or ks i 0))) n (renumber ts ms m (key_sides (take i ks)) (take i ns) x y z w) ≡ renumber ts ms m (key_sides (take (i + 1) ks)) (take (i + 1) ns) x y z w
    go x y z w =
        sym (renumber_more ts ms m (key_sides (take i ks)) (take i ns) (key_side (get_or ks i 0)) n x y z w fits)
        ∙ (ap (λ ss. renumber ts ms m ss (take i ns ++ n ∷ []) x y z w) (sym (map-append key_side (take i ks) (get_or ks i 0 ∷ [])) ∙ ap key_sides (sym (take_more ks i 0 h)))
        ∙ ap (λ us. renumber ts ms m (key_sides (take (i + 1) ks)) us x y z w) (ap (λ k. take i ns ++ k ∷ []) e ∙ sym (take_more ns i 0 (omega arith))))

pub tree_all : (ts : List Tri) (ms : List Side) (m : Bool) (ks ns old new : List ℕ) (i : ℕ) → Renumbers ts old new (renumber ts ms m (key_sides (take i ks)) (take i ns)) → length ks ≤ i → length ns ≤ i
    → Renumbers ts old new (renumber ts ms m (key_sides ks) ns)
tree_all ts ms m ks ns old new i p h l f w =
    p f w ∙ (ap (λ js. map (renamed (λ v x y. renumber ts ms m (key_sides js) (take i ns) v x y (f v x y))) ts) (take_all i ks h)
    ∙ ap (λ us. map (renamed (λ v x y. renumber ts ms m (key_sides ks) us v x y (f v x y))) ts) (take_all i ns l))

-- the number of what is left, and the trees so far
sum_left : (ns : List ℕ) (k at n : ℕ) → at + sum (drop k ns) ≡ n → k < length ns → at + get_or ns k 0 + sum (drop (k + 1) ns) ≡ n
sum_left ns k at n e h = let s = ap sum (drop_more ns k 0 h) in omega arith

sum_append : (ns : List ℕ) (n : ℕ) → sum (ns ++ n ∷ []) ≡ sum ns + n
sum_append [] n = omega arith
sum_append (m ∷ ns) n = let h = sum_append ns n in omega arith

renumbered_more : (ts : List Tri) (ms : List Side) (ns : List ℕ) (bs : List Bool) (ss : List Side) (us : List ℕ) (n : ℕ) (b : Bool) (v x y w : ℕ) → length ns ≡ length bs
    → renumbered ts ms (ns ++ n ∷ []) (bs ++ b ∷ []) ss us v x y w
    ≡ renumber ts ms b (take n (drop (sum ns) ss)) (run_numbers (take n (drop (sum ns) us))) v x y (renumbered ts ms ns bs ss us v x y w)
renumbered_more ts ms [] [] ss us n b v x y w e = refl
renumbered_more ts ms [] (c ∷ bs) ss us n b v x y w e = absurd (omega arith)
renumbered_more ts ms (m ∷ ns) [] ss us n b v x y w e = absurd (omega arith)
renumbered_more ts ms (m ∷ ns) (c ∷ bs) ss us n b v x y w e =
    let w' = renumber ts ms c (take m ss) (run_numbers (take m us)) v x y w in
    renumbered_more ts ms ns bs (drop m ss) (drop m us) n b v x y w' (omega arith)
    ∙ (ap (λ rs. renumber ts ms b (take n rs) (run_numbers (take n (drop (sum ns) (drop m us)))) v x y (renumbered ts ms ns bs (drop m ss) (drop m us) v x y w')) (drop-drop (sum ns) m ss)
    ∙ ap (λ rs. renumber ts ms b (take n (drop (m + sum ns) ss)) (run_numbers (take n rs)) v x y (renumbered ts ms ns bs (drop m ss) (drop m us) v x y w')) (drop-drop (sum ns) m us))

-- the first k trees are done, and the next begins with the position `at`
pub record Trees (ts : List Tri) (ms : List Side) (ns bs ks us : List ℕ) (k at : ℕ) (ws : List ℕ) : Type 0 where
  pub begun : at ≡ sum (take k ns)
  pub room : at + sum (drop k ns) ≡ length ks
  pub done : word_tris ws ≡ map (renamed (λ v x y. renumbered ts ms (take k ns) (flags_of (take k bs)) (key_sides ks) us v x y v)) ts

own_corners : (ts : List Tri) → ts ≡ map (renamed (λ v x y. v)) ts
own_corners [] = refl
own_corners (tri a b c ∷ ts) = ap (λ us. tri a b c ∷ us) (own_corners ts)

pub trees_none : (ts : List Tri) (ms : List Side) (ns bs ks us ws : List ℕ) → sum ns ≡ length ks → word_tris ws ≡ ts → Trees ts ms ns bs ks us 0 0 ws
trees_none ts ms ns bs ks us ws e w = record { begun = refl; room = omega arith; done = w ∙ own_corners ts }

pub trees_more : (ts : List Tri) (ms : List Side) (ns bs ks us ws after : List ℕ) (k at m n : ℕ) → Trees ts ms ns bs ks us k at ws
    → k < length ns → length bs ≡ length ns → m ≡ get_or ns k 0 → n ≡ at + m
    → Renumbers ts ws after (renumber ts ms (flag_of (get_or bs k 0)) (key_sides (take m (drop at ks))) (run_numbers (take m (drop at us))))
    → Trees ts ms ns bs ks us (k + 1) n after
trees_more ts ms ns bs ks us ws after k at m n t h l e d p =
    let z = t.begun in
    let s = ap sum (take_more ns k 0 h) ∙ sum_append (take k ns) (get_or ns k 0) in
    let r = sum_left ns k at (length ks) t.room h in
    record {
      begun = omega arith;
      room = omega arith;
      done = p (λ v x y. renumbered ts ms (take k ns) (flags_of (take k bs)) (key_sides ks) us v x y v) t.done
          ∙ renamed_same (λ v x y. renumber ts ms b (key_sides (take m (drop at ks))) (run_numbers (take m (drop at us))) v x y (so_far v x y))
          (λ v x y. renumbered ts ms (take (k + 1) ns) (flags_of (take (k + 1) bs)) (key_sides ks) us v x y v) ts (λ v x y i. go v x y);
    }
  where
    b : Bool
    b = flag_of (get_or bs k 0)

    so_far : ℕ → ℕ → ℕ → ℕ
    so_far v x y = renumbered ts ms (take k ns) (flags_of (take k bs)) (key_sides ks) us v x y v

    fits : length (take k ns) ≡ length (flags_of (take k bs))
    fits = let a = length-map (take k bs) flag_of in let c = length-take k bs in let f = length-take k ns in omega arith

    go : (v x y : ℕ) → renumber ts ms b (key_sides (take m (drop at ks))) (run_numbers (take m (drop at us))) v x y (so_far v x y)
        ≡ renumbered ts ms (take (k + 1) ns) (flags_of (take (k + 1) bs)) (key_sides ks) us v x y v
    go v x y =
        ap (λ rs. renumber ts ms b rs (run_numbers (take m (drop at us))) v x y (so_far v x y)) (sym (take-map key_side m (drop at ks)) ∙ ap (take m) (sym (drop-map key_side at ks)))
        ∙ (ap (λ i. renumber ts ms b (take m (drop i (key_sides ks))) (run_numbers (take m (drop i us))) v x y (so_far v x y)) t.begun
        ∙ (ap (λ i. renumber ts ms b (take i (drop (sum (take k ns)) (key_sides ks))) (run_numbers (take i (drop (sum (take k ns)) us))) v x y (so_far v x y)) e
        ∙ (sym (renumbered_more ts ms (take k ns) (flags_of (take k bs)) (key_sides ks) us (get_or ns k 0) b v x y v fits)
        ∙ (ap (λ is. renumbered ts ms is (flags_of (take k bs) ++ b ∷ []) (key_sides ks) us v x y v) (sym (take_more ns k 0 h))
        ∙ ap (λ cs. renumbered ts ms (take (k + 1) ns) cs (key_sides ks) us v x y v) (sym (ap flags_of (take_more bs k 0 (omega arith)) ∙ map-append flag_of (take k bs) (get_or bs k 0 ∷ [])))))))

pub trees_all : (ts : List Tri) (ms : List Side) (ns bs ks us ws : List ℕ) (k at : ℕ) → Trees ts ms ns bs ks us k at ws → length ns ≤ k → length bs ≤ k
    → word_tris ws ≡ map (renamed (λ v x y. renumbered ts ms ns (flags_of bs) (key_sides ks) us v x y v)) ts
trees_all ts ms ns bs ks us ws k at t h l =
    t.done ∙ (ap (λ is. map (renamed (λ v x y. renumbered ts ms is (flags_of (take k bs)) (key_sides ks) us v x y v)) ts) (take_all k ns h)
    ∙ ap (λ cs. map (renamed (λ v x y. renumbered ts ms ns (flags_of cs) (key_sides ks) us v x y v)) ts) (take_all k bs l))

-- one triangle more is copied, and all are
pub copied_more : (ts : List Tri) (ws after : List ℕ) (k j : ℕ) (x : Tri) → take k (word_tris ws) ≡ take k ts → length (word_tris ws) ≡ length ts → slice_get ts k ≡ Some x
    → word_tris after ≡ set (word_tris ws) k x → j ≡ k + 1 → take j (word_tris after) ≡ take j ts
copied_more ts ws after k j x e l i w d =
    let h = slice_get_within ts k x i in
    ap (λ n. take n (word_tris after)) d
    ∙ (ap (take (k + 1)) w ∙ (take_more_set (word_tris ws) k x (omega arith) ∙ (ap (λ us. us ++ x ∷ []) e ∙ (sym (take_next ts k x i) ∙ ap (λ n. take n ts) (sym d)))))

pub copied_all : (ts : List Tri) (ws : List ℕ) (k : ℕ) → take k (word_tris ws) ≡ take k ts → length (word_tris ws) ≡ length ts → length ts ≤ k → word_tris ws ≡ ts
copied_all ts ws k e l h = sym (take_all k (word_tris ws) (omega arith)) ∙ (e ∙ take_all k ts h)
