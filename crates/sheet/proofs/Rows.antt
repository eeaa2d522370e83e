-- What is written for each item of a list, one after another.
use Rattle.std.proofs.Common.{◌≡◌, ℕ, zero, suc, ◌+◌, ◌*◌, ◌<◌, ◌≤◌, true, List, [], ◌∷◌, ◌++◌, length, take, drop, Some, sym, refl, ap, ◌∙◌, subst, ⊎_elim, suc-mul, zero-mul, arith}
use Rattle.std.specs.List.{slice_get}
use Rattle.std.proofs.lemmas.List.{append_assoc, append-nil, length-append, drop_at, drop-drop, take_all, length-take-le}
use Rattle.place.specs.Kinds.{Kind}
use Rattle.mesh.specs.Lists.{Mem}
use Rattle.mesh.specs.Meshes.{Vertex}
use Rattle.mesh.proofs.Members.{mem_cases, mem_split}
use Rattle.mesh.proofs.Tests.{some_inj, none_some}
use Rattle.mesh.proofs.Indexed.{rows_below, take_next}
use Rattle.sheet.specs.Writing.{rows, put_at}
use Rattle.sheet.specs.ReadBack.{Held}
use Rattle.sheet.proofs.Joins.{put_next}

-- what holds of the first i items and of the next one
pub each_more : {X : Type 0} (Q : X → Type 0) (xs : List X) (i : ℕ) (x : X) → i < length xs → slice_get xs i ≡ Some x → ((y : X) → Mem y (take i xs) → Q y) → Q x → (y : X) → Mem y (take (i + 1) xs) → Q y
each_more {X} Q xs i x h e f q y m =
    let n : Mem y (take i xs ++ x ∷ []) = subst (λ (ys : List X). Mem y ys) (take_next xs i x e) m in
    ⊎_elim {C = Q y} (λ k. f y k) (λ k. ⊎_elim {C = Q y} (λ (s : y ≡ x). subst Q (sym s) q) (λ z. elim z [ ]) (mem_cases k)) (mem_split (take i xs) n)

-- what holds of all the first n items, where there are n
pub each_all : {X : Type 0} (Q : X → Type 0) (xs : List X) (n : ℕ) → n ≡ length xs → ((y : X) → Mem y (take n xs) → Q y) → (y : X) → Mem y xs → Q y
each_all {X} Q xs n e f y m = f y (subst (λ (ys : List X). Mem y ys) (sym (take_all n xs (omega arith))) m)

module _ {P D : Type 0} (k : Kind P D) where
  pub held_more : (vs : List (Vertex P)) (i : ℕ) (v : Vertex P) → i < length vs → slice_get vs i ≡ Some v → Held k (take i vs) → k.holds v.place ≡ true → Held k (take (i + 1) vs)
  held_more vs i v h e f q = each_more (λ (y : Vertex P). k.holds y.place ≡ true) vs i v h e f q

  pub held_all : (vs : List (Vertex P)) (n : ℕ) → n ≡ length vs → Held k (take n vs) → Held k vs
  held_all vs n e f = each_all (λ (y : Vertex P). k.holds y.place ≡ true) vs n e f

module _ {X : Type 0} (f : X → List ℕ) where
  pub rows_append : (xs ys : List X) → rows f (xs ++ ys) ≡ rows f xs ++ rows f ys
  rows_append [] ys = refl
  rows_append (x ∷ xs) ys = ap (λ t. f x ++ t) (rows_append xs ys) ∙ sym (append_assoc (f x) (rows f xs) (rows f ys))

  -- one row more
  pub rows_more : (xs : List X) (i : ℕ) (x : X) → i < length xs → slice_get xs i ≡ Some x → rows f (take (i + 1) xs) ≡ rows f (take i xs) ++ f x
  rows_more xs i x h e = ap (rows f) (take_next xs i x e) ∙ (rows_append (take i xs) (x ∷ []) ∙ ap (λ t. rows f (take i xs) ++ t) (append-nil (f x)))

  -- all rows
  pub rows_all : (at n : ℕ) (xs : List X) (out end : List ℕ) → n ≡ length xs → end ≡ put_at at (rows f (take n xs)) out → end ≡ put_at at (rows f xs) out
  rows_all at n xs out end e p = p ∙ ap (λ (ys : List X). put_at at (rows f ys) out) (take_all n xs (omega arith))

  module _ (w : ℕ) (long : (x : X) → length (f x) ≡ w) where
    pub rows_length : (xs : List X) → length (rows f xs) ≡ length xs * w
    rows_length [] = sym (zero-mul w)
    rows_length (x ∷ xs) = length-append (f x) (rows f xs) ∙ (let r = rows_length xs in let l = long x in let s = suc-mul (length xs) w in omega arith)

    -- row i begins where i rows end
    pub rows_at : (xs : List X) (tail : List ℕ) (i : ℕ) (x : X) → slice_get xs i ≡ Some x → (rest : List ℕ) × (drop (i * w) (rows f xs ++ tail) ≡ f x ++ rest)
    rows_at [] tail i x e = none_some e
    rows_at (y ∷ ys) tail zero x e =
        let s : y ≡ x = some_inj e in
        (rows f ys ++ tail, ap (λ (n : ℕ). drop n ((f y ++ rows f ys) ++ tail)) (zero-mul w) ∙ (append_assoc (f y) (rows f ys) tail ∙ ap (λ (z : X). f z ++ (rows f ys ++ tail)) s))
    rows_at (y ∷ ys) tail (suc i) x e =
        let r = rows_at ys tail i x e in
        let n : suc i * w ≡ w + i * w = let s = suc-mul i w in omega arith in
        (r.0, ap (λ (n : ℕ). drop n ((f y ++ rows f ys) ++ tail)) n ∙ (sym (drop-drop (i * w) w ((f y ++ rows f ys) ++ tail)) ∙ (ap (λ t. drop (i * w) (drop w t)) (append_assoc (f y) (rows f ys) tail) ∙ (ap (drop (i * w)) (drop_at (f y) (rows f ys ++ tail) w (long y)) ∙ r.1))))

    -- row i put behind the rows before it
    pub row_put : (at n i : ℕ) (xs : List X) (x : X) (out mid end : List ℕ) → i < length xs → slice_get xs i ≡ Some x → at + length xs * w ≤ length out → n ≡ at + i * w → mid ≡ put_at at (rows f (take i xs)) out → end ≡ put_at n (f x) mid → end ≡ put_at at (rows f (take (i + 1) xs)) out
    row_put at n i xs x out mid end h e room e' p q =
        let rows_before : length (rows f (take i xs)) ≡ i * w = rows_length (take i xs) ∙ ap (λ (j : ℕ). j * w) (length-take-le i xs (omega arith)) in
        let below = rows_below i (length xs) w h in
        let one = long x in
        put_next at n (rows f (take i xs)) (f x) out mid end (omega arith) (omega arith) p q ∙ ap (λ t. put_at at t out) (sym (rows_more xs i x h e))
