-- Codes that end their parts, code after code and tree after tree.
use Rattle.std.proofs.Common.{◌≡◌, ℕ, zero, suc, ◌+◌, ◌-◌, ◌<◌, ◌≤◌, Bool, true, false, eqb, List, [], ◌∷◌, map, length, get_or, take, drop, Some, None, sym, refl, ap, ◌∙◌, arith, add-one, ne_eqb, length-take-le}
use borrow.Author.Tests.{clash}
use Rattle.std.proofs.lemmas.Bool.{cond-true, cond-false}
use Rattle.std.proofs.lemmas.List.{drop_more, drop_all, drop-map, take-map}
use Rattle.std.specs.List.{slice_range}
use Rattle.std.proofs.lemmas.Slice.{between_from_start}
use Rattle.forest.specs.Polygons.{Code, neither, only_left, only_right, both, after, closes}
use Rattle.forest.specs.Tables.{unclosed_from}
use Rattle.runs.specs.Parts.{code_of}

abbrev pub meant : List ℕ → List Code
meant cs = map code_of cs

-- as many codes end no part
pub closes_none : (n : ℕ) (cs : List Code) → 0 < n → false ≡ closes 0 n cs
closes_none zero cs h = absurd (omega arith)
closes_none (suc n) cs h = refl

-- one code more
pub closes_more : (cs : List ℕ) (i p : ℕ) → i < length cs → 0 < p
    → closes p (length cs - i) (meant (drop i cs)) ≡ closes (after (code_of (get_or cs i 0)) (p - 1)) (length cs - (i + 1)) (meant (drop (i + 1) cs))
closes_more cs i zero h l = absurd (omega arith)
closes_more cs i (suc p) h l =
    let n : length cs - i ≡ suc (length cs - (i + 1)) = omega arith in
    let e : suc p - 1 ≡ p = omega arith in
    ap (λ k. closes (suc p) k (meant (drop i cs))) n
    ∙ ap (λ xs. closes (suc p) (suc (length cs - (i + 1))) (meant xs)) (drop_more cs i 0 h)
    ∙ ap (λ k. closes (after (code_of (get_or cs i 0)) k) (length cs - (i + 1)) (meant (drop (i + 1) cs))) (sym e)

-- no code is left
pub closes_all : (cs : List ℕ) (i p : ℕ) → length cs ≤ i → eqb p 0 ≡ closes p (length cs - i) (meant (drop i cs))
closes_all cs i p h =
    let n : length cs - i ≡ 0 = omega arith in
    at_none p ∙ ap (λ k. closes p k (meant (drop i cs))) (sym n)
  where
    at_none : (p : ℕ) → eqb p 0 ≡ closes p 0 (meant (drop i cs))
    at_none zero = refl
    at_none (suc p) = ne_eqb (suc p) 0 (λ e. omega arith)

-- only the codes that are asked for count
pub closes_take : (o n : ℕ) (cs : List Code) → closes o n (take n cs) ≡ closes o n cs
closes_take zero zero cs = refl
closes_take zero (suc n) cs = refl
closes_take (suc o) zero cs = refl
closes_take (suc o) (suc n) [] = refl
closes_take (suc o) (suc n) (c ∷ cs) = closes_take (after c o) n cs

-- codes that close are there
pub closes_there : (o n : ℕ) (cs : List Code) → closes o n cs ≡ true → n ≤ length cs
closes_there zero zero cs e = omega arith
closes_there zero (suc n) cs e = absurd (clash e)
closes_there (suc o) zero cs e = absurd (clash e)
closes_there (suc o) (suc n) [] e = absurd (clash e)
closes_there (suc o) (suc n) (c ∷ cs) e = let h = closes_there (after c o) n cs e in omega arith

-- the next tree's codes close
pub unclosed_more : (i : ℕ) (ns cs : List ℕ) → i < length ns → closes 1 (get_or ns i 0 - 2) (meant cs) ≡ true
    → unclosed_from i (drop i ns) (meant cs) ≡ unclosed_from (i + 1) (drop (i + 1) ns) (meant (drop (get_or ns i 0 - 2) cs))
unclosed_more i ns cs h e =
    let n = get_or ns i 0 in
    let after = unclosed_from (suc i) (drop (i + 1) ns) (drop (n - 2) (meant cs)) in
    ap (λ ks. unclosed_from i ks (meant cs)) (drop_more ns i 0 h)
    ∙ cond-true (closes 1 (n - 2) (meant cs)) after (Some i) e
    ∙ ap (λ k. unclosed_from k (drop (i + 1) ns) (drop (n - 2) (meant cs))) (sym (add-one i))
    ∙ ap (λ ds. unclosed_from (i + 1) (drop (i + 1) ns) ds) (drop-map code_of (n - 2) cs)

-- they do not
pub unclosed_here : (i : ℕ) (ns cs : List ℕ) → i < length ns → closes 1 (get_or ns i 0 - 2) (meant cs) ≡ false → Some i ≡ unclosed_from i (drop i ns) (meant cs)
unclosed_here i ns cs h e =
    let n = get_or ns i 0 in
    sym (ap (λ ks. unclosed_from i ks (meant cs)) (drop_more ns i 0 h) ∙ cond-false (closes 1 (n - 2) (meant cs)) (unclosed_from (suc i) (drop (i + 1) ns) (drop (n - 2) (meant cs))) (Some i) e)

-- no tree is left
pub unclosed_all : (i : ℕ) (ns : List ℕ) (cs : List Code) → length ns ≤ i → None ≡ unclosed_from i (drop i ns) cs
unclosed_all i ns cs h = sym (ap (λ ks. unclosed_from i ks cs) (drop_all i ns h))

pub after_le : (c : Code) (n : ℕ) → after c n ≤ n + 2
after_le neither n = omega arith
after_le only_left n = omega arith
after_le only_right n = omega arith
after_le both n = omega arith

-- a test of the next n codes, where they are there
pub closes_front : (n : ℕ) (cs xs : List ℕ) → n ≤ length cs → xs ≡ slice_range cs 0 n → closes 1 (length xs) (meant xs) ≡ closes 1 n (meant cs)
closes_front n cs xs h e =
    let f : xs ≡ take n cs = e ∙ between_from_start cs n in
    let l : length xs ≡ n = ap length f ∙ length-take-le n cs h in
    ap (λ k. closes 1 k (meant xs)) l ∙ ap (λ ys. closes 1 n (meant ys)) f ∙ ap (λ ds. closes 1 n ds) (sym (take-map code_of n cs)) ∙ closes_take 1 n (meant cs)

-- they are not
pub closes_short : (o n : ℕ) (cs : List Code) → length cs < n → false ≡ closes o n cs
closes_short o n cs h = go (closes o n cs) refl
  where
    go : (b : Bool) → closes o n cs ≡ b → false ≡ b
    go true e = let l = closes_there o n cs e in absurd (omega arith)
    go false e = refl
