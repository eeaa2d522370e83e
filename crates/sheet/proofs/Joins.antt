-- Bytes that are put one after another.
use Rattle.std.proofs.Common.{◌≡◌, ℕ, ◌+◌, ◌≤◌, List, [], ◌++◌, length, take, drop, sym, ap, ◌∙◌, add-zero, zero-add, arith}
use Rattle.std.proofs.lemmas.List.{append_assoc, length-append, length-take-le, take_at, drop_at, drop-drop, take-append-drop}
use Rattle.sheet.specs.Writing.{put_at}

-- bytes put right behind others are put with them
pub put_put : (at n : ℕ) (xs ys out : List ℕ) → at + length xs ≡ n → n + length ys ≤ length out → put_at n ys (put_at at xs out) ≡ put_at at (xs ++ ys) out
unfolding put_at
put_put at n xs ys out e h =
    let p = take at out ++ xs in
    let d = drop (at + length xs) out in
    let le : at ≤ length out = omega arith in
    let long : length p ≡ n = length-append (take at out) xs ∙ (ap (λ (k : ℕ). k + length xs) (length-take-le at out le) ∙ e) in
    let whole : put_at at xs out ≡ p ++ d = sym (append_assoc (take at out) xs d) in
    let front : take n (p ++ d) ≡ p = take_at p d n long in
    let sum : at + length xs + length ys ≡ at + length (xs ++ ys) = omega (arith, length-append xs ys) in
    let back : drop (n + length ys) (p ++ d) ≡ drop (at + length (xs ++ ys)) out =
    sym (drop-drop (length ys) n (p ++ d)) ∙ (ap (drop (length ys)) (drop_at p d n long) ∙ (drop-drop (length ys) (at + length xs) out ∙ ap (λ (k : ℕ). drop k out) sum)) in
    let joined : p ++ (ys ++ drop (at + length (xs ++ ys)) out) ≡ put_at at (xs ++ ys) out =
    append_assoc (take at out) xs (ys ++ drop (at + length (xs ++ ys)) out) ∙ ap (λ t. take at out ++ t) (sym (append_assoc xs ys (drop (at + length (xs ++ ys)) out))) in
    ap (put_at n ys) whole ∙ ((λ i. front i ++ (ys ++ back i)) ∙ joined)

-- the same for lists that are known by equations
pub put_next : (at n : ℕ) (xs ys out mid end : List ℕ) → at + length xs ≡ n → n + length ys ≤ length out → mid ≡ put_at at xs out → end ≡ put_at n ys mid → end ≡ put_at at (xs ++ ys) out
put_next at n xs ys out mid end e h p q = q ∙ (ap (put_at n ys) p ∙ put_put at n xs ys out e h)

pub put_none : (at : ℕ) (out : List ℕ) → put_at at [] out ≡ out
unfolding put_at
put_none at out = ap (λ (n : ℕ). take at out ++ drop n out) (add-zero at) ∙ take-append-drop at out

-- bytes put at the front
pub put_front : (bs out : List ℕ) → put_at 0 bs out ≡ bs ++ drop (length bs) out
unfolding put_at
put_front bs out = ap (λ (n : ℕ). bs ++ drop n out) (zero-add (length bs))
