-- The first item of some bytes, and those that are left behind it.
use Rattle.std.proofs.Common.{◌≡◌, ℕ, zero, suc, ◌≤◌, ◌<◌, List, [], ◌∷◌, length, take, drop, refl, sym, ap, ◌∙◌, arith}
use Rattle.std.proofs.lemmas.List.{length-drop}
use Rattle.place.specs.Words.{word}
use Rattle.statement.specs.Items.{first_size, items_within, items_in}

-- an item takes a byte at least
size_some : (b : ℕ) (bs : List ℕ) → 1 ≤ first_size (b ∷ bs)
size_some b bs = let w = word (b ∷ bs) 0 in omega arith

-- where there are no more bytes than items allowed, allowing more changes nothing
within_enough : (n m : ℕ) (bs : List ℕ) → length bs ≤ n → length bs ≤ m → items_within n bs ≡ items_within m bs
within_enough zero zero bs h k = refl
within_enough zero (suc m) [] h k = refl
within_enough zero (suc m) (b ∷ bs) h k = absurd (omega arith)
within_enough (suc n) zero [] h k = refl
within_enough (suc n) zero (b ∷ bs) h k = absurd (omega arith)
within_enough (suc n) (suc m) [] h k = refl
within_enough (suc n) (suc m) (b ∷ bs) h k =
    let size = first_size (b ∷ bs) in
    let some = size_some b bs in
    let less = length-drop size (b ∷ bs) in
    ap (λ xs. take size (b ∷ bs) ∷ xs) (within_enough n m (drop size (b ∷ bs)) (omega arith) (omega arith))

pub first_item : (bs front back : List ℕ) → 0 < length bs → front ≡ take (first_size bs) bs → back ≡ drop (first_size bs) bs → items_in bs ≡ front ∷ items_in back
first_item [] front back h e i = absurd (omega arith)
first_item (b ∷ bs) front back h e i =
    let size = first_size (b ∷ bs) in
    let some = size_some b bs in
    let less = length-drop size (b ∷ bs) in
    let rest = drop size (b ∷ bs) in
    let same : items_within (length bs) rest ≡ items_within (length rest) rest = within_enough (length bs) (length rest) rest (omega arith) (omega arith) in
    (λ j. sym e j ∷ same j) ∙ ap (λ xs. front ∷ items_in xs) (sym i)
