-- The items of a model's bytes.
use Rattle.std.specs.Prelude.{ℕ, zero, suc, ◌+◌, List, [], ◌∷◌, length, take, drop, min}
use Rattle.place.specs.Words.{word}
use Rattle.statement.specs.declared.model.Items.{Items}

-- how many bytes the first item has: four and as many as they tell, or all bytes where there are fewer
abbrev pub first_size : List ℕ → ℕ
first_size bs = min (word bs 0 + 4) (length bs)

-- at most n items, one behind the other
abbrev pub items_within : ℕ → List ℕ → List (List ℕ)
items_within zero bs = []
items_within (suc n) [] = []
items_within (suc n) (b ∷ bs) = take (first_size (b ∷ bs)) (b ∷ bs) ∷ items_within n (drop (first_size (b ∷ bs)) (b ∷ bs))

-- all items; none is empty, so there are no more than bytes
abbrev pub items_in : List ℕ → List (List ℕ)
items_in bs = items_within (length bs) bs

-- the items that are still to be handed out
abbrev pub items_left : Items → List (List ℕ)
items_left s = items_in s.rest.now
