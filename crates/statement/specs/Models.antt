-- A model's base sheet and records.
use Rattle.std.specs.Prelude.{ℕ, List, [], ◌∷◌}
use Rattle.statement.specs.Items.{items_in}

-- the first item, no bytes where there is none
abbrev pub first_of : List (List ℕ) → List ℕ
first_of [] = []
first_of (x ∷ xs) = x

-- the items behind it
abbrev pub others_of : List (List ℕ) → List (List ℕ)
others_of [] = []
others_of (x ∷ xs) = xs

abbrev pub base_of : List ℕ → List ℕ
base_of model = first_of (items_in model)

-- all records
abbrev pub records_of : List ℕ → List (List ℕ)
records_of model = others_of (items_in model)
