-- Which records the shop carries out.
use Rattle.std.specs.Prelude.{ℕ, ◌/◌, min, List, length, take}
use Rattle.statement.specs.declared.selection.Selection.{Selection}
use Rattle.statement.specs.declared.selection.Selection.TheVariants.{Half, First}

-- how many, of so many
abbrev pub count_selected : Selection → ℕ → ℕ
count_selected Half n = n / 2
count_selected (First count) n = min count n

-- the first of them
abbrev pub selected : {R : Type 0} → Selection → List R → List R
selected selection records = take (count_selected selection (length records)) records
