-- Records selected, and what each is read as.
use Rattle.std.proofs.Common.{◌≡◌, List, length, map, take, sym, ap, ◌∙◌}
use Rattle.std.proofs.lemmas.List.{take-map, length-map}
use Rattle.statement.specs.declared.selection.Selection.{Selection}
use Rattle.statement.specs.Selections.{count_selected, selected}

pub map-selected : {X Y : Type 0} (f : X → Y) (selection : Selection) (xs : List X) → map f (selected selection xs) ≡ selected selection (map f xs)
map-selected f selection xs = sym (take-map f (count_selected selection (length xs)) xs) ∙ ap (λ n. take (count_selected selection n) (map f xs)) (sym (length-map xs f))
