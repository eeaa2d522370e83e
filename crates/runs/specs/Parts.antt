-- What the bytes of a record say for a mesh with so many edges.
use Rattle.std.specs.Prelude.{ℕ, zero, suc, ◌*◌, Bool, cond, List, [], ◌∷◌, map, drop, Some, None, Option, ◌==◌, nat_eq}
use Rattle.place.specs.Kinds.{Kind}
use Rattle.record.specs.Parts.{marks_read, codes_read, displacements_of, set_count}
use Rattle.forest.specs.Polygons.{Code, neither, only_left, only_right, both}

-- for each edge, whether its mark is set
abbrev pub record_marks : List ℕ → ℕ → List Bool
record_marks bs edges = map (λ n. nat_eq n 1) (marks_read bs edges)

-- the code of a number; it has two bits
abbrev pub code_of : ℕ → Code
code_of n = cond (n == 0) neither (cond (n == 1) only_left (cond (n == 2) only_right both))

abbrev pub record_codes : List ℕ → ℕ → List Code
record_codes bs edges = map code_of (codes_read bs edges)

-- the item in front of the list, where there is one
abbrev pub in_front : {X : Type 0} → Option X → List X → List X
in_front (Some x) xs = x ∷ xs
in_front None xs = xs

-- n displacements, one behind the other; a displacement reads wherever its bytes are there
abbrev pub displacements_read : {P D : Type 0} → Kind P D → ℕ → List ℕ → List D
displacements_read k zero bs = []
displacements_read k (suc n) bs = in_front (k.read_displacement bs) (displacements_read k n (drop k.displacement_width bs))

-- two displacements for each mark that is set
abbrev pub record_displacements : {P D : Type 0} → Kind P D → List ℕ → ℕ → List D
record_displacements k bs edges = displacements_read k (2 * set_count bs edges) (displacements_of bs edges)
