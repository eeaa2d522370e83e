-- The open parts of a polygon in a table.
use Rattle.std.specs.Prelude.{ℕ, zero, suc, ◌+◌, ◌*◌, List, [], ◌∷◌, slice_index}
use Rattle.forest.specs.Polygons.{Open, open_part}

-- the d open parts of a stack, two numbers for each, the right corner and the left; the last part first
abbrev pub opens : ℕ → List ℕ → List Open
opens zero xs = []
opens (suc d) xs = open_part (slice_index xs (2 * d)) (slice_index xs (2 * d + 1)) ∷ opens d xs
