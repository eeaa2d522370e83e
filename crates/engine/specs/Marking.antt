-- The marked edges in a table.
use Rattle.std.specs.Prelude.{ℕ, ◌/◌, ◌%◌, ◌<◌, List, length, slice_index}
use Rattle.mesh.specs.Sides.{Side}
use Rattle.forest.specs.Marks.{marked_edges}
use Rattle.forest.specs.Tables.{key_sides, flags_of}

-- of the edges with these keys, those whose number is 1
abbrev pub marked : List ℕ → List ℕ → List Side
marked ks ns = marked_edges (key_sides ks) (flags_of ns)

-- each key stands for a side that goes from a lower to a higher vertex
abbrev pub Upward : List ℕ → Type 0
Upward ks = (e : ℕ) → e < length ks → slice_index ks e / 16384 < slice_index ks e % 16384
