-- The marked edges of a mesh.
use Rattle.std.specs.Prelude.{ℕ, Bool, false, cond, ◌&&◌, ◌||◌, ◌⊎◌, List, [], ◌∷◌, ◌==◌}
use Rattle.mesh.specs.Lists.{Mem}
use Rattle.mesh.specs.Sides.{Side, side}

-- the two are one side
abbrev pub same_side : Side → Side → Bool
same_side (side x y) (side z w) = x == z && y == w

-- the side is listed
abbrev pub has_side : Side → List Side → Bool
has_side s [] = false
has_side s (t ∷ ts) = same_side s t || has_side s ts

-- the edges whose mark is set, in their order; an edge without a mark is not marked
abbrev pub marked_edges : List Side → List Bool → List Side
marked_edges [] bs = []
marked_edges (e ∷ es) [] = []
marked_edges (e ∷ es) (b ∷ bs) = cond b (e ∷ marked_edges es bs) (marked_edges es bs)

-- an edge between v and x is marked
abbrev pub Marked : List Side → ℕ → ℕ → Type 0
Marked ms v x = Mem (side v x) ms ⊎ Mem (side x v) ms

-- the same as a test
abbrev pub is_marked : List Side → ℕ → ℕ → Bool
is_marked ms v x = has_side (side v x) ms || has_side (side x v) ms
