-- The corners of triangles in a table, and their new numbers.
use Rattle.std.specs.Prelude.{◌≡◌, ℕ, ◌+◌, ◌*◌, ◌%◌, Bool, cond, ◌&&◌, List, map, Option, ◌==◌}
use Rattle.std.specs.Option.{option_map}
use Rattle.mesh.specs.Triangles.{Tri}
use Rattle.mesh.specs.Sides.{side, find_side}
use Rattle.forest.specs.Marks.{same_side}
use Rattle.forest.specs.Loops.{apex, read_as}
use Rattle.forest.specs.Numbering.{renamed}
use Rattle.forest.specs.Tables.{word_tris}

-- the table has the triangles, where f v x y is the number of the corner at v of (v, x, y)
abbrev pub Numbered : List Tri → List ℕ → (ℕ → ℕ → ℕ → ℕ) → Type 0
Numbered ts ws f = word_tris ws ≡ map (renamed f) ts

-- whatever numbers the table's corners had, g v x y makes the new one of the corner (v, x, y) from it
abbrev pub Renumbers : List Tri → List ℕ → List ℕ → (ℕ → ℕ → ℕ → ℕ → ℕ) → Type 0
Renumbers ts old new g = (f : ℕ → ℕ → ℕ → ℕ) → Numbered ts old f → Numbered ts new (λ v x y. g v x y (f v x y))

-- (x, y, z) is the corner at v of the first triangle with the side u→v; a mirrored tree reads it as (x, z, y)
abbrev pub is_corner : List Tri → Bool → ℕ → ℕ → ℕ → ℕ → ℕ → Bool
is_corner ts mirror u v x y z = v == x && same_side (cond mirror (side z y) (side y z)) (side (apex (read_as mirror ts) u v) u)

-- the place, of three for each triangle, of the corner that begins the first side u→v, or of the one that comes k corners after it
abbrev pub place_of : List Tri → ℕ → ℕ → ℕ → Option ℕ
place_of ts u v k = option_map (λ l. 3 * l.triangle + (l.corner + k) % 3) (find_side ts u v)

-- the place of the corner at v of the first triangle with the side u→v, as the tree reads it
abbrev pub corner_place : List Tri → Bool → ℕ → ℕ → Option ℕ
corner_place ts mirror u v = cond mirror (place_of ts v u 0) (place_of ts u v 1)
