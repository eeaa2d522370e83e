-- Directed sides, and the lowest triangle that has one.
use Rattle.std.specs.Prelude.{◌≡◌, ℕ, ◌+◌, ◌<◌, cond, ◌&&◌, List, [], ◌∷◌, Some, None, Option, ◌==◌}
use Rattle.std.specs.Option.{option_map}
use Rattle.std.specs.List.{slice_get}
use Rattle.mesh.specs.Triangles.{Tri, tri}

-- the side from one vertex to another
pub data Side : Type 0 where
  side : ℕ → ℕ → Side

-- the reverse
abbrev pub back : Side → Side
back (side x y) = side y x

-- the sides of all triangles, three of each
abbrev pub sides : List Tri → List Side
sides [] = []
sides (tri x y z ∷ ts) = side x y ∷ side y z ∷ side z x ∷ sides ts

-- the corner of the triangle, 0, 1 or 2, that begins the side u→v; the lowest if several do
abbrev pub corner_of : ℕ → ℕ → Tri → Option ℕ
corner_of u v (tri x y z) = cond (x == u && y == v) (Some 0) (cond (y == u && z == v) (Some 1) (cond (z == u && x == v) (Some 2) None))

-- where a side lies: the triangle's number, and the corner that begins it
pub record Lies : Type 0 where
  pub triangle : ℕ
  pub corner : ℕ

abbrev pub lies_here : ℕ → Option ℕ → Option Lies → Option Lies
lies_here i (Some k) rest = Some (record { triangle = i; corner = k })
lies_here i None rest = rest

-- where u→v first lies, if the first triangle of the list has the number i
abbrev pub side_from : ℕ → ℕ → ℕ → List Tri → Option Lies
side_from u v i [] = None
side_from u v i (t ∷ ts) = lies_here i (corner_of u v t) (side_from u v (i + 1) ts)

abbrev pub find_side : List Tri → ℕ → ℕ → Option Lies
find_side ts u v = side_from u v 0 ts

-- the lowest triangle with the side u→v
abbrev pub side_of : List Tri → ℕ → ℕ → Option ℕ
side_of ts u v = option_map (λ l. l.triangle) (find_side ts u v)

-- a side lies first where a triangle has it at its lowest corner that does, and no lower triangle has it
pub record LiesFirst (ts : List Tri) (u v : ℕ) (l : Lies) : Type 0 where
  pub one : Tri
  pub is : slice_get ts l.triangle ≡ Some one
  pub begins : corner_of u v one ≡ Some l.corner
  pub lowest : (t : ℕ) (x : Tri) → t < l.triangle → slice_get ts t ≡ Some x → corner_of u v x ≡ None

-- the search for a side finds where it lies first, or there is no such side
abbrev pub SidesFound : Type 0
SidesFound =
    (ts : List Tri) (u v : ℕ)
    → ((l : Lies) → find_side ts u v ≡ Some l → LiesFirst ts u v l)
    × (find_side ts u v ≡ None → (t : ℕ) (x : Tri) → slice_get ts t ≡ Some x → corner_of u v x ≡ None)
