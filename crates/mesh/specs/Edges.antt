-- The edges of a mesh, in the rising order of (i, j).
use Rattle.std.specs.Prelude.{◌≡◌, ℕ, ◌*◌, ◌<◌, Bool, cond, ◌&&◌, ◌||◌, ◌⊎◌, List, [], ◌∷◌, ◌++◌, map, length, filter, ◌==◌, nat_lt}
use Rattle.mesh.specs.Lists.{Mem}
use Rattle.mesh.specs.Triangles.{Tri}
use Rattle.mesh.specs.Sides.{Side, side, back, sides}
use Rattle.mesh.specs.Closed.{Closed}

-- the side goes from a lower to a higher vertex
abbrev pub up : Side → Bool
up (side x y) = nat_lt x y

-- (i, j) comes before (k, l)
abbrev pub before : Side → Side → Bool
before (side i j) (side k l) = nat_lt i k || (i == k && nat_lt j l)

-- puts a side into its place in a rising list, unless it is there
abbrev pub insert : Side → List Side → List Side
insert s [] = s ∷ []
insert s (t ∷ ts) = cond (before s t) (s ∷ t ∷ ts) (cond (before t s) (t ∷ insert s ts) (t ∷ ts))

-- the list in rising order, each side once
abbrev pub rising : List Side → List Side
rising [] = []
rising (s ∷ ss) = insert s (rising ss)

-- each side with its reverse
abbrev pub two_way : List Side → List Side
two_way ss = ss ++ map back ss

-- the pairs i < j that some triangle has as a side, in either direction
abbrev pub edges : List Tri → List Side
edges ts = rising (filter up (two_way (sides ts)))

-- the order of pairs
abbrev pub Lower : Side → Side → Type 0
Lower (side i j) (side k l) = (i < k) ⊎ ((i ≡ k) × (j < l))

-- each comes before all that follow it
abbrev pub Ascending : List Side → Type 0
Ascending [] = Unit {0}
Ascending (s ∷ ss) = ((t : Side) → Mem t ss → Lower s t) × Ascending ss

-- the edges of any list of triangles rise, and are just the pairs i < j with i→j or j→i among the sides
abbrev pub EdgesListed : Type 0
EdgesListed =
    (ts : List Tri)
    → Ascending (edges ts)
    × ((i j : ℕ) → Mem (side i j) (edges ts) → (i < j) × (Mem (side i j) (sides ts) ⊎ Mem (side j i) (sides ts)))
    × ((i j : ℕ) → i < j → Mem (side i j) (sides ts) ⊎ Mem (side j i) (sides ts) → Mem (side i j) (edges ts))

-- a closed mesh has three edges for two triangles
abbrev pub EdgesCounted : Type 0
EdgesCounted = (V : ℕ) (ts : List Tri) → Closed V ts → 2 * length (edges ts) ≡ 3 * length ts
