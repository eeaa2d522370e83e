-- Step 2: the root of a tree, and whether the tree is mirrored.
use Rattle.std.specs.Prelude.{ℕ, Bool, true, false, cond, not, ◌&&◌, ◌||◌, List, [], ◌∷◌, length, Some, None, filter, Option, ◌==◌, nat_lt}
use Rattle.mesh.specs.Triangles.{Tri}
use Rattle.mesh.specs.Sides.{Side, side, side_of}
use Rattle.mesh.specs.Edges.{two_way}
use Rattle.forest.specs.Trees.{start, tree_edges}

-- the edge has the end v
abbrev pub touches : ℕ → Side → Bool
touches v (side i j) = i == v || j == v

-- v has one marked edge
abbrev pub leaf : List Side → ℕ → Bool
leaf ms v = length (filter (touches v) ms) == 1

-- t leaves a leaf, and s leaves none or a higher one
abbrev pub better : List Side → Side → Side → Bool
better ms s t = leaf ms (start t) && (not (leaf ms (start s)) || nat_lt (start t) (start s))

-- the best of s and the listed sides
abbrev pub best : List Side → Side → List Side → Side
best ms s [] = s
best ms s (t ∷ ss) = best ms (cond (better ms s t) t s) ss

-- of the listed sides, the one that leaves the lowest leaf
abbrev pub root_of : List Side → List Side → Side
root_of ms [] = side 0 0
root_of ms (s ∷ ss) = best ms s ss

-- the root side r→a of the tree k: r is its lowest leaf, and r–a the only marked edge there
abbrev pub root : List Side → ℕ → Side
root ms k = root_of ms (two_way (tree_edges ms k))

-- the first of two triangle numbers is there, and lower than the second, if that is there
abbrev pub lower : Option ℕ → Option ℕ → Bool
lower None o = false
lower (Some i) None = true
lower (Some i) (Some j) = nat_lt i j

-- of the two triangles at the edge of s, the lower has the reverse of s
abbrev pub against : List Tri → Side → Bool
against ts (side r a) = lower (side_of ts a r) (side_of ts r a)

-- the tree k is mirrored: the lower triangle at its root side r→a has a→r
abbrev pub mirrored : List Tri → List Side → ℕ → Bool
mirrored ts ms k = against ts (root ms k)
