-- Step 4: the numbers of the positions, the parents of the new vertices, and the corners' new numbers.
use Rattle.std.specs.Prelude.{ℕ, suc, Bool, false, cond, ◌&&◌, ◌||◌, List, [], ◌∷◌, ◌++◌, take, drop, ◌==◌}
use Rattle.mesh.specs.Triangles.{Tri, tri}
use Rattle.mesh.specs.Sides.{Side, side}
use Rattle.forest.specs.Marks.{has_side}
use Rattle.forest.specs.Trees.{start, end}
use Rattle.forest.specs.Roots.{mirrored}
use Rattle.forest.specs.Loops.{run_after, around, loop_of}

-- the vertex is listed
abbrev pub has : ℕ → List ℕ → Bool
has v [] = false
has v (x ∷ xs) = x == v || has v xs

-- The numbers of the positions: the first at a vertex keeps its number, a later one takes the next unused.
-- Before them lie positions at the vertices `seen`, and n is the next unused number.
abbrev pub numbers : List ℕ → ℕ → List Side → List ℕ
numbers seen n [] = []
numbers seen n (s ∷ ss) = cond (has (start s) seen) n (start s) ∷ numbers (start s ∷ seen) (cond (has (start s) seen) (suc n) n) ss

-- the next unused number after them
abbrev pub unused : List ℕ → ℕ → List Side → ℕ
unused seen n [] = n
unused seen n (s ∷ ss) = unused (start s ∷ seen) (cond (has (start s) seen) (suc n) n) ss

-- the parents of the new numbers, in their order
abbrev pub parents : List ℕ → List Side → List ℕ
parents seen [] = []
parents seen (s ∷ ss) = cond (has (start s) seen) (start s ∷ parents (start s ∷ seen) ss) (parents (start s ∷ seen) ss)

-- The numbers of the runs after a tree's sides, from those of its positions: a run belongs to the position that comes
-- after it, and the last run to the first position.
abbrev pub run_numbers : List ℕ → List ℕ
run_numbers ns = drop 1 ns ++ take 1 ns

-- (v, x, y) is a corner of the run after the side s; a mirrored tree reads the triangle as (v, y, x)
abbrev pub passes : List Tri → List Side → Bool → ℕ → ℕ → ℕ → Side → Bool
passes ts ms mirror v x y s = end s == v && has_side (cond mirror (side y x) (side x y)) (run_after ts ms mirror s)

-- the number of the corner (v, x, y), now w, once the run after each of the sides has given its corners the number at the same index
abbrev pub renumber : List Tri → List Side → Bool → List Side → List ℕ → ℕ → ℕ → ℕ → ℕ → ℕ
renumber ts ms mirror [] ns v x y w = w
renumber ts ms mirror (s ∷ ss) [] v x y w = w
renumber ts ms mirror (s ∷ ss) (n ∷ ns) v x y w = renumber ts ms mirror ss ns v x y (cond (passes ts ms mirror v x y s) n w)

-- the same over the listed trees, whose positions have the numbers ns
abbrev pub renumber_all : List Tri → List Side → List ℕ → List ℕ → ℕ → ℕ → ℕ → ℕ → ℕ
renumber_all ts ms [] ns v x y w = w
renumber_all ts ms (k ∷ ks) ns v x y w =
    renumber_all ts ms ks (drop (around ms k) ns) v x y (renumber ts ms (mirrored ts ms k) (loop_of ts ms k) (run_numbers (take (around ms k) ns)) v x y w)

-- the new number of the corner at v of the triangle (v, x, y): its own until a run takes it
abbrev pub corner_number : List Tri → List Side → List ℕ → List ℕ → ℕ → ℕ → ℕ → ℕ
corner_number ts ms ks ns v x y = renumber_all ts ms ks ns v x y v

-- the triangle with new corners, where f v x y is the number of the corner at v of (v, x, y)
abbrev pub renamed : (ℕ → ℕ → ℕ → ℕ) → Tri → Tri
renamed f (tri x y z) = tri (f x y z) (f y z x) (f z x y)
