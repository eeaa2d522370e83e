-- Step 3: the loop round a tree, and the runs of corners between its sides.
use Rattle.std.specs.Prelude.{ℕ, zero, suc, ◌-◌, ◌*◌, Bool, true, false, cond, not, ◌&&◌, List, [], ◌∷◌, ◌++◌, map, length, Some, None, Option, ◌==◌}
use Rattle.mesh.specs.Triangles.{Tri, tri}
use Rattle.mesh.specs.Sides.{Side, side, back}
use Rattle.forest.specs.Marks.{has_side, is_marked}
use Rattle.forest.specs.Trees.{start, end, tree_edges}
use Rattle.forest.specs.Roots.{root, mirrored}

-- the triangle with its sides turned round
abbrev pub flipped : Tri → Tri
flipped (tri x y z) = tri x z y

-- the triangles as a tree reads them: all turned round if it is mirrored
abbrev pub read_as : Bool → List Tri → List Tri
read_as true ts = map flipped ts
read_as false ts = ts

-- z of the first triangle (x, y, z), however it is rotated, with the side x→y; 0 if there is none
abbrev pub apex : List Tri → ℕ → ℕ → ℕ
apex [] x y = 0
apex (tri a b c ∷ ts) x y = cond (a == x && b == y) c (cond (b == x && c == y) a (cond (c == x && a == y) b (apex ts x y)))

-- From the side u→v round v, over n triangles at most: the end of the first marked side that leaves v. There is one on a
-- closed mesh with a marked edge at v.
abbrev pub found : ℕ → List Tri → List Side → ℕ → ℕ → Option ℕ
found zero ts ms u v = None
found (suc n) ts ms u v = cond (is_marked ms v (apex ts u v)) (Some (apex ts u v)) (found n ts ms (apex ts u v) v)

-- the corners at v that are passed on the way, from that of the triangle with u→v on; the corner at v of (v, x, y) is listed as x→y
abbrev pub run : ℕ → List Tri → List Side → ℕ → ℕ → List Side
run zero ts ms u v = []
run (suc n) ts ms u v = side (apex ts u v) u ∷ cond (is_marked ms v (apex ts u v)) [] (run n ts ms (apex ts u v) v)

-- the side after s, if w is the end that was found; back over s if none was
abbrev pub ahead : Option ℕ → Side → Side
ahead (Some w) s = side (end s) w
ahead None s = back s

-- the next side of the loop after s
abbrev pub hop : List Tri → List Side → Bool → Side → Side
hop ts ms mirror s = ahead (found (length ts) (read_as mirror ts) ms (start s) (end s)) s

-- the run of corners between s and the next side
abbrev pub run_after : List Tri → List Side → Bool → Side → List Side
run_after ts ms mirror s = run (length ts) (read_as mirror ts) ms (start s) (end s)

-- n sides from s on, each by a step from the one before
abbrev pub loop : (Side → Side) → ℕ → Side → List Side
loop step zero s = []
loop step (suc n) s = s ∷ loop step n (step s)

-- twice as many sides as the tree k has edges
abbrev pub around : List Side → ℕ → ℕ
around ms k = 2 * length (tree_edges ms k)

-- the loop of the tree k; its sides are the tree's positions
abbrev pub loop_of : List Tri → List Side → ℕ → List Side
loop_of ts ms k = loop (hop ts ms (mirrored ts ms k)) (around ms k) (root ms k)

-- the loop of the tree k does not come round to its root side too early
abbrev pub whole : List Tri → List Side → ℕ → Bool
whole ts ms k = not (has_side (root ms k) (loop (hop ts ms (mirrored ts ms k)) (around ms k - 1) (hop ts ms (mirrored ts ms k) (root ms k))))

-- the positions of the listed trees, tree after tree
abbrev pub positions : List Tri → List Side → List ℕ → List Side
positions ts ms [] = []
positions ts ms (k ∷ ks) = loop_of ts ms k ++ positions ts ms ks
