-- What the numbers of a work table stand for: sides, marks, triangles, and the trees one after another.
use Rattle.std.specs.Prelude.{ℕ, suc, ◌-◌, ◌/◌, ◌%◌, ◌<◌, Bool, cond, List, [], ◌∷◌, ◌++◌, map, length, take, drop, Some, None, Option, ◌==◌, slice_index}
use Rattle.mesh.specs.Triangles.{Tri, tri}
use Rattle.mesh.specs.Sides.{Side, side}
use Rattle.forest.specs.Loops.{hop, loop}
use Rattle.forest.specs.Numbering.{run_numbers, renumber}
use Rattle.forest.specs.Polygons.{Code, closes, polygon}

-- a side as one number: 16,384 times its start, and its end
abbrev pub key_side : ℕ → Side
key_side k = side (k / 16384) (k % 16384)

abbrev pub key_sides : List ℕ → List Side
key_sides ks = map key_side ks

-- each number is lower than all that follow it
abbrev pub Climbing : List ℕ → Type 0
Climbing ks = (i j : ℕ) → i < j → j < length ks → slice_index ks i < slice_index ks j

-- marks and other flags as numbers: 1 is yes
abbrev pub flag_of : ℕ → Bool
flag_of n = n == 1

abbrev pub flags_of : List ℕ → List Bool
flags_of ns = map flag_of ns

-- triangles as numbers, three corners each
abbrev pub word_tris : List ℕ → List Tri
word_tris [] = []
word_tris (a ∷ []) = []
word_tris (a ∷ b ∷ []) = []
word_tris (a ∷ b ∷ c ∷ ws) = tri a b c ∷ word_tris ws

-- The loops of trees one after another, from their root sides, by their numbers of sides, each mirrored or not.
abbrev pub walked : List Tri → List Side → List Side → List ℕ → List Bool → List Side
walked ts ms [] ns bs = []
walked ts ms (r ∷ rs) [] bs = []
walked ts ms (r ∷ rs) (n ∷ ns) [] = []
walked ts ms (r ∷ rs) (n ∷ ns) (b ∷ bs) = loop (hop ts ms b) n r ++ walked ts ms rs ns bs

-- The number of the corner (v, x, y), now w, after the runs behind the positions ss of trees one after another have taken theirs,
-- where ns are the trees' numbers of positions, and us the numbers of the positions.
abbrev pub renumbered : List Tri → List Side → List ℕ → List Bool → List Side → List ℕ → ℕ → ℕ → ℕ → ℕ → ℕ
renumbered ts ms [] bs ss us v x y w = w
renumbered ts ms (n ∷ ns) [] ss us v x y w = w
renumbered ts ms (n ∷ ns) (b ∷ bs) ss us v x y w =
    renumbered ts ms ns bs (drop n ss) (drop n us) v x y (renumber ts ms b (take n ss) (run_numbers (take n us)) v x y w)

-- the polygons of trees one after another, by their numbers of positions, each mirrored or not
abbrev pub filled : List ℕ → List Bool → List ℕ → List Code → List Tri
filled [] bs us cs = []
filled (n ∷ ns) [] us cs = []
filled (n ∷ ns) (b ∷ bs) us cs = polygon b n (take n us) (take (n - 2) cs) ++ filled ns bs (drop n us) (drop (n - 2) cs)

-- the first of trees one after another, numbered from i on, whose codes do not close, by their numbers of positions
abbrev pub unclosed_from : ℕ → List ℕ → List Code → Option ℕ
unclosed_from i [] cs = None
unclosed_from i (n ∷ ns) cs = cond (closes 1 (n - 2) cs) (unclosed_from (suc i) ns (drop (n - 2) cs)) (Some i)
