-- Step 5: the polygon that fills the hole along a tree, triangulated by codes.
use Rattle.std.specs.Prelude.{ℕ, zero, suc, ◌+◌, ◌-◌, Bool, true, false, cond, List, [], ◌∷◌, ◌++◌, map, take, drop, ◌==◌, slice_index}
use Rattle.mesh.specs.Triangles.{Tri, tri}
use Rattle.mesh.specs.Sides.{Side}
use Rattle.forest.specs.Roots.{mirrored}
use Rattle.forest.specs.Loops.{read_as, around}
use Rattle.forest.specs.Numbering.{renamed}

-- the codes 0, 1, 2 and 3: which of a triangle's two further edges are inner ones
pub data Code : Type 0 where
  neither : Code
  only_left : Code
  only_right : Code
  both : Code

-- how many parts are open after a code that was read with n + 1 open
abbrev pub after : Code → ℕ → ℕ
after neither n = n
after only_left n = suc n
after only_right n = suc n
after both n = suc (suc n)

-- the number of codes until n open parts have ended
abbrev pub span : ℕ → List Code → ℕ
span zero cs = 0
span (suc n) [] = 0
span (suc n) (c ∷ cs) = suc (span (after c n) cs)

-- an open part: its right corner R, and its left corner L, a higher position (2m for 0)
pub data Open : Type 0 where
  open_part : ℕ → ℕ → Open

-- the third corner O of the triangle between R and L (in this order), at a code before cs
abbrev pub third : Code → ℕ → ℕ → List Code → ℕ
third neither r l cs = r + 1
third only_left r l cs = r + 1
third only_right r l cs = l - 1
third both r l cs = l - 1 - span 1 cs

-- the parts that a code of the triangle with the corners R, O and L (in this order) opens, the left before the right
abbrev pub opened : Code → ℕ → ℕ → ℕ → List Open → List Open
opened neither r o l st = st
opened only_left r o l st = open_part o l ∷ st
opened only_right r o l st = open_part r o ∷ st
opened both r o l st = open_part o l ∷ open_part r o ∷ st

-- the triangles (L, O, R) of the open parts, one for each code
abbrev pub cut : List Code → List Open → List Tri
cut [] st = []
cut (c ∷ cs) [] = []
cut (c ∷ cs) (open_part r l ∷ st) = let o = third c r l cs in tri l o r ∷ cut cs (opened c r o l st)

-- the next n codes end o open parts, with the last of them and not before
abbrev pub closes : ℕ → ℕ → List Code → Bool
closes zero zero cs = true
closes zero (suc n) cs = false
closes (suc o) zero cs = false
closes (suc o) (suc n) [] = false
closes (suc o) (suc n) (c ∷ cs) = closes (after c o) n cs

-- the number of position j of n, where n stands for 0
abbrev pub number_at : ℕ → List ℕ → ℕ → ℕ
number_at n ns j = slice_index ns (cond (j == n) 0 j)

-- the polygon over n positions with the numbers ns: triangles (L, O, R), or (L, R, O) if mirrored
abbrev pub polygon : Bool → ℕ → List ℕ → List Code → List Tri
polygon mirror n ns cs = read_as mirror (map (renamed (λ j x y. number_at n ns j)) (cut cs (open_part 1 n ∷ [])))

-- the polygons of the listed trees, whose positions have the numbers ns
abbrev pub polygons : List Tri → List Side → List ℕ → List ℕ → List Code → List Tri
polygons ts ms [] ns cs = []
polygons ts ms (k ∷ ks) ns cs =
    polygon (mirrored ts ms k) (around ms k) (take (around ms k) ns) (take (around ms k - 2) cs) ++ polygons ts ms ks (drop (around ms k) ns) (drop (around ms k - 2) cs)
