-- The mesh after a split, and the faults of a split in their order.
use Rattle.std.specs.Prelude.{ℕ, suc, ◌-◌, ◌*◌, Bool, true, false, cond, ◌||◌, List, [], ◌∷◌, ◌++◌, map, length, drop, Some, None, Option, ◌==◌}
use Rattle.std.specs.Option.{option_map}
use Rattle.fault.specs.declared.fault.Fault.{Fault}
use Rattle.fault.specs.declared.fault.Fault.TheVariants.{NoMark, MarkClosesLoop, SingleEdgeTree, CodeCount, CodesOffTree, LoopTooShort, SideTwice}
use Rattle.fault.specs.Faults.{or_else}
use Rattle.mesh.specs.Triangles.{Tri, tri}
use Rattle.mesh.specs.Sides.{Side, side}
use Rattle.mesh.specs.Edges.{edges}
use Rattle.forest.specs.Marks.{has_side, marked_edges}
use Rattle.forest.specs.Trees.{merged, own, tree_edges, trees}
use Rattle.forest.specs.Loops.{around, whole, positions}
use Rattle.forest.specs.Numbering.{numbers, unused, parents, corner_number, renamed}
use Rattle.forest.specs.Polygons.{Code, closes, polygons}

-- the marked edges of the mesh
abbrev pub marked_of : List Tri → List Bool → List Side
marked_of ts bs = marked_edges (edges ts) bs

-- all positions, tree after tree
abbrev pub all_positions : ℕ → List Tri → List Side → List Side
all_positions V ts ms = positions ts ms (trees V ms)

-- the numbers of all positions
abbrev pub all_numbers : ℕ → List Tri → List Side → List ℕ
all_numbers V ts ms = numbers [] V (all_positions V ts ms)

-- the old triangles, with their corners renumbered
abbrev pub kept_triangles : ℕ → List Tri → List Side → List Tri
kept_triangles V ts ms = map (renamed (corner_number ts ms (trees V ms) (all_numbers V ts ms))) ts

-- the triangles of the polygons
abbrev pub added_triangles : ℕ → List Tri → List Side → List Code → List Tri
added_triangles V ts ms cs = polygons ts ms (trees V ms) (all_numbers V ts ms) cs

-- the triangles after the split
abbrev pub split_triangles : ℕ → List Tri → List Side → List Code → List Tri
split_triangles V ts ms cs = kept_triangles V ts ms ++ added_triangles V ts ms cs

-- the number of vertices after the split
abbrev pub split_vertices : ℕ → List Tri → List Side → ℕ
split_vertices V ts ms = unused [] V (all_positions V ts ms)

-- the parents of the new vertices V, V + 1, ..
abbrev pub split_parents : ℕ → List Tri → List Side → List ℕ
split_parents V ts ms = parents [] (all_positions V ts ms)

-- no edge is marked
abbrev pub unmarked_fault : List Side → Option Fault
unmarked_fault [] = Some NoMark
unmarked_fault (m ∷ ms) = None

-- the first marked edge, numbered from n on, that joins two vertices of one label; l are the labels so far, and each marked
-- edge before it merges those of its ends
abbrev pub first_closing : (ℕ → ℕ) → ℕ → List Side → List Bool → Option ℕ
first_closing l n [] bs = None
first_closing l n (e ∷ es) [] = None
first_closing l n (e ∷ es) (false ∷ bs) = first_closing l (suc n) es bs
first_closing l n (side i j ∷ es) (true ∷ bs) = cond (l i == l j) (Some n) (first_closing (λ v. merged (l i) (l j) (l v)) (suc n) es bs)

-- the first of the listed trees that has one edge alone
abbrev pub first_single : List Side → List ℕ → Option ℕ
first_single ms [] = None
first_single ms (k ∷ ks) = cond (length (tree_edges ms k) == 1) (Some k) (first_single ms ks)

-- the number of codes is twice the marked edges less twice the trees
abbrev pub count_fault : ℕ → List Side → ℕ → Option Fault
count_fault V ms n = cond (n == 2 * (length ms - length (trees V ms))) None (Some CodeCount)

-- the first of the listed trees, numbered from i on, whose part of the codes does not close
abbrev pub first_unclosed : List Side → ℕ → List ℕ → List Code → Option ℕ
first_unclosed ms i [] cs = None
first_unclosed ms i (k ∷ ks) cs = cond (closes 1 (around ms k - 2) cs) (first_unclosed ms (suc i) ks (drop (around ms k - 2) cs)) (Some i)

-- the first of the listed trees, numbered from i on, whose loop comes round too early
abbrev pub first_early : List Tri → List Side → ℕ → List ℕ → Option ℕ
first_early ts ms i [] = None
first_early ts ms i (k ∷ ks) = cond (whole ts ms k) (first_early ts ms (suc i) ks) (Some i)

-- the first of the triangles, numbered from n on, that has a side of a lower one; those before n have the sides `seen`
abbrev pub first_twice : ℕ → List Side → List Tri → Option ℕ
first_twice n seen [] = None
first_twice n seen (tri x y z ∷ ts) =
    cond (has_side (side x y) seen || (has_side (side y z) seen || has_side (side z x) seen)) (Some n) (first_twice (suc n) (side x y ∷ side y z ∷ side z x ∷ seen) ts)

-- The faults that the marks and the number n of codes can have.
abbrev pub forest_fault : ℕ → List Tri → List Bool → ℕ → Option Fault
forest_fault V ts bs n =
    or_else (unmarked_fault (marked_of ts bs))
    (or_else (option_map MarkClosesLoop (first_closing own 0 (edges ts) bs))
    (or_else (option_map SingleEdgeTree (first_single (marked_of ts bs) (trees V (marked_of ts bs))))
    (count_fault V (marked_of ts bs) n)))

-- The faults that the codes can have, where the marks have none.
abbrev pub sewing_fault : ℕ → List Tri → List Bool → List Code → Option Fault
sewing_fault V ts bs cs =
    or_else (option_map CodesOffTree (first_unclosed (marked_of ts bs) 0 (trees V (marked_of ts bs)) cs))
    (or_else (option_map LoopTooShort (first_early ts (marked_of ts bs) 0 (trees V (marked_of ts bs))))
    (option_map SideTwice (first_twice 0 [] (split_triangles V ts (marked_of ts bs) cs))))
