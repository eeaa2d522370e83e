-- Worked cases, proved by computation.
use Rattle.std.specs.Prelude.{◌≡◌, Bool, true, false, List, [], ◌∷◌, map, take, replicate, pos, negsuc, Some, None}
use Rattle.fault.specs.declared.fault.Fault.TheVariants.{NoMark, MarkClosesLoop, SingleEdgeTree, CodeCount, CodesOffTree, SideTwice, NoDisplacedPlace}
use Rattle.place.specs.declared.grid.Grid.{Grid}
use Rattle.place.specs.declared.grid.GridDisplacement.{GridDisplacement}
use Rattle.place.specs.Grids.{grid, grid_displacement, grid_kind}
use Rattle.mesh.specs.Triangles.{Tri, tri}
use Rattle.mesh.specs.Sides.{side, sides}
use Rattle.mesh.specs.Meshes.{Mesh, mesh_of, vertex_of}
use Rattle.forest.specs.Marks.{has_side}
use Rattle.forest.specs.Trees.{start, below, trees}
use Rattle.forest.specs.Roots.{root, mirrored}
use Rattle.forest.specs.Polygons.{Code, neither, only_left, only_right, both, polygon}
use Rattle.forest.specs.Splitting.{marked_of, all_numbers, kept_triangles, added_triangles, split_triangles, split_vertices, split_parents, forest_fault, sewing_fault}
use Rattle.forest.specs.Places.{place_fault, split_mesh}

-- the block with four vertices, whose edges are 0–1, 0–2, 0–3, 1–2, 1–3, 2–3
abbrev pub block : List Tri
block = tri 0 1 2 ∷ tri 0 2 3 ∷ tri 0 3 1 ∷ tri 1 3 2 ∷ []

-- the edges 0 and 3 marked, that is 0–1 and 1–2
abbrev pub plain_marks : List Bool
plain_marks = true ∷ false ∷ false ∷ true ∷ false ∷ false ∷ []

-- the edges 0 and 1 marked, that is 0–1 and 0–2: the tree is mirrored
abbrev pub mirrored_marks : List Bool
mirrored_marks = true ∷ true ∷ false ∷ false ∷ false ∷ false ∷ []

-- the codes 2 and 0
abbrev pub two_codes : List Code
two_codes = only_right ∷ neither ∷ []

-- a torus with twelve vertices and 36 edges
abbrev pub torus : List Tri
torus =
    tri 6 9 0 ∷ tri 8 0 4 ∷ tri 0 5 6 ∷ tri 11 6 7 ∷ tri 10 7 3 ∷ tri 7 5 3 ∷ tri 2 5 1 ∷ tri 2 1 9 ∷ tri 5 0 1 ∷
    tri 8 7 10 ∷ tri 4 0 9 ∷ tri 2 6 11 ∷ tri 4 3 11 ∷ tri 8 1 0 ∷ tri 2 3 5 ∷ tri 7 6 5 ∷ tri 3 2 11 ∷
    tri 8 4 11 ∷ tri 7 8 11 ∷ tri 1 10 9 ∷ tri 3 4 10 ∷ tri 6 2 9 ∷ tri 4 9 10 ∷ tri 8 10 1 ∷ []

-- nine of its edges marked: three trees with the lowest vertices 0, 1 and 3 and the roots 4, 1 and 5, of which the first is mirrored
abbrev pub torus_marks : List Bool
torus_marks =
    false ∷ true ∷ false ∷ false ∷ true ∷ true ∷ true ∷ false ∷ false ∷ false ∷ false ∷ false ∷ false ∷ true ∷
    false ∷ false ∷ false ∷ true ∷ false ∷ true ∷ false ∷ false ∷ false ∷ false ∷ false ∷ false ∷ false ∷ false ∷
    false ∷ true ∷ true ∷ false ∷ false ∷ false ∷ false ∷ false ∷ []

-- twelve codes for them
abbrev pub torus_codes : List Code
torus_codes =
    only_right ∷ both ∷ both ∷ neither ∷ neither ∷ neither ∷ only_left ∷ only_left ∷ only_right ∷ neither ∷
    only_left ∷ neither ∷ []

-- what they leave
abbrev pub torus_after : List Tri
torus_after =
    tri 15 9 13 ∷ tri 8 0 4 ∷ tri 13 5 15 ∷ tri 11 15 7 ∷ tri 10 7 3 ∷ tri 7 5 3 ∷ tri 2 5 1 ∷ tri 16 1 9 ∷
    tri 5 13 1 ∷ tri 12 7 10 ∷ tri 4 14 9 ∷ tri 2 6 11 ∷ tri 4 17 11 ∷ tri 12 1 13 ∷ tri 2 17 5 ∷ tri 7 15 5 ∷
    tri 17 2 11 ∷ tri 8 4 11 ∷ tri 7 8 11 ∷ tri 1 10 9 ∷ tri 17 4 10 ∷ tri 15 16 9 ∷ tri 4 9 10 ∷ tri 12 10 1 ∷
    tri 4 0 14 ∷ tri 14 0 7 ∷ tri 14 7 13 ∷ tri 14 13 9 ∷ tri 13 7 12 ∷ tri 7 0 8 ∷ tri 1 6 2 ∷ tri 1 11 6 ∷
    tri 1 16 11 ∷ tri 16 15 11 ∷ tri 5 10 3 ∷ tri 5 17 10 ∷ []

-- fourteen codes, for a tree of eight edges
abbrev pub fourteen_codes : List Code
fourteen_codes =
    only_left ∷ only_right ∷ only_left ∷ only_right ∷ only_right ∷ both ∷ both ∷ only_left ∷ neither ∷ neither ∷ only_left ∷ only_right ∷ only_left ∷ neither ∷ []

-- the block on a grid
abbrev pub grid_block : Mesh Grid
grid_block = mesh_of block (vertex_of (grid 0 0 0) 0 ∷ vertex_of (grid 8 0 0) 1 ∷ vertex_of (grid 0 8 0) 2 ∷ vertex_of (grid 0 0 8) 3 ∷ [])

-- the displacement by nothing
abbrev pub still : GridDisplacement
still = grid_displacement (pos 0) (pos 0) (pos 0)

-- what comes of them
pub record SplitCases : Type 0 where
  -- the plain tree
  pub plain_marks_pass : forest_fault 4 block plain_marks 2 ≡ None
  pub plain_as_it_stands : mirrored block (marked_of block plain_marks) 0 ≡ false
  pub plain_codes_pass : sewing_fault 4 block plain_marks two_codes ≡ None
  pub plain_loop : all_numbers 4 block (marked_of block plain_marks) ≡ 0 ∷ 1 ∷ 2 ∷ 4 ∷ []
  pub plain_count : split_vertices 4 block (marked_of block plain_marks) ≡ 5
  pub plain_parents : split_parents 4 block (marked_of block plain_marks) ≡ 1 ∷ []
  pub plain_triangles : split_triangles 4 block (marked_of block plain_marks) two_codes ≡ tri 0 1 2 ∷ tri 0 2 3 ∷ tri 0 3 4 ∷ tri 4 3 2 ∷ tri 0 4 1 ∷ tri 4 2 1 ∷ []
  -- the mirrored tree
  pub mirrored_marks_pass : forest_fault 4 block mirrored_marks 2 ≡ None
  pub mirrored_indeed : mirrored block (marked_of block mirrored_marks) 0 ≡ true
  pub mirrored_codes_pass : sewing_fault 4 block mirrored_marks two_codes ≡ None
  pub mirrored_loop : all_numbers 4 block (marked_of block mirrored_marks) ≡ 1 ∷ 0 ∷ 2 ∷ 4 ∷ []
  pub mirrored_parents : split_parents 4 block (marked_of block mirrored_marks) ≡ 0 ∷ []
  pub mirrored_triangles : split_triangles 4 block (marked_of block mirrored_marks) two_codes ≡ tri 0 1 2 ∷ tri 4 2 3 ∷ tri 4 3 1 ∷ tri 1 3 2 ∷ tri 1 0 4 ∷ tri 4 0 2 ∷ []
  -- three trees on a torus
  pub torus_marks_pass : forest_fault 12 torus torus_marks 12 ≡ None
  pub torus_codes_pass : sewing_fault 12 torus torus_marks torus_codes ≡ None
  pub torus_trees : trees 12 (marked_of torus torus_marks) ≡ 0 ∷ 1 ∷ 3 ∷ []
  pub torus_roots : map (λ k. start (root (marked_of torus torus_marks) k)) (0 ∷ 1 ∷ 3 ∷ []) ≡ 4 ∷ 1 ∷ 5 ∷ []
  pub torus_mirrored : map (mirrored torus (marked_of torus torus_marks)) (0 ∷ 1 ∷ 3 ∷ []) ≡ true ∷ false ∷ false ∷ []
  pub torus_parents : split_parents 12 torus (marked_of torus torus_marks) ≡ 8 ∷ 0 ∷ 0 ∷ 6 ∷ 2 ∷ 3 ∷ []
  pub torus_triangles : split_triangles 12 torus (marked_of torus torus_marks) torus_codes ≡ torus_after
  -- refusals
  pub nothing_marked : forest_fault 4 block [] 0 ≡ Some NoMark
  pub closing : forest_fault 4 block (true ∷ true ∷ false ∷ true ∷ false ∷ false ∷ []) 2 ≡ Some (MarkClosesLoop 3)
  pub single : forest_fault 4 block (true ∷ false ∷ false ∷ false ∷ false ∷ true ∷ []) 0 ≡ Some (SingleEdgeTree 0)
  pub codes_missing : forest_fault 4 block plain_marks 1 ≡ Some CodeCount
  pub off_tree : sewing_fault 4 block plain_marks (neither ∷ neither ∷ []) ≡ Some (CodesOffTree 0)
  pub side_twice : sewing_fault 4 block plain_marks (only_left ∷ neither ∷ []) ≡ Some (SideTwice 4)
  -- that side is 0→2: an old triangle has it, and so has the first that is added
  pub side_kept : has_side (side 0 2) (sides (kept_triangles 4 block (marked_of block plain_marks))) ≡ true
  pub side_added : has_side (side 0 2) (sides (take 1 (added_triangles 4 block (marked_of block plain_marks) (only_left ∷ neither ∷ [])))) ≡ true
  -- the corners of a polygon with sixteen positions, by fourteen codes
  pub sixteen : polygon false 16 (below 16) fourteen_codes
      ≡ tri 0 2 1 ∷ tri 0 15 2 ∷ tri 15 3 2 ∷ tri 15 14 3 ∷ tri 14 13 3 ∷ tri 13 8 3 ∷ tri 13 10 8 ∷ tri 13 11 10 ∷ tri 13 12 11 ∷ tri 10 9 8 ∷ tri 8 4 3 ∷ tri 8 7 4 ∷ tri 7 5 4 ∷ tri 7 6 5 ∷ []
  -- places: all displacements zero, and the last of them down
  pub still_passes : place_fault grid_kind grid_block plain_marks (replicate 4 still) ≡ None
  pub still_mesh : split_mesh grid_kind grid_block plain_marks two_codes (replicate 4 still)
      ≡ mesh_of (tri 0 1 2 ∷ tri 0 2 3 ∷ tri 0 3 4 ∷ tri 4 3 2 ∷ tri 0 4 1 ∷ tri 4 2 1 ∷ [])
      (vertex_of (grid 0 0 0) 0 ∷ vertex_of (grid 8 0 0) 1 ∷ vertex_of (grid 0 8 0) 2 ∷ vertex_of (grid 0 0 8) 3 ∷ vertex_of (grid 8 0 0) 1 ∷ [])
  pub refused : place_fault grid_kind grid_block plain_marks (still ∷ still ∷ still ∷ grid_displacement (pos 0) (pos 0) (negsuc 0) ∷ []) ≡ Some (NoDisplacedPlace 4)
  -- the new vertex moves from the place that its parent had before, not from where the parent moves
  pub moved_apart : split_mesh grid_kind grid_block plain_marks two_codes (still ∷ grid_displacement (pos 1) (pos 0) (pos 0) ∷ still ∷ grid_displacement (pos 0) (pos 2) (pos 0) ∷ [])
      ≡ mesh_of (tri 0 1 2 ∷ tri 0 2 3 ∷ tri 0 3 4 ∷ tri 4 3 2 ∷ tri 0 4 1 ∷ tri 4 2 1 ∷ [])
      (vertex_of (grid 0 0 0) 0 ∷ vertex_of (grid 9 0 0) 1 ∷ vertex_of (grid 0 8 0) 2 ∷ vertex_of (grid 0 0 8) 3 ∷ vertex_of (grid 8 2 0) 1 ∷ [])
