-- What the tables of a split hold after its stages.
use Rattle.std.specs.Prelude.{◌≡◌, ℕ, ◌*◌, ◌^◌, ◌<◌, Bool, List, map, length, slice_index}
use Rattle.mesh.specs.Triangles.{Tri}
use Rattle.mesh.specs.Sides.{Side}
use Rattle.mesh.specs.Edges.{edges}
use Rattle.forest.specs.Trees.{trees}
use Rattle.forest.specs.Roots.{root, mirrored}
use Rattle.forest.specs.Loops.{around}
use Rattle.forest.specs.Polygons.{Code}
use Rattle.forest.specs.Splitting.{marked_of, all_positions, all_numbers, kept_triangles, added_triangles}
use Rattle.forest.specs.Tables.{Climbing, key_sides, flags_of, word_tris}
use Rattle.engine.specs.Marking.{Upward}

-- The tables hold the edges of the triangles ts with their marks bs, and of each tree of the marked edges, of V vertices,
-- its number of positions, its root side, and whether it is mirrored.
pub record Planted (V : ℕ) (ts : List Tri) (bs : List Bool) (keys marks arounds roots mirrors : List ℕ) : Type 0 where
  pub keys_told : key_sides keys ≡ edges ts
  pub climbing : Climbing keys
  pub upward : Upward keys
  pub marks_told : flags_of marks ≡ bs
  pub paired : length marks ≡ length keys
  pub arounds_told : arounds ≡ map (around (marked_of ts bs)) (trees V (marked_of ts bs))
  pub roots_told : key_sides roots ≡ map (root (marked_of ts bs)) (trees V (marked_of ts bs))
  pub low_roots : (i : ℕ) → i < length roots → slice_index roots i < 2 ^ 28
  pub mirrors_told : flags_of mirrors ≡ map (mirrored ts (marked_of ts bs)) (trees V (marked_of ts bs))

-- The tables hold the positions of the trees of the marked edges ms, with their numbers, the old triangles with their new
-- corners, and the triangles of the polygons, which the codes cs give.
pub record Sewn (V : ℕ) (ts : List Tri) (ms : List Side) (cs : List Code) (positions numbers corners added : List ℕ) : Type 0 where
  pub positions_told : key_sides positions ≡ all_positions V ts ms
  pub numbers_told : numbers ≡ all_numbers V ts ms
  pub corners_told : word_tris corners ≡ kept_triangles V ts ms
  pub whole : length corners ≡ 3 * length ts
  pub added_told : word_tris added ≡ added_triangles V ts ms cs
