-- Tables with an entry for each vertex that lead to the trees.
use Rattle.std.specs.Prelude.{◌≡◌, ℕ, ◌+◌, ◌*◌, ◌<◌, ◌≤◌, List, length, filter, nat_lt, slice_index}
use Rattle.mesh.specs.Sides.{Side}
use Rattle.forest.specs.Marks.{Marked}
use Rattle.forest.specs.Trees.{tree_edges, below}
use Rattle.forest.specs.Roots.{touches}

-- how many marked edges each vertex has, and if any, the other end of one
pub record Ended (ms : List Side) (counts others : List ℕ) : Type 0 where
  pub count : (v : ℕ) → v < length counts → slice_index counts v ≡ length (filter (touches v) ms)
  pub other : (v : ℕ) → v < length counts → 0 < slice_index counts v → Marked ms v (slice_index others v)

-- how many edges the tree of each vertex has, if the vertex is the lowest of it
pub record Sized (ms : List Side) (sizes : List ℕ) : Type 0 where
  pub each : (k : ℕ) → k < length sizes → slice_index sizes k ≡ length (tree_edges ms k)

-- of the vertices with the label of v that have one marked edge, one that is not above v: the key of the side that leaves it
-- stands at the label
pub record LeafBelow (labels counts others roots : List ℕ) (v : ℕ) : Type 0 where
  pub leaf : ℕ
  pub alone : slice_index counts leaf ≡ 1
  pub of_tree : slice_index labels leaf ≡ slice_index labels v
  pub low : leaf ≤ v
  pub key : slice_index roots (slice_index labels v) ≡ leaf * 16384 + slice_index others leaf

-- the vertices below n with an entry above 0, rising
abbrev pub picked : List ℕ → ℕ → List ℕ
picked sizes n = filter (λ k. nat_lt 0 (slice_index sizes k)) (below n)
