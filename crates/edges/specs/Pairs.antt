-- Edges as pairs of vertices, and the pairs that sides are.
use Rattle.std.specs.Prelude.{ℕ, Bool, cond, ◌&&◌, List, [], ◌∷◌, ◌++◌, Some, None, Option, ◌==◌, nat_lt}
use Rattle.std.specs.Option.{option_to_list}
use Rattle.mesh.specs.Sides.{Side, side}
use Rattle.edges.specs.declared.edge.Edge.{Edge}

-- the ends of an edge, the lower first
abbrev pub pair_of : Edge → Side
pair_of e = side e.low e.high

-- two vertices, the lower first; none if they are one vertex
abbrev pub pair_between : ℕ → ℕ → Option Side
pair_between u v = cond (nat_lt u v) (Some (side u v)) (cond (nat_lt v u) (Some (side v u)) None)

-- the pair of each side that has two ends
abbrev pub pairs : List Side → List Side
pairs [] = []
pairs (side u v ∷ ss) = option_to_list (pair_between u v) ++ pairs ss

-- the two edges have the same ends
abbrev pub same : Edge → Edge → Bool
same e f = e.low == f.low && e.high == f.high
