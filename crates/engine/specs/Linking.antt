-- Sides linked by the vertices in which they start: side k of triangle t has the number 3t + k, the link to side i is i + 1, and 0 is the end.
use Rattle.std.specs.Prelude.{◌≡◌, ℕ, ◌+◌, ◌<◌, ◌≤◌, cond, List, [], ◌∷◌, length, drop, Some, ◌==◌, slice_index}
use Rattle.std.specs.List.{slice_get}
use Rattle.mesh.specs.Sides.{Side, side}

-- the link to the first side of the list that starts in u, if the first of all has the number i
abbrev pub link_from : ℕ → ℕ → List Side → ℕ
link_from u i [] = 0
link_from u i (side x y ∷ ss) = cond (x == u) (i + 1) (link_from u (i + 1) ss)

-- the sides from number i on are linked
pub record Linked (ss : List Side) (i : ℕ) (firsts ends nexts : List ℕ) : Type 0 where
  -- each vertex has the link to the lowest of them that starts in it
  pub firsts_told : (u : ℕ) → u < length firsts → slice_index firsts u ≡ link_from u i (drop i ss)
  -- each of them has the vertex in which it ends
  pub ends_told : (k u v : ℕ) → i ≤ k → slice_get ss k ≡ Some (side u v) → slice_index ends k ≡ v
  -- and, if its start is a vertex, the link to the lowest above it that has the same start
  pub nexts_told : (k u v : ℕ) → i ≤ k → slice_get ss k ≡ Some (side u v) → u < length firsts → slice_index nexts k ≡ link_from u (k + 1) (drop (k + 1) ss)
