-- A position's new place, by the bytes of its displacement.
use Rattle.std.specs.Prelude.{ℕ, List, Option}
use Rattle.std.specs.Option.{option_and_then, unwrap_or}
use Rattle.place.specs.Kinds.{Kind}
use Rattle.mesh.specs.Sides.{Side}
use Rattle.mesh.specs.Meshes.{Vertex}
use Rattle.forest.specs.Trees.{start}
use Rattle.forest.specs.Places.{place_before, displaced_at}

-- the place that the position s moves to by the displacement that the first bytes stand for, none if there is none or the kind refuses it
abbrev pub displaced_by : {P D : Type 0} → Kind P D → List (Vertex P) → Side → List ℕ → Option P
displaced_by k vs s bs = option_and_then (displaced_at k vs s) (k.read_displacement bs)

-- the same, where a refusal leaves the place as it was
abbrev pub placed_by : {P D : Type 0} → Kind P D → List (Vertex P) → Side → List ℕ → P
placed_by k vs s bs = unwrap_or (displaced_by k vs s bs) (place_before k vs (start s))
