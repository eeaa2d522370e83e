-- What the loops ask of a mesh.
use Rattle.std.specs.Prelude.{ℕ, ◌<◌, List}
use Rattle.mesh.specs.Triangles.{Tri}
use Rattle.mesh.specs.Rings.{Link}

-- the corners are low enough for the keys of sides
abbrev pub LowCorners : List Tri → Type 0
LowCorners ts = (v x y : ℕ) → Link ts v x y → v < 16384
