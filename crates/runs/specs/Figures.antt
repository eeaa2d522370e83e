-- The figure that a split does not change.
use Rattle.std.specs.Prelude.{ℤ, pos, ◌+ℤ◌, ◌-ℤ◌}
use Rattle.mesh.specs.Meshes.{Mesh, vertex_total, triangle_total}
use Rattle.runs.specs.Outcome.{edge_total}

-- vertices less edges plus triangles
abbrev pub euler : {P : Type 0} → Mesh P → ℤ
euler m = (pos (vertex_total m) -ℤ pos (edge_total m)) +ℤ pos (triangle_total m)
