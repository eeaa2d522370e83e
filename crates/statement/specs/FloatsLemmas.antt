-- Proof that the mesh with its places kept as floats is within the limits. It stands here since the surface shows it by a ghost
-- member, which may not cite proofs/.
use Rattle.std.proofs.Common.{arith}
use Rattle.std.proofs.lemmas.List.{length-map}
use Rattle.place.specs.declared.grid.Grid.{Grid}
use Rattle.mesh.specs.Meshes.{Mesh, InLimits}
use Rattle.statement.specs.Floats.{vertex_as_floats, mesh_as_floats}

pub limited_as_floats : (m : Mesh Grid) → InLimits m → InLimits (mesh_as_floats m)
limited_as_floats m h = let same = length-map m.vertices vertex_as_floats in let few = h.few_vertices in record { few_vertices = omega arith; few_triangles = h.few_triangles }
