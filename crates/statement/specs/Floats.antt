-- A sheet of the grid whose places are kept as floats.
use Rattle.std.specs.Prelude.{ℕ, List, map, pos, Float}
use Rattle.std.specs.Option.{unwrap_or}
use Rattle.std.specs.Float.Ieee.{of_int}
use Rattle.std.specs.Float.{binary32}
use Rattle.place.specs.declared.grid.Grid.{Grid}
use Rattle.place.specs.declared.float_place.FloatPlace.{FloatPlace}
use Rattle.place.specs.Grids.{grid_kind}
use Rattle.place.specs.Floats.{float_kind, float_place, float_origin}
use Rattle.mesh.specs.Meshes.{Mesh, Vertex, mesh_of, vertex_of}
use Rattle.sheet.specs.Content.{sheet_mesh}
use Rattle.sheet.specs.Writing.{sheet_bytes}

-- the nearest number of binary32, which is the number itself where it has 24 bits at most
abbrev pub float_of : ℕ → Float
float_of n = of_int binary32 (pos n)

-- the place at the same three coordinates; the origin is for numbers that are not finite, as no coordinate of 16 bits is
abbrev pub place_as_floats : Grid → FloatPlace
place_as_floats p = unwrap_or (float_place (float_of p.x) (float_of p.y) (float_of p.z)) float_origin

-- the same vertex, its place kept as floats
abbrev pub vertex_as_floats : Vertex Grid → Vertex FloatPlace
vertex_as_floats v = vertex_of (place_as_floats v.place) v.parent

-- the same triangles, and the vertices with their places kept as floats
abbrev pub mesh_as_floats : Mesh Grid → Mesh FloatPlace
mesh_as_floats m = mesh_of m.triangles (map vertex_as_floats m.vertices)

-- the sheet of the mesh that the bytes of a sheet of the grid mean, its places kept as floats
abbrev pub sheet_as_floats : List ℕ → List ℕ
sheet_as_floats bs = sheet_bytes float_kind (mesh_as_floats (sheet_mesh grid_kind bs))
