-- What a pass over a surface has still to come to.
use Rattle.std.specs.Prelude.{List, drop}
use Rattle.mesh.specs.declared.passes.Triangles.{Triangles}
use Rattle.mesh.specs.declared.passes.Places.{Places}
use Rattle.mesh.specs.Triangles.{Tri}
use Rattle.mesh.specs.Meshes.{Mesh, places}

module _ {S P : Type 0} (mesh : S → Mesh P) where
  -- the triangles from the next number on
  abbrev pub triangles_left : Triangles S → List Tri
  triangles_left s = drop s.next (mesh s.surface.now).triangles

  -- the places of the vertices from the next number on
  abbrev pub places_left : Places S → List P
  places_left s = drop s.next (places (mesh s.surface.now))
