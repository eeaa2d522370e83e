use Rattle.std.proofs.Common.{◌≡◌}
use Rattle.mesh.specs.Passes.{triangles_left}
use Rattle.mesh.specs.Copies.{with_triangles}
use Rattle.mesh.proofs.copying.copy_triangles.Given as goal

abbrev pub invariant-loop-triangle : goal.invariant-loop-triangle
invariant-loop-triangle g l =
    let first = l.initial.store in
    let room = g.S.GrowingStore.triangle_room first in
    (with_triangles room (g.S.ReadingSurface.mesh l.store) (triangles_left g.A.ReadingSurface.mesh l.triangle-iterator)
    ≡ with_triangles room (g.S.ReadingSurface.mesh first) (g.A.ReadingSurface.mesh l.from).triangles)
    × (g.S.GrowingStore.vertex_room l.store ≡ g.S.GrowingStore.vertex_room first)
    × (g.S.GrowingStore.triangle_room l.store ≡ room)
