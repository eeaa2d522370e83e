use Rattle.std.proofs.Common.{◌≡◌}
use Rattle.mesh.specs.Meshes.{places}
use Rattle.mesh.specs.Passes.{places_left}
use Rattle.mesh.specs.Copies.{with_vertices}
use Rattle.mesh.proofs.copying.copy_vertices.Given as goal

abbrev pub invariant-loop-place : goal.invariant-loop-place
invariant-loop-place g l =
    let first = l.initial.store in
    let room = g.S.GrowingStore.vertex_room first in
    (with_vertices room (g.S.ReadingSurface.mesh l.store) (places_left g.A.ReadingSurface.mesh l.place-iterator)
    ≡ with_vertices room (g.S.ReadingSurface.mesh first) (places (g.A.ReadingSurface.mesh l.from)))
    × (g.S.GrowingStore.vertex_room l.store ≡ room)
    × (g.S.GrowingStore.triangle_room l.store ≡ g.S.GrowingStore.triangle_room first)
