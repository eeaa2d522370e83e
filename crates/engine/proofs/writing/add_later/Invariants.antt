use Rattle.std.proofs.Common.{◌≡◌, length}
use Rattle.mesh.specs.Meshes.{mesh_of}
use Rattle.engine.proofs.Adding.{Adding}
use Rattle.engine.proofs.writing.add_later.Given as goal

abbrev pub invariant-loop-i : goal.invariant-loop-i
invariant-loop-i g l =
    let m = g.S.ReadingSurface.mesh l.initial.store in
    let now = g.S.ReadingSurface.mesh l.store in
    (now ≡ mesh_of m.triangles now.vertices)
    × Adding g.P.Place.kind g.met.P.Place.lawful m.vertices l.positions l.numbers l.displacements l.i now.vertices
    × (l.old ≡ length m.vertices)
    × (g.S.GrowingStore.vertex_room l.store ≡ g.S.GrowingStore.vertex_room l.initial.store)
    × (g.S.GrowingStore.triangle_room l.store ≡ g.S.GrowingStore.triangle_room l.initial.store)
