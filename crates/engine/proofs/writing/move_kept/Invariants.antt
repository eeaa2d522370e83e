use Rattle.std.proofs.Common.{◌≡◌, take, drop}
use Rattle.mesh.specs.Meshes.{mesh_of}
use Rattle.engine.proofs.Moving.{Moving}
use Rattle.engine.proofs.writing.move_kept.Given as goal

abbrev pub invariant-loop-i : goal.invariant-loop-i
invariant-loop-i g l =
    let m = g.S.ReadingSurface.mesh l.initial.store in
    let now = g.S.ReadingSurface.mesh l.store in
    (now ≡ mesh_of m.triangles now.vertices)
    × Moving g.P.Place.kind g.met.P.Place.lawful (take l.old m.vertices) (drop l.old m.vertices) l.positions l.numbers l.displacements l.i now.vertices
    × (g.S.GrowingStore.vertex_room l.store ≡ g.S.GrowingStore.vertex_room l.initial.store)
    × (g.S.GrowingStore.triangle_room l.store ≡ g.S.GrowingStore.triangle_room l.initial.store)
