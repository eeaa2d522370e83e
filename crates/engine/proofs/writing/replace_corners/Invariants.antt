use Rattle.std.proofs.Common.{◌≡◌}
use Rattle.engine.proofs.Exchanging.{mixed_mesh}
use Rattle.engine.proofs.writing.replace_corners.Given as goal

abbrev pub invariant-loop-i : goal.invariant-loop-i
invariant-loop-i g l =
    (g.S.ReadingSurface.mesh l.store ≡ mixed_mesh (g.S.ReadingSurface.mesh l.initial.store) l.corners l.i)
    × (g.S.GrowingStore.vertex_room l.store ≡ g.S.GrowingStore.vertex_room l.initial.store)
    × (g.S.GrowingStore.triangle_room l.store ≡ g.S.GrowingStore.triangle_room l.initial.store)
