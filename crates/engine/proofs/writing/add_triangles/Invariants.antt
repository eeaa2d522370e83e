use Rattle.std.proofs.Common.{◌≡◌}
use Rattle.forest.specs.Tables.{word_tris}
use Rattle.engine.proofs.Appending.{grown}
use Rattle.engine.proofs.writing.add_triangles.Given as goal

abbrev pub invariant-loop-t : goal.invariant-loop-t
invariant-loop-t g l =
    (g.S.ReadingSurface.mesh l.store ≡ grown (g.S.ReadingSurface.mesh l.initial.store) (word_tris l.added) l.t)
    × (g.S.GrowingStore.vertex_room l.store ≡ g.S.GrowingStore.vertex_room l.initial.store)
    × (g.S.GrowingStore.triangle_room l.store ≡ g.S.GrowingStore.triangle_room l.initial.store)
