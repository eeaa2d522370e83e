use Rattle.std.proofs.Common.{◌≤◌, ◌+◌, length, refl, ◌∙◌, arith}
use Rattle.mesh.specs.Meshes.{triangle_total}
use Rattle.forest.specs.Tables.{word_tris}
use Rattle.engine.proofs.Appending.{grown_start, grown_next, grown_end}
use Rattle.engine.proofs.writing.add_triangles.Goals as goal

pub loop-t-init : goal.loop-t-init
loop-t-init g c = (grown_start (g.S.ReadingSurface.mesh c.args.store.now) (word_tris c.args.added.now), refl, refl)

pub loop-t-preserved : goal.loop-t-preserved
loop-t-preserved g c =
    let v = c.loop-t.invariant in
    let m = g.S.ReadingSurface.mesh c.args.store.now in
    let same = v.2 in
    let asked = c.requires.room in
    let room : triangle_total m + length (word_tris c.args.added.now) ≤ g.S.GrowingStore.triangle_room c.loop-t.store = omega arith in
    let n = grown_next m (word_tris c.args.added.now) (g.S.GrowingStore.triangle_room c.loop-t.store) c.loop-t.t _ _ _ _ room c.requires.fitting c.triangle_at.ensures v.0 c.add_triangle.ensures.answer c.add_triangle.ensures.after in
    (n, c.add_triangle.ensures.room.0 ∙ v.1, c.add_triangle.ensures.room.1 ∙ v.2)

pub returns : goal.returns
returns g c =
    let v = c.loop-t.invariant in
    record { mesh = v.0 ∙ grown_end (g.S.ReadingSurface.mesh c.args.store.now) c.args.added.now c.loop-t.t c.loop-t-test.false; room = (v.1, v.2) }
