use Rattle.std.proofs.Common.{ℕ, ap, ◌∙◌}
use Rattle.sheet.specs.Content.{sheet_fault_within}
use Rattle.sheet.specs.Opening.{opened}
use Rattle.job.proofs.basing.open_for.Goals as goal

pub returns : goal.returns
returns g c =
    let k = g.P.Place.kind in
    let bs = c.args.bytes.now in
    c.open_within.ensures
    ∙ (ap (λ (n : ℕ). opened (sheet_fault_within k n c.room.result.triangles bs) bs) c.room.ensures.vertices
    ∙ ap (λ (n : ℕ). opened (sheet_fault_within k (g.S.GrowingStore.vertex_room c.args.store.now) n bs) bs) c.room.ensures.triangles)
