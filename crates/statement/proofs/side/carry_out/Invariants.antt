use Rattle.std.proofs.Common.{◌≡◌, length, map, drop}
use Rattle.runs.specs.Calls.{state_of}
use Rattle.runs.specs.Runs.{after}
use Rattle.job.specs.Answers.{job_of}
use Rattle.statement.specs.Sides.{offers}
use Rattle.statement.proofs.side.carry_out.Given as goal

abbrev pub invariant-loop-i : goal.invariant-loop-i
invariant-loop-i g l =
    let k = g.P.Place.kind in
    let mesh = g.S.ReadingSurface.mesh in
    let first = l.initial in
    let vr = g.S.GrowingStore.vertex_room first.store in
    let tr = g.S.GrowingStore.triangle_room first.store in
    (after k vr tr (state_of (mesh l.store) (job_of l.job)) (offers (length first.table) (map (λ r. r.now) (drop l.i l.records)))
    ≡ after k vr tr (state_of (mesh first.store) (job_of first.job)) (offers (length first.table) (map (λ r. r.now) l.records)))
    × (g.S.GrowingStore.vertex_room l.store ≡ vr)
    × (g.S.GrowingStore.triangle_room l.store ≡ tr)
    × (length l.table ≡ length first.table)
