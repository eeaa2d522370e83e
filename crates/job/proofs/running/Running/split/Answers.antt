use Rattle.std.proofs.Common.{◌≡◌, length, ◌∙◌}
use Rattle.runs.specs.Outcome.{numbers_after}
use Rattle.job.specs.Answers.{job_of}
use Rattle.job.proofs.Splits.{Accepted, accepted, ranges, numbers_more, numbers_same, goes_further}
use Rattle.job.proofs.running.Running.split.Given as given
use Rattle.job.proofs.running.Running.split.Goals as goal
use Rattle.job.proofs.running.Running.split.Goals.{In_ok-told, In_err-told}

-- a refused split leaves the job's numbers
refused : (g : given.Over) (c : In_err-told g)
    → job_of c.args.self.now ≡ numbers_after g.P.Place.kind (g.S.GrowingStore.vertex_room c.args.store.now) (g.S.GrowingStore.triangle_room c.args.store.now) (length c.args.table.now) (g.S.ReadingSurface.mesh c.args.store.now) (job_of c.args.self.now) c.args.bytes.now
refused g c = numbers_same g.P.Place.kind (g.S.GrowingStore.vertex_room c.args.store.now) (g.S.GrowingStore.triangle_room c.args.store.now) (length c.args.table.now) (g.S.ReadingSurface.mesh c.args.store.now) (job_of c.args.self.now) c.args.bytes.now c.totals.ensures.vertices c.totals.ensures.triangles c.in_err-told.ensures.answer

-- an accepted one has the record's edges and trees
taken : (g : given.Over) (c : In_ok-told g)
    → Accepted g.P.Place.kind (g.S.GrowingStore.vertex_room c.args.store.now) (g.S.GrowingStore.triangle_room c.args.store.now) (length c.args.table.now) (g.S.ReadingSurface.mesh c.args.store.now) (job_of c.args.self.now) c.args.bytes.now c.in_ok-told.told.forest_edges c.in_ok-told.told.trees
taken g c = accepted g.P.Place.kind (g.S.GrowingStore.vertex_room c.args.store.now) (g.S.GrowingStore.triangle_room c.args.store.now) (length c.args.table.now) (g.S.ReadingSurface.mesh c.args.store.now) (job_of c.args.self.now) c.args.bytes.now c.totals.ensures.vertices c.totals.ensures.triangles _ c.in_ok-told.ensures.answer

pub returns-in_err-told-clause-numbers : goal.returns-in_err-told-clause-numbers
returns-in_err-told-clause-numbers g c = refused g (goal.at.returns-in_err-told-clause-numbers g c).In_err-told

pub returns-in_err-told-clause-run : goal.returns-in_err-told-clause-run
returns-in_err-told-clause-run g c =
    goes_further g.P.Place.kind (g.S.GrowingStore.vertex_room c.args.store.now) (g.S.GrowingStore.triangle_room c.args.store.now) (length c.args.table.now) (g.S.ReadingSurface.mesh c.args.store.now) (job_of c.args.self.now) c.args.bytes.now c.totals.ensures.vertices c.totals.ensures.triangles c.in_err-told.ensures.mesh (refused g (goal.at.returns-in_err-told-clause-run g c).In_err-told)

pub add-requires : goal.add-requires
add-requires g c =
    let job = c.args.self.now in
    let r = ranges (taken g (goal.at.add-requires g c).In_ok-told) g.met.P.Place.lawful (g.S.GrowingStore.room_limited c.args.store.now) job.halved job.grown in
    record { halved = r.half; grown = r.more; vertices_fit = r.vertices_few; triangles_fit = r.triangles_few }

pub returns-clause-numbers : goal.returns-clause-numbers
returns-clause-numbers g c = c.add.ensures ∙ numbers_more (taken g (goal.at.returns-clause-numbers g c).In_ok-told)

pub returns-clause-run : goal.returns-clause-run
returns-clause-run g c =
    goes_further g.P.Place.kind (g.S.GrowingStore.vertex_room c.args.store.now) (g.S.GrowingStore.triangle_room c.args.store.now) (length c.args.table.now) (g.S.ReadingSurface.mesh c.args.store.now) (job_of c.args.self.now) c.args.bytes.now c.totals.ensures.vertices c.totals.ensures.triangles c.in_ok-told.ensures.mesh (c.add.ensures ∙ numbers_more (taken g (goal.at.returns-clause-run g c).In_ok-told))
