use Rattle.std.proofs.Common.{◌≡◌, Ok, rules}
use Rattle.runs.specs.Jobs.{base_answer}
use Rattle.job.specs.Answers.{job_of, base_told}
use Rattle.job.proofs.Bases.{begins}
use Rattle.job.proofs.opened.Opened.base.Goals as goal

pub returns-clause-run : goal.returns-clause-run
returns-clause-run g c =
    let k = g.P.Place.kind in
    let s = c.args.store.now in
    let vr = g.S.GrowingStore.vertex_room s in
    let tr = g.S.GrowingStore.triangle_room s in
    let m = g.S.ReadingSurface.mesh s in
    let e : base_told (Ok c.start.result) ≡ base_answer k vr tr m c.args.sheet.now = search rules in
    begins k vr tr m c.args.sheet.now (g.S.GrowingStore.room_limited s) _ (job_of c.start.result) e c.take_base.ensures.mesh
