use Rattle.place.specs.Grids.{grid_kind}
use Rattle.stores.specs.Chained.{chain_vertex_room, chain_triangle_room}
use Rattle.job.specs.Answers.{job_of}
use Rattle.levels.specs.Workspaces.{mesh_in}
use Rattle.levels.proofs.Starts.{never_uncounted}
use Rattle.levels.proofs.workspace.Workspace.start.Goals as goal

pub returns-in_err-counts-clause-answer : goal.returns-in_err-counts-clause-answer
returns-in_err-counts-clause-answer c =
    let w = c.args.self.now in
    absurd (never_uncounted grid_kind (chain_vertex_room w.store) (chain_triangle_room w.store) (mesh_in w) c.args.sheet.now (job_of c.in_ok-job.job) _ _ c.in_ok-job.ensures.answer c.in_ok-job.ensures.mesh c.in_err-counts.ensures.answer)
