use Rattle.std.proofs.Common.{◌∙◌}
use Rattle.place.specs.Grids.{grid_kind}
use Rattle.runs.specs.Outcome.{split_answer, split_mesh_after, numbers_after}
use Rattle.job.specs.Answers.{job_of}
use Rattle.levels.specs.Workspaces.{mesh_in}
use Rattle.levels.proofs.Offers.{goes_in_room}
use Rattle.levels.proofs.workspace.Workspace.offer.Goals as goal

pub returns-clause-answer : goal.returns-clause-answer
returns-clause-answer c =
    let w = c.args.self.now in
    c.split.ensures.answer ∙ (λ i. split_answer grid_kind (w.vertex_room i) (w.triangle_room i) (w.table_length i) (mesh_in w) (job_of c.args.job.now) c.args.bytes.now)

pub returns-clause-mesh : goal.returns-clause-mesh
returns-clause-mesh c =
    let w = c.args.self.now in
    c.split.ensures.mesh ∙ (λ i. split_mesh_after grid_kind (w.vertex_room i) (w.triangle_room i) (w.table_length i) (mesh_in w) (job_of c.args.job.now) c.args.bytes.now)

pub returns-clause-numbers : goal.returns-clause-numbers
returns-clause-numbers c =
    let w = c.args.self.now in
    c.split.ensures.numbers ∙ (λ i. numbers_after grid_kind (w.vertex_room i) (w.triangle_room i) (w.table_length i) (mesh_in w) (job_of c.args.job.now) c.args.bytes.now)

pub returns-clause-run : goal.returns-clause-run
returns-clause-run c =
    let w = c.args.self.now in
    goes_in_room _ _ _ _ _ c.args.bytes.now w.vertex_room w.triangle_room w.table_length c.split.ensures.run
