use Rattle.std.proofs.Common.{rules, tests}
use Rattle.job.proofs.Steps.{step_some, step_none}
use Rattle.job.proofs.following.back_step.Goals as goal

pub returns : goal.returns
returns g c = search (rules, tests, step_some, step_none)
