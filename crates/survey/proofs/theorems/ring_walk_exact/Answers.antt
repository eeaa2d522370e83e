use Rattle.survey.proofs.Walked.{ring_walk_exact}
use Rattle.survey.proofs.theorems.ring_walk_exact.Goals as goal

pub returns : goal.returns
returns c = ring_walk_exact
