use Rattle.forest.proofs.Wholes.{never_early}
use Rattle.forest.proofs.theorems.never_early.Goals as goal

pub returns : goal.returns
returns c = never_early
