use Rattle.forest.proofs.Means.{trees_summed}
use Rattle.forest.proofs.theorems.trees_summed.Goals as goal

pub returns : goal.returns
returns c = trees_summed
