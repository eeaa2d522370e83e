use Rattle.forest.proofs.Means.{trees_ordered}
use Rattle.forest.proofs.theorems.trees_ordered.Goals as goal

pub returns : goal.returns
returns c = trees_ordered
