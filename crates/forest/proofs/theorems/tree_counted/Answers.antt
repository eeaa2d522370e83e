use Rattle.forest.proofs.Trees.{tree_counted}
use Rattle.forest.proofs.theorems.tree_counted.Goals as goal

pub returns : goal.returns
returns c = tree_counted
