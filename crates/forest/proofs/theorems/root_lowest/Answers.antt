use Rattle.forest.proofs.Means.{root_is_lowest}
use Rattle.forest.proofs.theorems.root_lowest.Goals as goal

pub returns : goal.returns
returns c = root_is_lowest
