use Rattle.forest.proofs.Wholes.{twice_added}
use Rattle.forest.proofs.theorems.twice_added.Goals as goal

pub returns : goal.returns
returns c = twice_added
