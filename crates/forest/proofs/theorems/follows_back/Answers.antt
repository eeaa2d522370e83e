use Rattle.forest.proofs.Following.{follows_back}
use Rattle.forest.proofs.theorems.follows_back.Goals as goal

pub returns : goal.returns
returns c = follows_back
