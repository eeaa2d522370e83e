use Rattle.forest.proofs.Closing.{forest_meant}
use Rattle.forest.proofs.theorems.forest_meant.Goals as goal

pub returns : goal.returns
returns c = forest_meant
