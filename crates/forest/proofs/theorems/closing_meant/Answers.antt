use Rattle.forest.proofs.Closing.{closing_meant}
use Rattle.forest.proofs.theorems.closing_meant.Goals as goal

pub returns : goal.returns
returns c = closing_meant
