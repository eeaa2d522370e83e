use Rattle.forest.proofs.Keeping.{split_keeps}
use Rattle.forest.proofs.theorems.split_keeps.Goals as goal

pub returns : goal.returns
returns c = split_keeps
