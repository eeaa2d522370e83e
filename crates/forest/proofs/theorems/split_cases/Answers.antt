use Rattle.forest.proofs.Cases.{split_cases}
use Rattle.forest.proofs.theorems.split_cases.Goals as goal

pub returns : goal.returns
returns c = split_cases
