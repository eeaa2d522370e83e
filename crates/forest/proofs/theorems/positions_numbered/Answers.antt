use Rattle.forest.proofs.Keeping.{positions_numbered}
use Rattle.forest.proofs.theorems.positions_numbered.Goals as goal

pub returns : goal.returns
returns c = positions_numbered
