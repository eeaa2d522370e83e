use Rattle.forest.proofs.Codes.{polygon_filled}
use Rattle.forest.proofs.theorems.polygon_filled.Goals as goal

pub returns : goal.returns
returns c = polygon_filled
