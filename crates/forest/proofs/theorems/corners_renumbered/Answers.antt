use Rattle.forest.proofs.Keeping.{corners_renumbered}
use Rattle.forest.proofs.theorems.corners_renumbered.Goals as goal

pub returns : goal.returns
returns c = corners_renumbered
