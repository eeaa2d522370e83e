use Rattle.runs.proofs.Splits.{split_outcome_keeps}
use Rattle.runs.proofs.theorems.split_outcome_keeps.Goals as goal

pub returns : goal.returns
returns g c = split_outcome_keeps g.P.Place.kind g.met.P.Place.lawful
