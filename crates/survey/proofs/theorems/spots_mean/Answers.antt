use Rattle.survey.proofs.Spots.{spots_mean}
use Rattle.survey.proofs.theorems.spots_mean.Goals as goal

pub returns : goal.returns
returns c = spots_mean
