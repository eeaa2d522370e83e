use Rattle.place.proofs.Refusals.{refusals}
use Rattle.place.proofs.sums.float_refusals.Goals as goal

pub returns : goal.returns
returns c = refusals
