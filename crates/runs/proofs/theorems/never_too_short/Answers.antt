use Rattle.runs.proofs.Never.{never_too_short}
use Rattle.runs.proofs.theorems.never_too_short.Goals as goal

pub returns : goal.returns
returns g c = never_too_short g.P.Place.kind
