use Rattle.runs.proofs.Going.{runs_begin}
use Rattle.runs.proofs.theorems.runs_begin.Goals as goal

pub returns : goal.returns
returns g c = runs_begin g.P.Place.kind
