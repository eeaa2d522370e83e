use Rattle.runs.proofs.Going.{runs_go_on}
use Rattle.runs.proofs.theorems.runs_go_on.Goals as goal

pub returns : goal.returns
returns g c = runs_go_on g.P.Place.kind
