use Rattle.runs.proofs.Whole.{reports_true}
use Rattle.runs.proofs.theorems.reports_true.Goals as goal

pub returns : goal.returns
returns g c = reports_true g.P.Place.kind g.met.P.Place.lawful
