use Rattle.runs.proofs.Whole.{two_jobs}
use Rattle.runs.proofs.theorems.two_jobs.Goals as goal

pub returns : goal.returns
returns g c = two_jobs g.P.Place.kind g.Q.Place.kind g.met.P.Place.lawful g.met.Q.Place.lawful
