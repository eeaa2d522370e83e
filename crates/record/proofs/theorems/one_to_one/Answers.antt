use Rattle.record.proofs.Reading.{one_to_one}
use Rattle.record.proofs.theorems.one_to_one.Goals as goal

pub returns : goal.returns
returns g c = one_to_one g.P.Place.kind g.met.P.Place.lawful.displacement_narrow
