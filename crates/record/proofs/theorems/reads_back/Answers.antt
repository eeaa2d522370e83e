use Rattle.record.proofs.Reading.{reads_back}
use Rattle.record.proofs.theorems.reads_back.Goals as goal

pub returns : goal.returns
returns g c = reads_back g.P.Place.kind g.met.P.Place.lawful.displacement_narrow
