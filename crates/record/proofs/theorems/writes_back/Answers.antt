use Rattle.record.proofs.Canonical.{writes_back}
use Rattle.record.proofs.theorems.writes_back.Goals as goal

pub returns : goal.returns
returns g c = writes_back g.P.Place.kind
