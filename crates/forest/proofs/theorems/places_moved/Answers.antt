use Rattle.forest.proofs.Placing.{places_moved}
use Rattle.forest.proofs.theorems.places_moved.Goals as goal

pub returns : goal.returns
returns g c = places_moved g.P.Place.kind
