use Rattle.std.proofs.Common.{refl}
use lib.Ieee.{fits, of_bits}
use Rattle.std.specs.Float.{float_is_finite}
use Rattle.place.specs.Floats.{float_origin}
use Rattle.place.specs.Places.{same_place}
use Rattle.place.proofs.float.FloatPlacePlace.origin.Goals as goal

pub invariant_of-result : goal.invariant_of-result
unfolding fits of_bits float_is_finite
invariant_of-result c = record { real = refl; held = refl }

pub returns : goal.returns
unfolding fits of_bits float_is_finite
returns c = same_place _ float_origin refl refl refl
