use Rattle.std.proofs.Common.{refl}
use lib.Ieee.{of_bits, to_bits, add, fits}
use Rattle.std.specs.Float.{float_is_finite}
use Rattle.place.specs.Floats.{float_place}
use Rattle.place.proofs.sums.float_sums.Goals as goal

pub returns : goal.returns
unfolding of_bits to_bits add fits float_is_finite float_place
returns c = record {
  tie_down = refl;
  tie_up = refl;
  over = refl;
  largest = refl;
  smallest = refl;
  zeros = refl;
  minus_zeros = refl;
  opposite = refl;
  infinite = refl;
  no_number = refl;
}
