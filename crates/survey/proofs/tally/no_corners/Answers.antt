use Rattle.std.proofs.Common.{refl}
use Rattle.survey.proofs.Noting.{zero_each}
use Rattle.survey.proofs.tally.no_corners.Goals as goal

pub returns : goal.returns
returns c = record {
  counts_zero = zero_each (λ x. x.count) (record { count = 0; last = 0 }) 16384 refl refl;
  lasts_zero = zero_each (λ x. x.last) (record { count = 0; last = 0 }) 16384 refl refl;
}
