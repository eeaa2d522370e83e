use Rattle.std.proofs.Common.{refl}
use Rattle.survey.specs.Checks.{first_bad, first_repeated, first_open}
use Rattle.survey.specs.Ringwalk.{first_unringed}
use Rattle.survey.specs.Survey.{edge_count}
use Rattle.survey.specs.Cases.{pair, block}
use Rattle.survey.proofs.Exact.{survey_closed}
use Rattle.survey.proofs.theorems.survey_cases.Goals as goal

pub returns : goal.returns
unfolding first_bad first_repeated first_open first_unringed edge_count
returns c = record {
  pair_closed = (survey_closed 3 pair refl).closed;
  pair_counted = refl;
  block_closed = (survey_closed 4 block refl).closed;
  block_counted = refl;
  blocks_refused = refl;
}
