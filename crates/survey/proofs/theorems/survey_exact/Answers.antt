use Rattle.survey.proofs.Exact.{survey_exact}
use Rattle.survey.proofs.theorems.survey_exact.Goals as goal

pub returns : goal.returns
returns c = survey_exact
