use Rattle.std.proofs.Common.{rules}
use Rattle.sheet.specs.Surveying.{sheet_surveyed_within}
use Rattle.sheet.proofs.Opened.{surveyed_ok, surveyed_err}
use Rattle.sheet.proofs.surveying.survey_sheet_within.Goals as goal

pub returns-in_err-open_within : goal.returns-in_err-open_within
unfolding sheet_surveyed_within
returns-in_err-open_within g c = search (rules, surveyed_err)

pub returns : goal.returns
unfolding sheet_surveyed_within
returns g c = surveyed_ok g.P.Place.kind _ _ _ _ c.in_ok-open_within.ensures c.survey_indexed.ensures
