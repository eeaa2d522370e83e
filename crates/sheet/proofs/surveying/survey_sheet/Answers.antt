use Rattle.std.proofs.Common.{rules}
use Rattle.sheet.specs.Surveying.{sheet_surveyed}
use Rattle.sheet.proofs.Opened.{surveyed_ok, surveyed_err}
use Rattle.sheet.proofs.surveying.survey_sheet.Goals as goal

pub returns-in_err-open : goal.returns-in_err-open
unfolding sheet_surveyed
returns-in_err-open g c = search (rules, surveyed_err)

pub returns : goal.returns
unfolding sheet_surveyed
returns g c = surveyed_ok g.P.Place.kind _ _ _ _ c.in_ok-open.ensures c.survey_indexed.ensures
