use Rattle.std.proofs.Common.{rules}
use Rattle.sheet.proofs.checks.check_layout.Goals as goal

pub returns-in_err-totals : goal.returns-in_err-totals
returns-in_err-totals g c = let t = g.met.P.Place.constant in search rules
