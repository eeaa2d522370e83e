use Rattle.sheet.proofs.Exact.{sheet_exact}
use Rattle.sheet.proofs.theorems.sheet_exact.Goals as goal

pub returns : goal.returns
returns g c = sheet_exact g.P.Place.kind
