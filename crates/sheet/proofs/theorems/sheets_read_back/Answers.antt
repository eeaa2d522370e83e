use Rattle.sheet.proofs.Back.{sheets_read_back}
use Rattle.sheet.proofs.theorems.sheets_read_back.Goals as goal

pub returns : goal.returns
returns g c = sheets_read_back g.P.Place.kind g.met.P.Place.lawful
