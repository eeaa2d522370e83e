use Rattle.std.proofs.Common.{rules}
use Rattle.sheet.proofs.Opened.{opened_ok}
use Rattle.sheet.proofs.sheet.Sheet.open_within.Goals as goal

pub returns-in_err-check_room : goal.returns-in_err-check_room
returns-in_err-check_room g c = let p = opened_ok _ _ _ c.in_ok-sheet.ensures in search (rules, p.0, p.1)
