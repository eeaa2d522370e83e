use Rattle.std.proofs.Common.{rules}
use Rattle.sheet.specs.Content.{place_fault}
use Rattle.sheet.proofs.sheet.Sheet.check_places.Goals as goal

pub returns-in-Some : goal.returns-in-Some
unfolding place_fault
returns-in-Some g c = search rules

pub returns : goal.returns
unfolding place_fault
returns g c = search rules
