use Rattle.std.proofs.Common.{rules}
use Rattle.mesh.proofs.Indexed.{counted_there, counted_past}
use Rattle.sheet.proofs.Fields.{vertices_right}
use Rattle.sheet.proofs.surface.SheetReadingSurface.place.Goals as goal

pub returns : goal.returns
returns g c = search (rules, counted_there, counted_past, vertices_right)
