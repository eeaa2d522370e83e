use Rattle.std.proofs.Common.{rules, tests}
use Rattle.mesh.proofs.Indexed.{counted_there, counted_past}
use Rattle.sheet.proofs.Fields.{triangles_right}
use Rattle.sheet.proofs.surface.SheetReadingSurface.triangle.Goals as goal

pub returns-in_err-then_some : goal.returns-in_err-then_some
returns-in_err-then_some g c = search (rules, tests, counted_there, counted_past, triangles_right)

pub returns : goal.returns
returns g c = search (rules, tests, counted_there, counted_past, triangles_right)
