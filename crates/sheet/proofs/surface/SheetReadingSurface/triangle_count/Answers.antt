use Rattle.std.proofs.Common.{rules}
use Rattle.std.proofs.lemmas.List.FromFn.{length-map-range_with_len}
use Rattle.sheet.proofs.Fields.{triangles_right}
use Rattle.sheet.proofs.surface.SheetReadingSurface.triangle_count.Goals as goal

pub returns : goal.returns
returns g c = search (rules, length-map-range_with_len, triangles_right)
