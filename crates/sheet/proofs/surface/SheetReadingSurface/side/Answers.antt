use Rattle.std.proofs.Common.{ℕ, is_some, sym, ◌∙◌, arith, rules, tests}
use Rattle.mesh.specs.Sides.{corner_of}
use Rattle.mesh.proofs.Finding.{side_first}
use Rattle.sheet.specs.Content.{triangle_in, triangles_in}
use Rattle.sheet.proofs.Fields.{triangles_right}
use Rattle.sheet.proofs.Within.{finds_within}
use Rattle.sheet.proofs.surface.SheetReadingSurface.side.Goals as goal

pub returns : goal.returns
returns g c =
    let k = g.P.Place.kind in
    let sheet = c.args.self.now in
    let bs = sheet.bytes.now in
    let one = triangle_in k.width bs in
    finds_within (λ (t : ℕ). is_some (corner_of c.args.u c.args.v (one t))) _ _ _ _ _ (triangles_right k bs sheet.totals.triangles sheet.right sheet.triangles_told) c.find.ensures.ran (λ t b q r. search (rules, tests))
    ∙ sym (side_first c.args.u c.args.v (triangles_in k bs) one 0 (triangles_in k bs) (omega arith))
