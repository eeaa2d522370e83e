use Rattle.std.proofs.Common.{rules, tests}
use Rattle.sheet.specs.Content.{no_place}
use Rattle.sheet.proofs.Fields.{vertices_right}
use Rattle.sheet.proofs.Within.{finds_within}
use Rattle.sheet.proofs.sheet.Sheet.first_unplaced.Goals as goal

pub returns : goal.returns
returns g c =
    let sheet = c.args.self.now in
    let bs = sheet.bytes.now in
    finds_within (no_place g.P.Place.kind bs) _ _ _ _ _ (vertices_right g.P.Place.kind bs sheet.totals.vertices sheet.right sheet.vertices_told) c.find.ensures.ran (λ v b q k. search (rules, tests))
