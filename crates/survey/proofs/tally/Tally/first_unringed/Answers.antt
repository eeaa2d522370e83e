use Rattle.std.proofs.Common.{rules, tests}
use Rattle.survey.specs.Ringwalk.{unringed_at, first_unringed}
use Rattle.mesh.proofs.Firsts.{finds_first}
use Rattle.survey.proofs.tally.Tally.first_unringed.Goals as goal

pub returns : goal.returns
unfolding first_unringed
returns g c = let m = g.S.ReadingSurface.mesh c.args.self.now.surface.now in finds_first (unringed_at m.triangles) _ _ _ _ _ c.vertex_count.ensures c.find.ensures.ran (λ i b q k. search (rules, tests))
