use Rattle.std.proofs.Common.{refl, rules, tests}
use Rattle.mesh.specs.Meshes.{vertex_total}
use Rattle.survey.specs.Checks.{bad_one, first_bad}
use Rattle.survey.proofs.checks.first_bad.Goals as goal

pub returns : goal.returns
unfolding first_bad
returns g c = c.first_failing.ensures (λ i o. bad_one (vertex_total (g.S.ReadingSurface.mesh c.args.s.now)) o) (λ i. refl) (λ i t b k. search (rules, tests))
