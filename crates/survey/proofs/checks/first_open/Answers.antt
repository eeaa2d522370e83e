use Rattle.std.proofs.Common.{refl, rules, tests}
use Rattle.survey.specs.Checks.{open_one, first_open}
use Rattle.survey.proofs.checks.first_open.Goals as goal

pub returns : goal.returns
unfolding first_open
returns g c = c.first_failing.ensures (λ i o. open_one (g.S.ReadingSurface.mesh c.args.s.now).triangles o) (λ i. refl) (λ i t b k. search (rules, tests))
