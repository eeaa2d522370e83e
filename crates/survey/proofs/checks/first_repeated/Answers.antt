use Rattle.std.proofs.Common.{refl, rules, tests}
use Rattle.survey.specs.Checks.{repeats_one, first_repeated}
use Rattle.survey.proofs.checks.first_repeated.Goals as goal

pub returns : goal.returns
unfolding first_repeated
returns g c = c.first_failing.ensures (repeats_one (g.S.ReadingSurface.mesh c.args.s.now).triangles) (λ i. refl) (λ i t b k. search (rules, tests))
