use Rattle.std.proofs.Common.{rules, tests}
use Rattle.std.specs.List.{slice_get}
use Rattle.mesh.proofs.Firsts.{finds_first}
use Rattle.survey.proofs.checks.first_failing.Goals as goal

pub returns : goal.returns
returns g c = λ p none some. let ts = (g.S.ReadingSurface.mesh c.args.s.now).triangles in finds_first (λ i. p i (slice_get ts i)) _ _ _ _ _ c.triangle_count.ensures c.find.ensures.ran (λ i b q k. search (rules, tests, none, some))
