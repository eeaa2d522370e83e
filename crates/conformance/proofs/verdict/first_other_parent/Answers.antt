use Rattle.std.proofs.Common.{rules, tests}
use Rattle.mesh.proofs.Firsts.{finds_first}
use Rattle.conformance.specs.Differences.{other_parent}
use Rattle.conformance.proofs.verdict.first_other_parent.Goals as goal

pub returns : goal.returns
returns g c = finds_first (other_parent (g.S.ReadingSurface.mesh c.args.store.now) c.args.parents.now) _ _ _ _ _ c.vertex_count.ensures c.find.ensures.ran (λ v b q k. search (rules, tests))
