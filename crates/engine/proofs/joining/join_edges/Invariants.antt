use Rattle.engine.specs.Joining.{Falling}
use Rattle.engine.proofs.Parents.{Left}
use Rattle.engine.proofs.joining.join_edges.Given as goal

abbrev pub invariant-loop-e : goal.invariant-loop-e
invariant-loop-e l = Falling l.parents × Left l.parents l.keys l.marks l.e
