use Rattle.std.proofs.Common.{drop}
use Rattle.engine.specs.Marking.{marked}
use Rattle.engine.proofs.Tallies.{Sizing}
use Rattle.engine.proofs.trees.count_edges.Given as goal

abbrev pub invariant-loop-e : goal.invariant-loop-e
invariant-loop-e l = Sizing (marked l.keys l.marks) (marked (drop l.e l.keys) (drop l.e l.marks)) l.sizes
