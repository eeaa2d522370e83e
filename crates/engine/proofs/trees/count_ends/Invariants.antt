use Rattle.std.proofs.Common.{drop}
use Rattle.engine.specs.Marking.{marked}
use Rattle.engine.proofs.Tallies.{Counting}
use Rattle.engine.proofs.trees.count_ends.Given as goal

abbrev pub invariant-loop-e : goal.invariant-loop-e
invariant-loop-e l = Counting (marked l.keys l.marks) (marked (drop l.e l.keys) (drop l.e l.marks)) l.counts l.others
