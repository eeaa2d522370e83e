use Rattle.engine.proofs.Gathered.{Gathered}
use Rattle.engine.proofs.trees.gather.Given as goal

abbrev pub invariant-loop-k : goal.invariant-loop-k
invariant-loop-k l = Gathered l.fn.arounds l.fn.roots l.lowest l.arounds l.roots l.k l.count
