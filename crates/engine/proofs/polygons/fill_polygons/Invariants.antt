use Rattle.engine.proofs.Filled.{Filled}
use Rattle.engine.proofs.polygons.fill_polygons.Given as goal

abbrev pub invariant-loop-tree : goal.invariant-loop-tree
invariant-loop-tree l = Filled l.arounds l.mirrors l.numbers l.codes l.tree l.from l.at l.words
