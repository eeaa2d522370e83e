use Rattle.engine.proofs.Spans.{Sized}
use Rattle.engine.proofs.codes.set_part_sizes.Given as goal

abbrev pub invariant-loop-i : goal.invariant-loop-i
invariant-loop-i l = Sized l.codes l.i l.left l.sizes
