use Rattle.engine.proofs.Numbered.{Numbered}
use Rattle.engine.proofs.numbers.number_positions.Given as goal

abbrev pub invariant-loop-i : goal.invariant-loop-i
invariant-loop-i l = Numbered l.positions l.vertices l.i l.next l.seen l.numbers l.parents
