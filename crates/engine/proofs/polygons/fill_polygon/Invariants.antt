use Rattle.engine.proofs.Parts.{Cut}
use Rattle.engine.proofs.polygons.fill_polygon.Given as goal

abbrev pub invariant-loop-i : goal.invariant-loop-i
invariant-loop-i l = Cut l.mirror l.numbers l.codes l.i l.parts l.stack l.words
