use Rattle.engine.specs.Marking.{marked}
use Rattle.engine.proofs.Renumbering.{Trees}
use Rattle.engine.proofs.corners.renumber_corners.Given as goal

abbrev pub invariant-loop-k : goal.invariant-loop-k
invariant-loop-k g l =
    let ts = (g.S.ReadingSurface.mesh l.s).triangles in
    Trees ts (marked l.marking.keys.now l.marking.marks.now) l.arounds l.mirrors l.positions l.numbers l.k l.at l.corners
