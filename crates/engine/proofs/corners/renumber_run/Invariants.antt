use Rattle.std.proofs.Common.{length}
use Rattle.engine.specs.Marking.{marked}
use Rattle.engine.proofs.Runs.{Walked}
use Rattle.engine.proofs.corners.renumber_run.Given as goal

abbrev pub invariant-loop : goal.invariant-loop
invariant-loop g l =
    let ts = (g.S.ReadingSurface.mesh l.s).triangles in
    Walked ts (marked l.marking.keys.now l.marking.marks.now) l.mirror (length ts) l.u l.v l.n l.counter l.at l.initial.corners l.corners
