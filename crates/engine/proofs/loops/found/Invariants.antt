use Rattle.std.proofs.Common.{◌≡◌, ◌-◌, length}
use Rattle.forest.specs.Loops.{read_as, found}
use Rattle.engine.specs.Marking.{marked}
use Rattle.engine.proofs.loops.found.Given as goal

abbrev pub invariant-loop : goal.invariant-loop
invariant-loop g l =
    let ts = (g.S.ReadingSurface.mesh l.s).triangles in
    let ms = marked l.marking.keys.now l.marking.marks.now in
    let n = length ts in
    found n (read_as l.mirror ts) ms l.u l.v ≡ found (n - l.counter) (read_as l.mirror ts) ms l.at l.v
