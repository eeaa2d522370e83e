use Rattle.std.proofs.Common.{take}
use Rattle.forest.specs.Numbering.{renumber, run_numbers}
use Rattle.forest.specs.Tables.{key_sides}
use Rattle.engine.specs.Corners.{Renumbers}
use Rattle.engine.specs.Marking.{marked}
use Rattle.engine.proofs.corners.renumber_tree.Given as goal

abbrev pub invariant-loop-i : goal.invariant-loop-i
invariant-loop-i g l =
    let ts = (g.S.ReadingSurface.mesh l.s).triangles in
    Renumbers ts l.initial.corners l.corners (renumber ts (marked l.marking.keys.now l.marking.marks.now) l.mirror (key_sides (take l.i l.positions)) (take l.i (run_numbers l.numbers)))
