use Rattle.std.proofs.Common.{◌≡◌, ◌≤◌, length, drop}
use Rattle.mesh.specs.Passes.{triangles_left}
use Rattle.survey.specs.Tables.{Counted, Seen, counts, lasts}
use Rattle.survey.proofs.tally.Tally.new.Given as goal

abbrev pub invariant-loop-i : goal.invariant-loop-i
invariant-loop-i g l =
    let ts = (g.S.ReadingSurface.mesh l.surface).triangles in
    let i = l.i-iterator.a.start in
    (triangles_left g.S.ReadingSurface.mesh l.i-iterator.b ≡ drop i ts)
    × (i ≤ length ts)
    × Counted ts i (counts l.table)
    × Seen ts i (lasts l.table)
