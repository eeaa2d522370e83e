use Rattle.std.proofs.Common.{◌≡◌, ◌≤◌, length, take, drop}
use Rattle.mesh.specs.Passes.{triangles_left}
use Rattle.sheet.specs.Writing.{rows, triangle_bytes, put_at}
use Rattle.sheet.specs.ReadBack.{Numbered}
use Rattle.sheet.proofs.writing.write_triangles.Given as goal

abbrev pub invariant-loop-t : goal.invariant-loop-t
invariant-loop-t g l =
    let ts = (g.S.ReadingSurface.mesh l.surface).triangles in
    let t = l.t-iterator.count in
    (triangles_left g.S.ReadingSurface.mesh l.t-iterator.iter ≡ drop t ts)
    × (t ≤ length ts)
    × (l.out ≡ put_at l.at (rows triangle_bytes (take t ts)) l.initial.out)
    × Numbered (take t ts)
