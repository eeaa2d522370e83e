use Rattle.std.proofs.Common.{◌≡◌, ◌≤◌, length, take, drop}
use Rattle.mesh.specs.Passes.{triangles_left}
use Rattle.forest.specs.Tables.{word_tris}
use Rattle.engine.proofs.corners.copy_corners.Given as goal

abbrev pub invariant-loop-t : goal.invariant-loop-t
invariant-loop-t g l =
    let ts = (g.S.ReadingSurface.mesh l.s).triangles in
    let k = l.t-iterator.a.start in
    record {
      left : triangles_left g.S.ReadingSurface.mesh l.t-iterator.b ≡ drop k ts;
      within : k ≤ length ts;
      done : take k (word_tris l.corners) ≡ take k ts;
    }
