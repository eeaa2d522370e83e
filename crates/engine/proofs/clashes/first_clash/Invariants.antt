use Rattle.std.proofs.Common.{◌≡◌, ◌+◌, drop}
use Rattle.mesh.specs.Sides.{sides}
use Rattle.mesh.specs.Meshes.{triangle_total}
use Rattle.forest.specs.Tables.{word_tris}
use Rattle.forest.specs.Theorems.{first_with}
use Rattle.engine.proofs.clashes.first_clash.Given as goal

abbrev pub invariant-loop-t : goal.invariant-loop-t
invariant-loop-t g l =
    let n = triangle_total (g.S.ReadingSurface.mesh l.s) in
    let ss = sides (word_tris l.corners) in
    first_with (n + l.t) ss (drop l.t (word_tris l.added)) ≡ first_with n ss (word_tris l.added)
