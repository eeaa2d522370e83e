use Rattle.std.proofs.Common.{◌≡◌, cond, map, take}
use Rattle.forest.specs.Roots.{against}
use Rattle.forest.specs.Tables.{key_sides}
use Rattle.engine.proofs.loops.set_mirrors.Given as goal

abbrev pub invariant-loop-k : goal.invariant-loop-k
invariant-loop-k g l =
    let ts = (g.S.ReadingSurface.mesh l.s).triangles in
    take l.k l.mirrors ≡ map (λ r. cond (against ts r) 1 0) (key_sides (take l.k l.roots))
