use Rattle.std.proofs.Common.{arith}
use Rattle.forest.specs.Roots.{against}
use Rattle.engine.proofs.Walking.{flags_all}
use Rattle.engine.proofs.loops.set_mirrors.Goals as goal

pub returns-clause-flags : goal.returns-clause-flags
returns-clause-flags g c =
    let f = against (g.S.ReadingSurface.mesh c.args.s.now).triangles in
    flags_all f c.loop-k.mirrors c.args.roots.now c.loop-k.k c.loop-k.invariant (omega arith) (omega arith)
