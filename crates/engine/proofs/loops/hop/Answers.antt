use Rattle.std.proofs.Common.{length, arith}
use Rattle.engine.specs.Marking.{marked}
use Rattle.engine.proofs.Walking.{found_low}
use Rattle.engine.proofs.loops.hop.Goals as goal

pub key_of-requires-clause-end : goal.key_of-requires-clause-end
key_of-requires-clause-end g c =
    let ts = (g.S.ReadingSurface.mesh c.args.s.now).triangles in
    let ms = marked c.args.marking.now.keys.now c.args.marking.now.marks.now in
    rw c.unwrap_or.ensures (found_low ts c.args.mirror ms (length ts) _ _ _ c.found.result c.requires.low c.found.ensures (omega arith))
