use Rattle.std.proofs.Common.{sym, ◌∙◌, length, arith}
use Rattle.forest.specs.Loops.{read_as}
use Rattle.engine.specs.Marking.{marked}
use Rattle.engine.proofs.Apexes.{found_more}
use Rattle.engine.proofs.loops.found.Goals as goal

pub loop-preserved : goal.loop-preserved
loop-preserved g c =
    let ts = (g.S.ReadingSurface.mesh c.args.s.now).triangles in
    let ms = marked c.args.marking.now.keys.now c.args.marking.now.marks.now in
    found_more (length ts) c.loop.counter (read_as c.args.mirror ts) ms c.loop.at c.args.v c.apex_seen-x.result _ c.loop.invariant (omega arith) c.apex_seen-x.ensures (sym c.is_marked.ensures ∙ c.if-is_marked.false)
