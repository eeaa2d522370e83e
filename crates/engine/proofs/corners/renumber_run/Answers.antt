use Rattle.std.proofs.Common.{length, sym, ◌∙◌, arith}
use Rattle.engine.specs.Marking.{marked}
use Rattle.engine.proofs.Runs.{walked_none, walked_more, walked_here, walked_all}
use Rattle.engine.proofs.corners.renumber_run.Goals as goal

pub loop-init : goal.loop-init
loop-init g c =
    let ts = (g.S.ReadingSurface.mesh c.args.s.now).triangles in
    walked_none ts (marked c.args.marking.now.keys.now c.args.marking.now.marks.now) c.args.mirror (length ts) c.args.u c.args.v c.args.n c.args.corners.now

pub loop-preserved : goal.loop-preserved
loop-preserved g c =
    let ts = (g.S.ReadingSurface.mesh c.args.s.now).triangles in
    let ms = marked c.args.marking.now.keys.now c.args.marking.now.marks.now in
    walked_more ts ms c.args.mirror (length ts) c.args.u c.args.v c.args.n c.loop.counter c.loop.at c.apex_seen-x.result c.args.corners.now c.loop.corners c.set_corner.new.corners
    c.loop.invariant (omega arith) c.apex_seen-x.ensures c.set_corner.ensures (sym c.is_marked.ensures ∙ c.if-is_marked.false)

pub returns-then-is_marked : goal.returns-then-is_marked
returns-then-is_marked g c =
    let ts = (g.S.ReadingSurface.mesh c.args.s.now).triangles in
    let ms = marked c.args.marking.now.keys.now c.args.marking.now.marks.now in
    walked_here ts ms c.args.mirror (length ts) c.args.u c.args.v c.args.n c.loop.counter c.loop.at c.apex_seen-x.result c.args.corners.now c.loop.corners c.set_corner.new.corners
    c.loop.invariant (omega arith) c.apex_seen-x.ensures c.set_corner.ensures (sym c.is_marked.ensures ∙ c.if-is_marked.true)

pub returns : goal.returns
returns g c =
    let ts = (g.S.ReadingSurface.mesh c.args.s.now).triangles in
    let ms = marked c.args.marking.now.keys.now c.args.marking.now.marks.now in
    walked_all ts ms c.args.mirror (length ts) c.args.u c.args.v c.args.n c.loop.counter c.loop.at c.args.corners.now c.loop.corners c.loop.invariant (omega arith)
