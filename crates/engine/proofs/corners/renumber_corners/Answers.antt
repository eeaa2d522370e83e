use Rattle.std.proofs.Common.{◌+◌, ◌-◌, get_or, arith}
use Rattle.engine.specs.Marking.{marked}
use Rattle.engine.proofs.Renumbering.{trees_none, trees_more, trees_all}
use Rattle.engine.proofs.corners.renumber_corners.Goals as goal

pub loop-k-init : goal.loop-k-init
loop-k-init g c =
    let ts = (g.S.ReadingSurface.mesh c.args.s.now).triangles in
    trees_none ts (marked c.args.marking.now.keys.now c.args.marking.now.marks.now) c.args.arounds.now c.args.mirrors.now c.args.positions.now c.args.numbers.now c.copy_corners.new.corners c.requires.positions c.copy_corners.ensures

pub loop-k-preserved : goal.loop-k-preserved
loop-k-preserved g c =
    let ts = (g.S.ReadingSurface.mesh c.args.s.now).triangles in
    let ms = marked c.args.marking.now.keys.now c.args.marking.now.marks.now in
    let l = c.loop-k in
    let end = l.at + get_or c.args.arounds.now l.k 0 in
    trees_more ts ms c.args.arounds.now c.args.mirrors.now c.args.positions.now c.args.numbers.now l.corners c.renumber_tree.new.corners l.k l.at (end - l.at) end
    l.invariant (omega arith) c.requires.mirrors (omega arith) (omega arith) c.renumber_tree.ensures

pub returns : goal.returns
returns g c =
    let ts = (g.S.ReadingSurface.mesh c.args.s.now).triangles in
    let ms = marked c.args.marking.now.keys.now c.args.marking.now.marks.now in
    let l = c.loop-k in
    trees_all ts ms c.args.arounds.now c.args.mirrors.now c.args.positions.now c.args.numbers.now l.corners l.k l.at l.invariant (omega arith) (omega arith)
