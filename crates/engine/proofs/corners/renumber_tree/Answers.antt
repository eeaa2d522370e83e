use Rattle.std.proofs.Common.{◌∙◌, arith}
use Rattle.forest.specs.Numbering.{run_numbers}
use Rattle.engine.specs.Marking.{marked}
use Rattle.engine.proofs.Renumbering.{run_numbers_length, tree_none, tree_more, tree_all}
use Rattle.engine.proofs.corners.renumber_tree.Goals as goal

pub loop-i-init : goal.loop-i-init
loop-i-init g c =
    let ts = (g.S.ReadingSurface.mesh c.args.s.now).triangles in
    tree_none ts (marked c.args.marking.now.keys.now c.args.marking.now.marks.now) c.args.mirror c.args.positions.now (run_numbers c.args.numbers.now) c.args.corners.now

pub loop-i-preserved : goal.loop-i-preserved
loop-i-preserved g c =
    let ts = (g.S.ReadingSurface.mesh c.args.s.now).triangles in
    let l = c.loop-i in
    tree_more ts (marked c.args.marking.now.keys.now c.args.marking.now.marks.now) c.args.mirror c.args.positions.now (run_numbers c.args.numbers.now)
    c.args.corners.now l.corners c.renumber_run.new.corners l.i c.run_number-n.result l.invariant c.renumber_run.ensures c.run_number-n.ensures (omega arith)
    (run_numbers_length c.args.numbers.now ∙ c.requires.numbers)

pub returns : goal.returns
returns g c =
    let ts = (g.S.ReadingSurface.mesh c.args.s.now).triangles in
    let e = run_numbers_length c.args.numbers.now in
    tree_all ts (marked c.args.marking.now.keys.now c.args.marking.now.marks.now) c.args.mirror c.args.positions.now (run_numbers c.args.numbers.now)
    c.args.corners.now c.loop-i.corners c.loop-i.i c.loop-i.invariant (omega arith) (omega arith)
