use Rattle.std.proofs.Common.{◌≡◌, ◌+◌, length, arith, drop, refl}
use Rattle.engine.specs.Marking.{marked}
use Rattle.engine.proofs.Tallies.{label_at, label_room, edge_sized, left_unmarked, sizing_same}
use Rattle.engine.proofs.trees.count_edges.Goals as goal
use Rattle.engine.proofs.trees.count_edges.Goals.{then-marks-e-eq1, else-marks-e-eq1}

pub bounds-sizes-labels : goal.bounds-sizes-labels
bounds-sizes-labels c =
    let n : length c.loop-e.sizes ≡ length c.args.labels.now = omega arith in
    label_at c.args.keys.now c.args.marks.now c.loop-e.e (length c.args.labels.now) c.loop-e-test.true c.requires.paired c.requires.below c.if-marks-e-eq1.true c.args.labels.now refl c.requires.labelled c.loop-e.sizes n c.loop-e.invariant

pub overflow_add-sizes : goal.overflow_add-sizes
overflow_add-sizes c =
    let n : length c.loop-e.sizes ≡ length c.args.labels.now = omega arith in
    let a = label_room c.args.keys.now c.args.marks.now c.loop-e.e (length c.args.labels.now) c.loop-e-test.true c.requires.paired c.requires.below c.if-marks-e-eq1.true c.args.labels.now refl c.requires.labelled c.loop-e.sizes n c.loop-e.invariant in
    omega arith

pub bounds-sizes-labels-then-marks-e-eq1 : goal.bounds-sizes-labels-then-marks-e-eq1
bounds-sizes-labels-then-marks-e-eq1 c =
    let n : length c.loop-e.sizes ≡ length c.args.labels.now = omega arith in
    label_at c.args.keys.now c.args.marks.now c.loop-e.e (length c.args.labels.now) c.loop-e-test.true c.requires.paired c.requires.below c.if-marks-e-eq1.true c.args.labels.now refl c.requires.labelled c.loop-e.sizes n c.loop-e.invariant

pub loop-e-preserved : goal.loop-e-preserved
loop-e-preserved c =
    let ks = c.args.keys.now in
    let ns = c.args.marks.now in
    let e = c.loop-e.e in
    let n : length c.loop-e.sizes ≡ length c.args.labels.now = omega arith in
    elim c.if-marks-e-eq1.branch [
      | then-marks-e-eq1 w ↦ rw w.sizes-is
          (edge_sized ks ns e (length c.args.labels.now) c.loop-e-test.true c.requires.paired c.requires.below w.if-marks-e-eq1.true c.args.labels.now refl c.requires.labelled c.loop-e.sizes n c.loop-e.invariant)
      | else-marks-e-eq1 w ↦ rw w.sizes-is
          (sizing_same (marked ks ns) (marked (drop e ks) (drop e ns)) (marked (drop (e + 1) ks) (drop (e + 1) ns)) c.loop-e.sizes (left_unmarked ks ns e c.loop-e-test.true c.requires.paired w.if-marks-e-eq1.false) c.loop-e.invariant)
    ]
