use Rattle.std.proofs.Common.{◌≡◌, ◌+◌, length, arith, drop}
use Rattle.engine.specs.Marking.{marked}
use Rattle.engine.proofs.Tallies.{low_room, high_room, edge_counted, left_unmarked, counting_same}
use Rattle.engine.proofs.trees.count_ends.Goals as goal
use Rattle.engine.proofs.trees.count_ends.Goals.{then-marks-e-eq1, else-marks-e-eq1}

pub note_end-requires-clause-room : goal.note_end-requires-clause-room
note_end-requires-clause-room c =
    let n : length c.loop-e.counts ≡ length c.args.counts.now = omega arith in
    let a = low_room c.args.keys.now c.args.marks.now c.loop-e.e (length c.args.counts.now) c.loop-e-test.true c.requires.paired c.requires.below c.if-marks-e-eq1.true c.requires.upward c.loop-e.counts c.loop-e.others n c.loop-e.invariant in
    omega arith

pub note_end-requires-then-marks-e-eq1-clause-room : goal.note_end-requires-then-marks-e-eq1-clause-room
note_end-requires-then-marks-e-eq1-clause-room c =
    let n : length c.loop-e.counts ≡ length c.args.counts.now = omega arith in
    let a = high_room c.args.keys.now c.args.marks.now c.loop-e.e (length c.args.counts.now) c.loop-e-test.true c.requires.paired c.requires.below c.if-marks-e-eq1.true c.requires.upward c.loop-e.counts c.loop-e.others n c.loop-e.invariant c.note_end.new.counts c.note_end.ensures.counted in
    omega arith

pub loop-e-preserved : goal.loop-e-preserved
loop-e-preserved c =
    let ks = c.args.keys.now in
    let ns = c.args.marks.now in
    let e = c.loop-e.e in
    let n : length c.loop-e.counts ≡ length c.args.counts.now = omega arith in
    elim c.if-marks-e-eq1.branch [
      | then-marks-e-eq1 w ↦ rw (w.counts-is, w.others-is)
          (edge_counted ks ns e (length c.args.counts.now) c.loop-e-test.true c.requires.paired c.requires.below w.if-marks-e-eq1.true c.requires.upward c.loop-e.counts c.loop-e.others n c.loop-e.invariant
          w.note_end.new.counts w.note_end-then-marks-e-eq1.new.counts w.note_end.new.others w.note_end-then-marks-e-eq1.new.others (omega arith)
          w.note_end.ensures.counted w.note_end-then-marks-e-eq1.ensures.counted w.note_end.ensures.noted w.note_end-then-marks-e-eq1.ensures.noted)
      | else-marks-e-eq1 w ↦ rw (w.counts-is, w.others-is)
          (counting_same (marked ks ns) (marked (drop e ks) (drop e ns)) (marked (drop (e + 1) ks) (drop (e + 1) ns)) c.loop-e.counts c.loop-e.others (left_unmarked ks ns e c.loop-e-test.true c.requires.paired w.if-marks-e-eq1.false) c.loop-e.invariant)
    ]
