use Rattle.std.proofs.Common.{sym, rules}
use Rattle.engine.proofs.Marked.{down_absent, high_absent, looked_up}
use Rattle.engine.proofs.marking.Marking.has_mark.Goals as goal
use Rattle.engine.proofs.marking.Marking.has_mark.Goals.{then-low-high-via-then-low-high, then-low-high-via-else-low-high+then-high-ge-MAX_VERTICES}

pub returns-then-low-high : goal.returns-then-low-high
returns-then-low-high c =
    let m = c.args.self.now in
    elim c.then-low-high.branch [
      | then-low-high-via-then-low-high w ↦ sym (down_absent c.args.low c.args.high m.keys.now m.marks.now m.upward w.if-low-high.true)
      | then-low-high-via-else-low-high+then-high-ge-MAX_VERTICES w ↦ sym (high_absent c.args.low c.args.high m.keys.now m.marks.now w.if-high-ge-MAX_VERTICES.true)
    ]

pub returns : goal.returns
returns c =
    let m = c.args.self.now in
    looked_up _ c.key_of.result m.keys.now m.marks.now c.binary_search.result c.is_ok_and.result m.climbing m.paired c.key_of.ensures c.binary_search.ensures.position (search rules)
