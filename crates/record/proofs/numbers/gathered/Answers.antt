use Rattle.std.proofs.Common.{◌∙◌, ap, ◌+◌, ◌*◌, ◌%◌, ◌^◌, ℕ, arith}
use Rattle.record.proofs.Packing.{one_more}
use Rattle.record.proofs.numbers.gathered.Goals as goal

pub overflow_mul-byte : goal.overflow_mul-byte
overflow_mul-byte g c =
    let e = one_more g.row.BITS g.row.PER c.requires.fills c.loop-i.i c.loop-i.byte c.args.numbers.now c.requires.small c.loop-i-test.true c.loop-i.invariant in
    omega arith

pub overflow_add-byte : goal.overflow_add-byte
overflow_add-byte g c =
    let e = one_more g.row.BITS g.row.PER c.requires.fills c.loop-i.i c.loop-i.byte c.args.numbers.now c.requires.small c.loop-i-test.true c.loop-i.invariant in
    omega arith

pub loop-i-preserved : goal.loop-i-preserved
loop-i-preserved g c =
    let e = one_more g.row.BITS g.row.PER c.requires.fills c.loop-i.i c.loop-i.byte c.args.numbers.now c.requires.small c.loop-i-test.true c.loop-i.invariant in
    ap (λ (t : ℕ). c.loop-i.byte * (1 * 2 ^ g.row.BITS % 256) + t) c.byte_at.ensures ∙ e.0
