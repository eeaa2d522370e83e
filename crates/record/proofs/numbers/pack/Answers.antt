use Rattle.std.proofs.Common.{length, ◌∙◌, arith}
use Rattle.record.specs.Packing.{bytes_for, packed}
use Rattle.record.proofs.Packing.{one_byte_less, piece_small, packs_more, packs_all}
use Rattle.record.proofs.numbers.pack.Goals as goal

pub gathered-requires-clause-small : goal.gathered-requires-clause-small
gathered-requires-clause-small g c =
    let i = c.loop-k.invariant in
    piece_small g.row.BITS g.row.PER _ _ _ _ c.requires.fills i.0 c.in-Some.ensures.steps.0.1 i.1.small

pub bounds-out-k : goal.bounds-out-k
bounds-out-k g c =
    let i = c.loop-k.invariant in
    let s = c.in-Some.ensures.steps in
    omega (arith, i.1.count, s.1, one_byte_less g.row.BITS g.row.PER _ _ _ _ c.requires.fills i.0 s.0.1)

pub loop-k-preserved : goal.loop-k-preserved
loop-k-preserved g c =
    let w = g.row.BITS in
    let n = g.row.PER in
    let xs = c.args.numbers.now in
    let i = c.loop-k.invariant in
    let s = c.in-Some.ensures.steps in
    (s.0.0 ∙ i.0, packs_more w n _ _ _ _ c.requires.fills i.0 s.0.1 _ _ _ _ c.loop-k.out (packed w n (bytes_for n (length xs)) xs) s.2 s.1 c.gathered.ensures i.1)

pub returns : goal.returns
returns g c = packs_all g.row.BITS g.row.PER _ _ _ _ c.requires.fills c.in-None.ensures.steps.0.1.0 c.loop-k.invariant.1
