use Rattle.std.proofs.Common.{◌≡◌, ◌+◌, ◌-◌, ◌<◌, ◌≤◌, map, length, drop, arith, length-set}
use Rattle.runs.specs.Parts.{code_of}
use Rattle.engine.proofs.Spans.{sized_none, sized_more, left_is, left_le, right_is, both_le}
use Rattle.engine.proofs.codes.set_part_sizes.Goals as goal

pub loop-i-init : goal.loop-i-init
loop-i-init c = sized_none c.args.codes.now c.args.sizes.now

pub bounds-sizes-i-in-loop-i : goal.bounds-sizes-i-in-loop-i
bounds-sizes-i-in-loop-i c =
    let cs = c.args.codes.now in
    let i = c.loop-i.i in
    let room : length cs ≤ length c.loop-i.sizes = let r = c.requires.room in omega arith in
    let le = left_le cs c.loop-i.sizes (i - 1) i c.loop-i.left (omega arith) (omega arith) room c.loop-i.invariant in
    omega (arith, length-set c.loop-i.sizes (i - 1) c.loop-i.left)

pub part_size-left-requires : goal.part_size-left-requires
part_size-left-requires c =
    let cs = c.args.codes.now in
    let i = c.loop-i.i in
    let room : length cs ≤ length c.loop-i.sizes = let r = c.requires.room in omega arith in
    let le = both_le cs c.loop-i.sizes (i - 1) i c.loop-i.left (omega arith) (omega arith) room c.loop-i.invariant in
    let few = c.requires.few in
    omega arith

pub loop-i-preserved : goal.loop-i-preserved
loop-i-preserved c =
    let cs = c.args.codes.now in
    let i = c.loop-i.i in
    let room : length cs ≤ length c.loop-i.sizes = let r = c.requires.room in omega arith in
    let next : i ≡ i - 1 + 1 = omega arith in
    let low : i - 1 < length cs = omega arith in
    sized_more cs c.loop-i.sizes (i - 1) i c.loop-i.left next low room c.loop-i.invariant c.part_size-left.result (
    c.part_size-left.ensures (map code_of (drop (i - 1 + 1) cs))
    (left_is cs c.loop-i.sizes (i - 1) i c.loop-i.left next low room c.loop-i.invariant)
    (right_is cs c.loop-i.sizes (i - 1) i c.loop-i.left next low room c.loop-i.invariant)
    )

pub returns : goal.returns
returns c i h = c.loop-i.invariant.later i (omega arith) h
