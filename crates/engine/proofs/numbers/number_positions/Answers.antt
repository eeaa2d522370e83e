use Rattle.std.proofs.Common.{◌≡◌, ℕ, ◌<◌, ◌≤◌, length, get_or, sym, ◌∙◌, arith, rules}
use Rattle.engine.proofs.Numbered.{numbered_none, numbered_first, numbered_later, numbered_all, vertex_at}
use Rattle.engine.proofs.numbers.number_positions.Goals as goal
use Rattle.engine.proofs.numbers.number_positions.Goals.{then-was_met, else-was_met}

pub loop-i-init : goal.loop-i-init
loop-i-init c =
    let zeros : (w : ℕ) → w < length c.fill.new.self → get_or c.fill.new.self w 0 ≡ 0 = λ w h. search rules in
    numbered_none c.args.positions.now c.args.vertices c.fill.new.self c.args.numbers.now c.args.parents.now zeros

pub overflow_sub-parents : goal.overflow_sub-parents
overflow_sub-parents c = let low = c.loop-i.invariant.low in omega arith

pub bounds-parents-next : goal.bounds-parents-next
bounds-parents-next c = let high = c.loop-i.invariant.high in let low = c.loop-i.invariant.low in let room = c.requires.room in omega arith

pub overflow_add-next : goal.overflow_add-next
overflow_add-next c = let high = c.loop-i.invariant.high in let small = c.requires.small in omega arith

pub loop-i-preserved : goal.loop-i-preserved
loop-i-preserved c =
    let ks = c.args.positions.now in
    let i = c.loop-i.i in
    let d = c.loop-i.invariant in
    let long : length c.loop-i.numbers ≡ length ks = c.loop-i.auto.numbers ∙ c.requires.paired in
    let room : length ks ≤ length c.loop-i.parents = let r = c.requires.room in omega arith in
    let within : vertex_at ks i < length c.loop-i.seen = let q = c.requires.within i c.loop-i-test.true in omega arith in
    elim c.if-was_met.branch [
      | then-was_met w ↦ rw (w.next-is, w.parents-is, w.numbers-is, c.was_met.ensures.met) (
          numbered_later ks c.args.vertices i c.loop-i.next c.loop-i.seen c.loop-i.numbers c.loop-i.parents d c.loop-i-test.true long room within (sym c.was_met.ensures.value ∙ w.if-was_met.true)
          )
      | else-was_met w ↦ rw (w.next-is, w.parents-is, w.numbers-is, c.was_met.ensures.met) (
          numbered_first ks c.args.vertices i c.loop-i.next c.loop-i.seen c.loop-i.numbers c.loop-i.parents d c.loop-i-test.true long within (sym c.was_met.ensures.value ∙ w.if-was_met.false)
          )
    ]

pub returns : goal.returns
returns c =
    let a = numbered_all c.args.positions.now c.args.vertices c.loop-i.i c.loop-i.next c.loop-i.seen c.loop-i.numbers c.loop-i.parents c.loop-i.invariant c.loop-i-test.false (c.loop-i.auto.numbers ∙ c.requires.paired) in
    record { value = a.total; numbers = a.values; parents = a.olds }
