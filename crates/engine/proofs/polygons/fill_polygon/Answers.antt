use Rattle.std.proofs.Common.{◌≡◌, ℕ, ◌+◌, ◌-◌, ◌*◌, length, get_or, drop, sym, ap, ◌∙◌, subst, arith}
use Rattle.std.proofs.lemmas.List.{drop-map}
use Rattle.forest.specs.Polygons.{span}
use Rattle.runs.specs.Parts.{code_of}
use Rattle.engine.specs.Filling.{opens}
use Rattle.engine.proofs.Closing.{meant, after_le}
use Rattle.engine.proofs.Parts.{Top, Cut, cut_none, cut_more, cut_all, top_now, few_next, third_within}
use Rattle.engine.proofs.polygons.fill_polygon.Goals as goal
use Rattle.engine.proofs.polygons.fill_polygon.Goals.{In-loop-i}

pub loop-i-init : goal.loop-i-init
loop-i-init c =
    let ns = c.args.numbers.now in
    let cs = c.args.codes.now in
    let one = c.push_part-parts.ensures.count in
    let p = ap (λ d. opens d c.push_part-parts.new.stack) (sym one) ∙ c.push_part-parts.ensures.parts in
    subst (λ (d : ℕ). Cut c.args.mirror ns cs 0 d c.push_part-parts.new.stack c.args.words.now) (sym one)
    (cut_none c.args.mirror ns cs c.push_part-parts.new.stack c.args.words.now c.requires.counted c.requires.closed p)

-- the part on top of the stack
top : (c : In-loop-i)
    → Top (length c.args.numbers.now) (get_or c.args.sizes.now c.loop-i.i 0) (get_or c.args.codes.now c.loop-i.i 0) (get_or c.loop-i.stack (2 * (c.loop-i.parts - 1)) 0)
    (get_or c.loop-i.stack (2 * (c.loop-i.parts - 1) + 1) 0) c.loop-i.parts c.loop-i.i (length c.args.codes.now)
top c =
    let cs = c.args.codes.now in
    let i = c.loop-i.i in
    top_now c.args.mirror c.args.numbers.now cs i c.loop-i.parts c.loop-i.stack c.loop-i.words c.loop-i.invariant c.loop-i-test.true (get_or c.args.sizes.now i 0)
    (c.requires.sized i c.loop-i-test.true ∙ ap (span 1) (drop-map code_of (i + 1) cs))

pub overflow_sub-others : goal.overflow_sub-others
overflow_sub-others c = let t = top (goal.at.overflow_sub-others c).In-loop-i in let some = t.some in omega arith

pub third_corner-corner-requires : goal.third_corner-corner-requires
third_corner-corner-requires c = let t = top (goal.at.third_corner-corner-requires c).In-loop-i in record { apart = t.apart; both = t.left }

pub set_triangle-requires-clause-left : goal.set_triangle-requires-clause-left
set_triangle-requires-clause-left c = let t = top (goal.at.set_triangle-requires-clause-left c).In-loop-i in t.within

pub set_triangle-requires-clause-right : goal.set_triangle-requires-clause-right
set_triangle-requires-clause-right c = let t = top (goal.at.set_triangle-requires-clause-right c).In-loop-i in let a = t.apart in let w = t.within in omega arith

pub set_triangle-requires-clause-corner : goal.set_triangle-requires-clause-corner
set_triangle-requires-clause-corner c =
    let cs = c.args.codes.now in
    let i = c.loop-i.i in
    let rest = meant (drop (i + 1) cs) in
    let t = top (goal.at.set_triangle-requires-clause-corner c).In-loop-i in
    let e = c.third_corner-corner.ensures rest (λ three. c.requires.sized i c.loop-i-test.true ∙ ap (span 1) (drop-map code_of (i + 1) cs)) in
    let w = third_within (code_of (get_or cs i 0)) _ _ _ rest t.apart t.within in
    omega arith

pub push_opened-parts-requires : goal.push_opened-parts-requires
push_opened-parts-requires c =
    let cs = c.args.codes.now in
    let i = c.loop-i.i in
    let few = few_next c.args.mirror c.args.numbers.now cs i c.loop-i.parts c.loop-i.stack c.loop-i.words c.loop-i.invariant c.loop-i-test.true in
    let le = after_le (code_of (get_or cs i 0)) (c.loop-i.parts - 1) in
    let low = c.loop-i.invariant.few in
    let t = top (goal.at.push_opened-parts-requires c).In-loop-i in
    let some = t.some in
    let room = c.requires.depth in
    omega arith

pub loop-i-preserved : goal.loop-i-preserved
loop-i-preserved c =
    let cs = c.args.codes.now in
    let i = c.loop-i.i in
    let rest = meant (drop (i + 1) cs) in
    let e = c.third_corner-corner.ensures rest (λ three. c.requires.sized i c.loop-i-test.true ∙ ap (span 1) (drop-map code_of (i + 1) cs)) in
    cut_more c.args.mirror c.args.numbers.now cs i c.loop-i.parts c.loop-i.stack c.loop-i.words c.loop-i.invariant c.loop-i-test.true
    c.third_corner-corner.result c.push_opened-parts.result c.push_opened-parts.new.stack c.set_triangle.new.words
    e c.push_opened-parts.ensures.count c.push_opened-parts.ensures.parts c.set_triangle.ensures

pub returns : goal.returns
returns c =
    let done : length c.args.codes.now ≡ c.loop-i.i = let a = c.loop-i-test.false in let b = c.loop-i.auto.i-end in omega arith in
    cut_all c.args.mirror c.args.numbers.now c.args.codes.now c.loop-i.i c.loop-i.parts c.loop-i.stack c.loop-i.words c.loop-i.invariant done (c.loop-i.auto.words ∙ c.requires.room)
