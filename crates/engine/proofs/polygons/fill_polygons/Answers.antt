use Rattle.std.proofs.Common.{◌≡◌, ℕ, ◌+◌, ◌-◌, ◌*◌, eqb, length, get_or, take, drop, sym, ap, ◌∙◌, subst, arith}
use borrow.Rule.Slice.PartMut.{put_mid}
use Rattle.forest.specs.Polygons.{closes, polygon}
use Rattle.engine.proofs.Closing.{meant}
use Rattle.engine.proofs.Filled.{Filled, tree_now, part_closes, part_length, filled_more}
use Rattle.engine.proofs.polygons.fill_polygons.Goals as goal

pub fill_polygon-requires-clause-closed : goal.fill_polygon-requires-clause-closed
fill_polygon-requires-clause-closed c =
    let cs = c.args.codes.now in
    let i = c.loop-tree.tree in
    let at = c.loop-tree.at in
    let e : at + (get_or c.args.arounds.now i 0 - 2) - at ≡ get_or c.args.arounds.now i 0 - 2 = omega arith in
    ap (λ k. closes 1 (length (take k (drop at cs))) (meant (take k (drop at cs)))) e
    ∙ part_closes c.args.arounds.now c.args.mirrors.now c.args.numbers.now cs i c.loop-tree.from at c.loop-tree.words c.loop-tree.invariant c.loop-tree-test.true

pub loop-tree-preserved : goal.loop-tree-preserved
loop-tree-preserved c =
    let ks = c.args.arounds.now in
    let bs = c.args.mirrors.now in
    let us = c.args.numbers.now in
    let cs = c.args.codes.now in
    let i = c.loop-tree.tree in
    let from = c.loop-tree.from in
    let at = c.loop-tree.at in
    let ws = c.loop-tree.words in
    let ts = c.fill_polygon.new.words in
    let n = get_or ks i 0 in
    let m = n - 2 in
    let b = eqb (get_or bs i 0) 1 in
    let room : length ws ≡ 3 * length cs = c.loop-tree.auto.words ∙ c.requires.room in
    let t = tree_now ks bs us cs i from at ws c.loop-tree.invariant c.loop-tree-test.true in
    let codes = t.codes in
    let x : from + n - from ≡ n = omega arith in
    let y : at + m - at ≡ m = omega arith in
    let z : 3 * (at + m) - 3 * at ≡ 3 * m = omega arith in
    let long : length ts ≡ 3 * m = c.fill_polygon.auto.words ∙ part_length (3 * at) (3 * (at + m) - 3 * at) ws (omega arith) ∙ z in
    let cut = c.fill_polygon.ensures
    ∙ ap (λ k. polygon b (length (take k (drop from us))) (take k (drop from us)) (meant (take (at + m - at) (drop at cs)))) x
    ∙ ap (λ k. polygon b (length (take n (drop from us))) (take n (drop from us)) (meant (take k (drop at cs)))) y in
    subst (λ (k : ℕ). Filled ks bs us cs (i + 1) (from + n) (at + m) (put_mid (3 * at) k ws ts)) (sym z)
    (filled_more ks bs us cs i from at ws c.loop-tree.invariant c.loop-tree-test.true ts c.requires.mirrored room long cut)
