use Rattle.std.proofs.Common.{◌≡◌, ◌-◌, ◌+◌, ◌≤◌, true, length, get_or, take, drop, sym, ap, ◌∙◌, arith, length-drop}
use Rattle.std.proofs.lemmas.List.{take_rest}
use Rattle.forest.specs.Polygons.{closes}
use Rattle.forest.specs.Tables.{unclosed_from}
use Rattle.engine.proofs.Closing.{meant, unclosed_more}
use Rattle.engine.proofs.codes.first_unclosed.Goals as goal

pub loop-tree-preserved : goal.loop-tree-preserved
loop-tree-preserved c =
    let ns = c.args.arounds.now in
    let i = c.loop-tree.tree in
    let xs = c.loop-tree.rest.now in
    let n = c.saturating_sub-count.result in
    let e = take_rest xs n in
    let few = c.loop-tree.invariant.few in
    let short : length (take (length xs - n) (drop n xs)) ≤ length c.args.codes.now = omega (arith, ap length e, length-drop n xs) in
    let counted = c.saturating_sub-count.ensures in
    let close : closes 1 (get_or ns i 0 - 2) (meant xs) ≡ true = ap (λ k. closes 1 k (meant xs)) (sym counted) ∙ sym c.next_close.ensures.value ∙ c.if-not-next_close.false in
    record {
      few = short;
      rest =
          ap (λ ys. unclosed_from (i + 1) (drop (i + 1) ns) (meant ys)) (e ∙ ap (λ k. drop k xs) counted)
          ∙ sym (unclosed_more i ns xs c.loop-tree-test.true close)
          ∙ c.loop-tree.invariant.rest;
    }
