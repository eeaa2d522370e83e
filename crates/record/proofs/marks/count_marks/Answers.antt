use Rattle.std.proofs.Common.{◌≡◌, ℕ, ◌<◌, ◌^◌, ◌∙◌, sym, subst, of_calls, rules, tests, arith}
use Rattle.std.proofs.lemmas.Iterator.{YieldsList-from_range, YieldsList-from_map}
use Rattle.std.proofs.lemmas.Iterator.Consumers.{sum_by_from_yields_List, fits_by_from_yields_list}
use Rattle.std.specs.List.{sum_by, range_with_len}
use Rattle.record.specs.Packing.{mark_in}
use Rattle.record.proofs.Unpacking.{marks_summed, marks_few}
use Rattle.record.proofs.marks.count_marks.Goals as goal

pub sum-requires : goal.sum-requires
sum-requires c =
    let bs = c.args.bytes.now in
    let m = c.args.edges in
    let few = marks_few bs m in
    let all = marks_summed bs m in
    let small : sum_by (mark_in bs) (range_with_len 0 m) < 2 ^ 32 = omega arith in
    record {
      can = search of_calls;
      finite = search of_calls;
      fits = fits_by_from_yields_list (mark_in bs) (range_with_len 0 m) c.map.result _ (YieldsList-from_map _ (mark_in bs) (YieldsList-from_range 0 m m c.map.ensures.source (omega arith)) c.map.ensures.closure (λ x b q k. search (rules, tests))) small;
    }

pub returns : goal.returns
returns c =
    let bs = c.args.bytes.now in
    let m = c.args.edges in
    sum_by_from_yields_List (mark_in bs) (range_with_len 0 m) c.map.result c.sum.result c.sum.ensures.ran (YieldsList-from_map _ (mark_in bs) (YieldsList-from_range 0 m m c.map.ensures.source (omega arith)) c.map.ensures.closure (λ x b q k. search (rules, tests))) ∙ marks_summed bs m
