use Rattle.std.proofs.Common.{◌≡◌, ◌<◌, ◌≤◌, ◌^◌, ℕ, not, eqb, cond, length, sym, ◌∙◌, of_calls, rules, tests, arith}
use Rattle.std.proofs.lemmas.Iterator.{YieldsList-from_slice, YieldsList-from_map}
use Rattle.std.proofs.lemmas.Iterator.Consumers.{sum_by_from_yields_List, fits_by_from_yields_list}
use Rattle.std.specs.List.{sum_by}
use Rattle.record.proofs.Refusing.{not_zero_counted, few_not_zero}
use Rattle.record.proofs.parts.count_not_zero.Goals as goal

pub sum-requires : goal.sum-requires
sum-requires c =
    let xs = c.args.numbers.now in
    let one = λ (x : ℕ). cond (not (eqb x 0)) 1 0 in
    let few = few_not_zero xs in
    let all = not_zero_counted xs in
    let small : sum_by one xs < 2 ^ 64 = omega arith in
    record {
      can = search of_calls;
      finite = search of_calls;
      fits = fits_by_from_yields_list one xs c.map.result _ (YieldsList-from_map _ one (YieldsList-from_slice xs cc) c.map.ensures.closure (λ x b q k. search (rules, tests))) small;
    }

pub returns : goal.returns
returns c =
    let xs = c.args.numbers.now in
    let one = λ (x : ℕ). cond (not (eqb x 0)) 1 0 in
    let few = few_not_zero xs in
    let value = sum_by_from_yields_List one xs c.map.result c.sum.result c.sum.ensures.ran (YieldsList-from_map _ one (YieldsList-from_slice xs cc) c.map.ensures.closure (λ x b q k. search (rules, tests))) ∙ sym (not_zero_counted xs) in
    record { value = value; small = omega arith }
