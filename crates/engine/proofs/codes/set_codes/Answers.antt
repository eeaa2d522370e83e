use Rattle.std.proofs.Common.{◌∙◌, ap, List, ℕ, map, arith}
use Rattle.std.specs.List.{range_with_len}
use Rattle.std.proofs.lemmas.List.FromFn.{fill_by_all}
use Rattle.record.specs.Packing.{code_in}
use Rattle.record.specs.Parts.{code_count}
use Rattle.engine.proofs.codes.set_codes.Goals as goal

pub returns : goal.returns
returns c =
    let n = code_count c.args.source.now.bytes.now in
    let done = c.loop-i-test.false in
    let counted = c.code_count-i-end.ensures in
    fill_by_all (code_in c.codes-bytes.result.now) c.loop-i.codes n 0 (c.loop-i.auto.codes ∙ c.requires) (λ k h. c.loop-i.invariant k (omega arith))
    ∙ ap (λ (bs : List ℕ). map (code_in bs) (range_with_len 0 n)) c.codes-bytes.ensures
