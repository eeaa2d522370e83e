use Rattle.std.proofs.Common.{◌≡◌, map, ap, ◌∙◌, arith}
use Rattle.std.specs.List.{range_with_len}
use Rattle.std.proofs.lemmas.List.FromFn.{fill_by_all}
use Rattle.forest.specs.Tables.{flags_of}
use Rattle.record.specs.Packing.{mark_in}
use Rattle.engine.proofs.marks.set_marks.Goals as goal

pub returns-clause-flags : goal.returns-clause-flags
returns-clause-flags c =
    let bytes = c.marks-bytes.result.now in
    let edges = c.args.from.now.edges in
    let all : c.loop-e.marks ≡ map (mark_in bytes) (range_with_len 0 edges) = fill_by_all (mark_in bytes) c.loop-e.marks edges 0 (omega arith) (λ k h. c.loop-e.invariant k (omega arith)) in
    ap flags_of all ∙ ap (λ bs. flags_of (map (mark_in bs) (range_with_len 0 edges))) c.marks-bytes.ensures
