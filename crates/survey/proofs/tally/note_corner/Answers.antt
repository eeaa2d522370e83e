use Rattle.std.proofs.Common.{ap, ◌∙◌, sym, set, ◌+◌}
use Rattle.std.proofs.lemmas.List.{map-set}
use Rattle.std.proofs.Math.ListN.{get_or-map}
use Rattle.survey.specs.Tables.{counts}
use Rattle.survey.proofs.tally.note_corner.Goals as goal

pub returns-clause-counted : goal.returns-clause-counted
returns-clause-counted c =
    let xs = c.args.table.now in
    let v = c.args.v in
    map-set (λ x. x.count) xs v _ ∙ ap (λ n. set (counts xs) v (n + 1)) (sym (get_or-map (λ x. x.count) xs v (record { count = 0; last = 0 })))

pub returns-clause-noted : goal.returns-clause-noted
returns-clause-noted c = map-set (λ x. x.last) c.args.table.now c.args.v _
