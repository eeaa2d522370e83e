use Rattle.std.proofs.lemmas.List.{length-map}
use Rattle.runs.specs.Parts.{code_of}
use Rattle.std.proofs.Common.{◌<◌, length, ⊎_elim, ◌∙◌, arith}
use Rattle.engine.proofs.Closing.{meant, closes_front, closes_short}
use Rattle.engine.proofs.codes.next_close.Goals as goal

pub returns-in_default-clause-value : goal.returns-in_default-clause-value
returns-in_default-clause-value c =
    let short : length c.args.codes.now < c.args.count = ⊎_elim (λ h. absurd (omega arith)) (λ h. h) c.in_default.ensures.lookup.0 in
    closes_short 1 c.args.count (meant c.args.codes.now) (omega (arith, length-map c.args.codes.now code_of))

pub returns-clause-value : goal.returns-clause-value
returns-clause-value c =
    let h = c.in-Some.ensures.lookup.0 in
    c.all_close.ensures ∙ closes_front c.args.count c.args.codes.now c.in-Some.next.now h.1 h.2
