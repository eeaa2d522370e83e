use Rattle.std.proofs.Common.{◌≡◌, ℕ, Bool, false, cond, ltb, List, ◌++◌, length, drop, Result, sym, ap, ◌∙◌, rules}
use Rattle.survey.specs.declared.counts.Counts.{Counts}
use Rattle.fault.specs.declared.fault.Fault.{Fault}
use Rattle.survey_c.specs.Answers.{any_surveyed, number_of, written}
use Rattle.survey_c.proofs.call.wz_survey_sheet.Goals as goal

pub returns-in-Ok : goal.returns-in-Ok
returns-in-Ok c =
    let out = c.args.out.now in
    let bs = c.args.sheet.now in
    let t : ltb (length out) 16 ≡ false = search rules in
    let e = c.in-Ok.ensures in
    let w = c.copy_from_slice.ensures.after ∙ c.counts_bytes-bytes.ensures in
    record {
      answer = ap number_of e ∙ sym (ap (λ (b : Bool). cond {A = ℕ} b 9 (number_of (any_surveyed bs))) t);
      after = ap (λ (l : List ℕ). l ++ drop 16 out) w ∙ (ap (λ (r : Result Counts Fault). written r out) e ∙ sym (ap (λ (b : Bool). cond b out (written (any_surveyed bs) out)) t));
    }
