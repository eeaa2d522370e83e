use Rattle.std.proofs.Common.{sym, ◌∙◌}
use Rattle.std.proofs.lemmas.Result.{err_from_is_err_and}
use Rattle.record.proofs.Refusing.{refuses_first, refuses_later}
use Rattle.record.proofs.record.Record.check_layout.Goals as goal

pub returns-in_err-check_head : goal.returns-in_err-check_head
returns-in_err-check_head g c =
    let p = err_from_is_err_and c.from_residual.result c.from_residual.ensures.1 in
    rw (p.1, p.2) (sym (refuses_first _ _ _ (sym c.check_head.ensures ∙ c.in_err-check_head.was)))

pub returns-in_err-check_size : goal.returns-in_err-check_size
returns-in_err-check_size g c =
    let p = err_from_is_err_and c.from_residual-in_err-check_size.result c.from_residual-in_err-check_size.ensures.1 in
    rw (p.1, p.2) (sym (refuses_later _ _ _ (sym c.check_head.ensures ∙ c.in_ok-check_head.was) ∙ refuses_first _ _ _ (sym c.check_size.ensures ∙ c.in_err-check_size.was)))
