use Rattle.std.proofs.Common.{rules, tests, ◌∙◌}
use Rattle.std.proofs.lemmas.List.Sorted.{answers_always}
use Rattle.edges.specs.Pairs.{same}
use Rattle.edges.proofs.Grouped.{no_nth, some_nth}
use Rattle.edges.proofs.Ordered.{same_equal, same_self}
use Rattle.edges.proofs.numbering.nth_different.Goals as goal

pub returns-in_err-nth : goal.returns-in_err-nth
returns-in_err-nth c =
    c.from_residual.ensures
    ∙ no_nth same same_equal same_self _ _ _ _ _ _ c.nth.ensures.ran c.chunk_by.ensures.rest (answers_always _ _ _ (λ f a r f' k. search (rules, tests))) c.in_err-nth.was

pub returns : goal.returns
returns c =
    c.copied.ensures
    ∙ c.first.ensures.value
    ∙ some_nth same same_equal same_self _ _ _ _ _ _ c.nth.ensures.ran c.chunk_by.ensures.rest (answers_always _ _ _ (λ f a r f' k. search (rules, tests))) _ c.in_ok-nth.was
