use Rattle.std.proofs.Common.{sym, ap, ◌∙◌}
use Rattle.std.specs.List.{slice_get, dedup}
use Rattle.std.specs.Option.{option_map}
use Rattle.std.proofs.lemmas.Option.{slice_get-map}
use Rattle.edges.specs.Pairs.{pair_of, same}
use Rattle.edges.proofs.Ordered.{sorted_rising}
use Rattle.edges.proofs.numbering.SideEdges.nth.Goals as goal

pub returns : goal.returns
returns c =
    let n = c.args.number in
    ap (option_map pair_of) c.nth_different.ensures
    ∙ sym (slice_get-map pair_of (dedup same c.sort_unstable.new.self) n)
    ∙ ap (λ l. slice_get l n) (sorted_rising _ c.sort_unstable.new.self c.sort_unstable.ensures.permutation c.sort_unstable.ensures.sorted)
