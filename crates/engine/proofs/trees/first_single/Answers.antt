use Rattle.std.proofs.Common.{◌≡◌, ℕ, eqb, sym, ap, ◌∙◌, arith, rules, tests}
use Rattle.std.specs.List.{slice_get, position}
use Rattle.std.specs.Option.{option_and_then}
use Rattle.std.proofs.lemmas.Grind.{common_steps}
use Rattle.std.proofs.lemmas.Option.{gets}
use Rattle.std.proofs.lemmas.Iterator.{YieldsList-from_slice}
use Rattle.std.proofs.lemmas.Iterator.Search.{position_from_yields_List}
use Rattle.engine.proofs.Listed.{single_found}
use Rattle.engine.proofs.trees.first_single.Goals as goal

pub returns-in_err-tree : goal.returns-in_err-tree
returns-in_err-tree c = λ ms q.
    let xs = c.args.arounds.now in
    let first : c.position.result ≡ position (λ (x : ℕ). eqb x 2) xs =
    position_from_yields_List (λ (x : ℕ). eqb x 2) _ _ c.position.result c.position.ensures.ran (YieldsList-from_slice xs cc) (λ x b q k. search (rules, tests)) in
    c.from_residual.ensures ∙ ap (option_and_then (slice_get c.args.lowest.now)) (sym c.in_err-tree.was ∙ first) ∙ single_found ms c.args.lowest.now xs q

pub returns : goal.returns
returns c = λ ms q.
    let xs = c.args.arounds.now in
    let first : c.position.result ≡ position (λ (x : ℕ). eqb x 2) xs =
    position_from_yields_List (λ (x : ℕ). eqb x 2) _ _ c.position.result c.position.ensures.ran (YieldsList-from_slice xs cc) (λ x b q k. search (rules, tests)) in
    let there : c.copied.result ≡ slice_get c.args.lowest.now c.in_ok-tree.tree = grind (arith, common_steps, gets) in
    there ∙ ap (option_and_then (slice_get c.args.lowest.now)) (sym c.in_ok-tree.was ∙ first) ∙ single_found ms c.args.lowest.now xs q
