use Rattle.std.proofs.Common.{◌≡◌, ℕ, ltb, refl, rules, tests}
use Rattle.std.proofs.lemmas.Iterator.{YieldsList-from_slice}
use Rattle.std.proofs.lemmas.Iterator.Search.{position_from_yields_List}
use Rattle.std.specs.List.{position}
use Rattle.record.proofs.Refusing.{over_first}
use Rattle.record.proofs.parts.check_values.Goals as goal

pub returns-in-Some : goal.returns-in-Some
returns-in-Some c =
    let xs = c.args.numbers.now in
    let first : c.position.result ≡ position (λ (x : ℕ). ltb c.args.limit x) xs =
    position_from_yields_List (λ (x : ℕ). ltb c.args.limit x) _ _ c.position.result c.position.ensures.ran (YieldsList-from_slice xs cc) (λ x b q k. search (rules, tests)) in
    rw (over_first c.args.limit xs, ← first, c.in-Some.is) refl

pub returns : goal.returns
returns c =
    let xs = c.args.numbers.now in
    let first : c.position.result ≡ position (λ (x : ℕ). ltb c.args.limit x) xs =
    position_from_yields_List (λ (x : ℕ). ltb c.args.limit x) _ _ c.position.result c.position.ensures.ran (YieldsList-from_slice xs cc) (λ x b q k. search (rules, tests)) in
    rw (over_first c.args.limit xs, ← first, c.in_default.is) refl
