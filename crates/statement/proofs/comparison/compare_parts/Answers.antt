use Rattle.std.proofs.Common.{◌≡◌, ◌&&◌, IfOk, is_some, is_none, refl, subst, rules}
use Rattle.runs.specs.Jobs.{base_fault}
use Rattle.statement.proofs.Comparing.{compared_as}
use Rattle.statement.proofs.comparison.compare_parts.Goals as goal

pub returns-clause-answer : goal.returns-clause-answer
returns-clause-answer g c =
    let maker = c.new-maker_store.ensures in
    let shop = c.new-shop_store.ensures in
    subst (λ X. X) (λ i. IfOk c.compare_sides.result (λ o. is_some o
    ≡ (is_none (base_fault g.P.Place.kind (maker.room.0 i) (maker.room.1 i) (maker.empty i) c.args.maker.now.sheet.now)
    && is_none (base_fault g.Q.Place.kind (shop.room.0 i) (shop.room.1 i) (shop.empty i) c.args.shop.now.sheet.now)))) c.compare_sides.ensures.answer

pub returns-clause-compared : goal.returns-clause-compared
returns-clause-compared g c =
    let maker = c.new-maker_store.ensures in
    let shop = c.new-shop_store.ensures in
    compared_as g.P.Place.kind g.Q.Place.kind c.args.maker.now.sheet.now c.args.shop.now.sheet.now maker.room.0 maker.room.1 shop.room.0 shop.room.1 (search rules) refl refl c.compare_sides.result c.compare_sides.ensures.compared
