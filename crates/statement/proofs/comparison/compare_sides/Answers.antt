use Rattle.std.proofs.Common.{length, map, rules}
use Rattle.runs.specs.Calls.{state_of}
use Rattle.runs.specs.Runs.{Run}
use Rattle.job.specs.Answers.{job_of}
use Rattle.statement.specs.Sides.{offers}
use Rattle.statement.proofs.Comparing.{compared}
use Rattle.statement.proofs.comparison.compare_sides.Goals as goal

pub returns-clause-compared : goal.returns-clause-compared
returns-clause-compared g c =
    let k = g.P.Place.kind in
    let l = g.Q.Place.kind in
    let va = g.S.GrowingStore.vertex_room c.args.maker_store.now in
    let ta = g.S.GrowingStore.triangle_room c.args.maker_store.now in
    let vb = g.R.GrowingStore.vertex_room c.args.shop_store.now in
    let tb = g.R.GrowingStore.triangle_room c.args.shop_store.now in
    let table = length c.args.table.now in
    let maker = c.args.maker.now in
    let shop = c.args.shop.now in
    let records = map (λ r. r.now) maker.records.now in
    let others = map (λ r. r.now) shop.records.now in
    let a = state_of (g.S.ReadingSurface.mesh c.play.new.store) (job_of c.in-Some.first) in
    let b = state_of (g.R.ReadingSurface.mesh c.play-2.new.store) (job_of c.in-Some-2.second) in
    let one : Run k va ta maker.sheet.now (offers table records) a = search rules in
    let two : Run l vb tb shop.sheet.now (offers table others) b = search rules in
    let x = c.compare.ensures in
    compared k l va ta vb tb table maker.sheet.now shop.sheet.now records others a b c.compare.result one two x.first x.second x.both x.first_balances x.second_balances
