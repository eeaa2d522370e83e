use Rattle.std.proofs.Common.{length, ap, arith, rules}
use Rattle.statement.proofs.Items.{first_item}
use Rattle.statement.proofs.model.ItemsIterator.next.Goals as goal

pub returns-clause-steps : goal.returns-clause-steps
returns-clause-steps c = first_item c.args.self.now.rest.now c.split_at.result.0.now c.split_at.result.1.now (search rules) (search rules) (search rules)

pub returns-clause-goes : goal.returns-clause-goes
returns-clause-goes c =
    let h = first_item c.args.self.now.rest.now c.split_at.result.0.now c.split_at.result.1.now (search rules) (search rules) (search rules) in
    record { on = λ z. (tt, tt, omega (arith, ap length h)); keeps = tt; rests = λ z. tt }
