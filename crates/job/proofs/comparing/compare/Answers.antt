use Rattle.runs.proofs.Whole.{two_jobs}
use Rattle.job.proofs.Balance.{runs_balance}
use Rattle.job.proofs.comparing.compare.Goals as goal

pub returns-clause-both : goal.returns-clause-both
returns-clause-both g c = two_jobs g.P.Place.kind g.Q.Place.kind g.met.P.Place.lawful g.met.Q.Place.lawful _ _

pub returns-clause-first_balances : goal.returns-clause-first_balances
returns-clause-first_balances g c = runs_balance g.P.Place.kind g.met.P.Place.lawful _

pub returns-clause-second_balances : goal.returns-clause-second_balances
returns-clause-second_balances g c = runs_balance g.Q.Place.kind g.met.Q.Place.lawful _
