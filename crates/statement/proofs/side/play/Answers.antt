use Rattle.statement.proofs.Bases.{refused}
use Rattle.statement.proofs.side.play.Goals as goal

pub returns-in_ok-print_refusal-in-Err-clause-answer : goal.returns-in_ok-print_refusal-in-Err-clause-answer
returns-in_ok-print_refusal-in-Err-clause-answer g c = refused c.in-Err.refused.fault _ _ c.in-Err.ensures.answer
