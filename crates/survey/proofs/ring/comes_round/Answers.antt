use Rattle.std.proofs.Common.{rules}
use Rattle.survey.proofs.Rounds.{round_more}
use Rattle.survey.proofs.ring.comes_round.Goals as goal

pub loop-preserved : goal.loop-preserved
loop-preserved g c = search (rules, round_more)
