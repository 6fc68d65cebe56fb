use Rattle.sweep_round.proofs.RoundEnded.{some_ended}
use Rattle.sweep_round.proofs.work.run_round.Goals as goal

pub returns-clause-ended : goal.returns-clause-ended
returns-clause-ended g c = some_ended c.args.round c.args.crew c.work_ended.result.0 c.work_ended.ensures.ended
