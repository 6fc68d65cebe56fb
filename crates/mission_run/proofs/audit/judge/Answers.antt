use Rattle.mission_run.proofs.audit.judge.Goals as goal

pub returns-in-Ok : goal.returns-in-Ok
returns-in-Ok g c = c.say.ensures c.args.mission c.args.trace.now c.in-Ok.ensures
