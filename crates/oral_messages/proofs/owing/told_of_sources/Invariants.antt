use Rattle.guards_model.specs.OralMessages.{paths}
use Rattle.oral_messages.proofs.ItemsTold.{TellsFront}
use Rattle.oral_messages.proofs.owing.told_of_sources.Given as goal

abbrev pub invariant-loop-place : goal.invariant-loop-place
invariant-loop-place l = TellsFront l.me l.values (paths l.members 1) l.items.items l.place
