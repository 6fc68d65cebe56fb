use Rattle.std.proofs.Common.{◌∙◌}
use Rattle.told_cycles.proofs.StandLemmas.{ended_is}
use Rattle.told_cycles.proofs.auditor.Auditor.is_over.Goals as goal

pub returns : goal.returns
returns c = λ M p h. c.is_ended.ensures ∙ ended_is M p c.args.self.now h
