use Rattle.std.proofs.Common.{sym, ◌∙◌}
use Rattle.told_cycles.proofs.StandLemmas.{no_some}
use Rattle.told_cycles.proofs.auditor.next_place.Goals as goal

pub returns-in-Some-clause-none : goal.returns-in-Some-clause-none
returns-in-Some-clause-none c = λ none. no_some _ (sym (c.in-Some.ensures.value ∙ none))

pub returns-in-None-clause-some : goal.returns-in-None-clause-some
returns-in-None-clause-some c = λ actuator some. no_some actuator (c.in-None.ensures.value ∙ some)
