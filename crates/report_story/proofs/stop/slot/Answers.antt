use Rattle.std.proofs.Common.{sym, ◌∙◌}
use Rattle.guards_model.specs.declared.Slot.TheVariants as slot
use Rattle.report_story.proofs.StopLemmas.{slot_is}
use Rattle.report_story.proofs.stop.slot.Goals as goal

pub returns-in-request : goal.returns-in-request
returns-in-request c = λ s e. slot_is slot.Request s (sym c.in-request.is ∙ e)

pub returns-in-round1 : goal.returns-in-round1
returns-in-round1 c = λ s e. slot_is slot.Round1 s (sym c.in-round1.is ∙ e)

pub returns-in-round2 : goal.returns-in-round2
returns-in-round2 c = λ s e. slot_is slot.Round2 s (sym c.in-round2.is ∙ e)

pub returns-in-round3 : goal.returns-in-round3
returns-in-round3 c = λ s e. slot_is slot.Round3 s (sym c.in-round3.is ∙ e)

pub returns-in-tasks : goal.returns-in-tasks
returns-in-tasks c = λ s e. slot_is slot.Tasks s (sym c.in-tasks.is ∙ e)

pub returns-in-vote : goal.returns-in-vote
returns-in-vote c = λ s e. slot_is slot.Vote s (sym c.in-vote.is ∙ e)

pub returns-in-sweep : goal.returns-in-sweep
returns-in-sweep c = λ s e. slot_is slot.Sweep s (sym c.in-sweep.is ∙ e)

pub returns-in-final : goal.returns-in-final
returns-in-final c = λ s e. slot_is slot.Final s (sym c.in-final.is ∙ e)

pub returns-in-switch : goal.returns-in-switch
returns-in-switch c = λ s e. slot_is slot.Switch s (sym c.in-switch.is ∙ e)
