use Rattle.std.proofs.Common.{ap, ◌∙◌, cond, []}
use Rattle.guards_model.specs.Rounds.{steps_of}
use Rattle.guards_laws.proofs.EventHistories.{of_cycle}
use Rattle.guards_laws.proofs.events.events_follow_the_histories.Goals as goal

pub returns-clause-works : goal.returns-clause-works
returns-clause-works c M L n steps p mission works =
    of_cycle p M L n steps mission ∙ ap (λ b. cond b (steps_of steps p) []) works

pub returns-clause-rests : goal.returns-clause-rests
returns-clause-rests c M L n steps p mission rests =
    of_cycle p M L n steps mission ∙ ap (λ b. cond b (steps_of steps p) []) rests
