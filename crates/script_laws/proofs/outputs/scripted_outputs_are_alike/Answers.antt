use Rattle.std.proofs.Common.{[], sym, subst}
use Rattle.guards_model.specs.declared.Slot.TheVariants.{Switch}
use Rattle.guards_model.specs.Channels.{place_or}
use Rattle.guards_runs.specs.Cycles.{Cycle}
use Rattle.guards_runs.specs.SameFacts.{without_entries}
use Rattle.guards_runs.specs.Report.{channels_running_in}
use Rattle.guards_model.specs.Actuators.{voted_words}
use Rattle.guards_runs.specs.Outputs.{AreOutputsDue}
use Rattle.script_laws.proofs.OutputCharges.{outputs_alike}
use Rattle.script_laws.proofs.outputs.scripted_outputs_are_alike.Goals as goal

pub returns : goal.returns
returns c = λ rules version n e d xs ys same due_x due_y made_x made_y.
    outputs_alike rules version n (λ q. voted_words (place_or d.voted q [])) (channels_running_in Switch d) xs ys
    (subst (λ (x : Cycle). AreOutputsDue version n x xs) same due_x) due_y made_x made_y
