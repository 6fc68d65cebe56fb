use Rattle.std.proofs.Common.{◌≡◌, flat_map, take, string_bytes}
use Rattle.guards_model.specs.Texts.{step_text}
use Rattle.guards_model.specs.Records.{actor_of_step}
use Rattle.report_text.proofs.lines.steps_text.Given as goal

abbrev pub invariant-loop-step : goal.invariant-loop-step
invariant-loop-step l = string_bytes l.text ≡ flat_map (λ s. step_text (actor_of_step s)) (take l.step-index l.steps)
