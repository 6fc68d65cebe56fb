-- What the work of the tasks slot leaves: the steps that the channels made, and the rounds that it answers.
use Rattle.std.specs.Prelude.{◌≡◌, List, ◌++◌, map}
use Rattle.guards_model.specs.declared.Slot.TheVariants.{Tasks}
use Rattle.guards_model.specs.Network.{Log}
use Rattle.guards_model.specs.Rounds.{Steps, steps_of}
use Rattle.guards_model.specs.Texts.{TraceValue}
use Rattle.guards_model.specs.Slots.{stage_after}
use Rattle.guards_runs.specs.Report.{channels_running_in}
use Rattle.guards_world.specs.Worlds.{WorldValue, past_in, facts_in}
use Rattle.guards_world.specs.InCycle.{InCycle}
use Rattle.guards_world.specs.WorldCycle.{AreFull}

-- The nodes hold what the facts say by these steps, which are full for each channel that works, and the rounds are
-- those of these channels, in order.
pub record HasDoneWork (made : Steps) (traces : List TraceValue) (earlier current : Log) (w : WorldValue) : Type 0 where
  pub inside : InCycle w.mission earlier current made Tasks (stage_after Tasks) (stage_after Tasks) w
  pub full : AreFull w.mission (past_in w (earlier ++ current)) (facts_in w (earlier ++ current)) made
  pub traces_are : traces ≡ map (λ p. record { channel = p; steps = steps_of made p })
      (channels_running_in Tasks (facts_in w (earlier ++ current)))
