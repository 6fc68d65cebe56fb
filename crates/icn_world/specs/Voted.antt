-- What the vote slot leaves.
use Rattle.std.specs.Prelude.{◌++◌}
use Rattle.guards_model.specs.declared.Slot.TheVariants.{Vote}
use Rattle.guards_model.specs.Network.{Log}
use Rattle.guards_model.specs.Rounds.{Steps}
use Rattle.guards_world.specs.Worlds.{WorldValue, facts_in}
use Rattle.fault_script.specs.declared.disturbance.Disturbance.{Disturbance}
use Rattle.guards_base.specs.Seen.{Seen}
use Rattle.guards_model.specs.Texts.{LineValue}
use Rattle.guards_model.specs.Slots.{stage_after}
use Rattle.icn_world.specs.Stages.{IsWithinCycle}
use Rattle.icn_world.specs.Told.{AreLinesOf}

-- the vote slot is handed over, and these are the lines of the channels that run in it
pub record HasVoted (lines : Seen LineValue) (earlier current : Log) (steps : Steps) (w : WorldValue)
    (d : Disturbance) : Type 0 where
  pub stands : IsWithinCycle Vote (stage_after Vote) (stage_after Vote) earlier current steps w d
  pub lines_are : AreLinesOf w.mission (facts_in w (earlier ++ current)) Vote lines.items
