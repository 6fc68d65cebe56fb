use Rattle.std.proofs.Common.{◌∙◌, refl}
use Rattle.demo_mission.specs.Demo.{number_after, demo_script}
use Rattle.demo_mission.proofs.Drawn.{three_pushed}
use Rattle.demo_mission.proofs.faults.push_faults.Goals as goal

pub returns-clause-faults : goal.returns-clause-faults
unfolding demo_script number_after
returns-clause-faults c =
    rw (c.in_ok-push-3.ensures.pushed, c.in_ok-push-2.ensures.pushed, c.in_ok-push.ensures.pushed)
    (three_pushed c.args.faults.now.items _ _ _
    ∙ rw (
      c.lost_vote.ensures,
      c.slot_of-slot.ensures,
      c.below-channel.ensures.drawn,
      c.below.ensures.drawn,
      c.below-sender.ensures.drawn,
      c.below.ensures.number,
      c.below-channel.ensures.number,
    ) refl)
