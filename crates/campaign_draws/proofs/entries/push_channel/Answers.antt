use Rattle.std.proofs.Common.{map}
use Rattle.guards_model.specs.Faults.{FaultValue}
use Rattle.fault_script.specs.Entries.{fault_value}
use Rattle.campaign_draws.specs.Drawing.{channel_faults}
use Rattle.campaign_draws.proofs.Drawn.{four_pushed}
use Rattle.campaign_draws.proofs.entries.push_channel.Goals as goal

pub returns-clause-faults : goal.returns-clause-faults
unfolding channel_faults
returns-clause-faults c =
    let pushed = four_pushed {A = FaultValue} (map fault_value c.args.faults.now.items) _ _ _ _ _ _ _ _
    c.in_ok-push_crash.ensures.faults c.in_ok-push_damage.ensures.faults c.in_ok-push_loss.ensures.faults c.in_ok-push_forgery.ensures.faults in
    rw (c.in_ok-push_loss.ensures.number, c.in_ok-push_damage.ensures.number, c.in_ok-push_crash.ensures.number) at pushed
