use Rattle.campaign_draws.proofs.DrawnMissions.{drawn_entries}
use Rattle.campaign_draws.proofs.mission.drawn_mission.Goals as goal

pub with_script-requires-clause-entries : goal.with_script-requires-clause-entries
with_script-requires-clause-entries c =
    rw c.in_ok-script.ensures.script (drawn_entries c.sizes_of-sizes.result c.args.rates c.args.draws.now)
