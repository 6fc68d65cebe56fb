use Rattle.demo_mission.proofs.DemoParts.{script_in_cycle}
use Rattle.demo_mission.proofs.demo.demo_script.Goals as goal

pub new-requires-clause-slots : goal.new-requires-clause-slots
new-requires-clause-slots c = rw c.in_ok-faults.ensures.faults (script_in_cycle 10 0 c.args.draws.now.number)
