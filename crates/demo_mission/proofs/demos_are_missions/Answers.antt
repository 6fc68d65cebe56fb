use Rattle.demo_mission.proofs.IsDemo.{demo_is_mission}
use Rattle.demo_mission.proofs.demos_are_missions.Goals as goal

pub returns : goal.returns
returns c = demo_is_mission
