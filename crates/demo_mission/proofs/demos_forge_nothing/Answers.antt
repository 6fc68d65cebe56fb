use Rattle.demo_mission.proofs.IsDemo.{demo_rules_lose}
use Rattle.demo_mission.proofs.demos_forge_nothing.Goals as goal

pub returns : goal.returns
returns c = demo_rules_lose
