use Rattle.std.proofs.Common.{subst}
use Rattle.guards_model.specs.Missions.{IsMission}
use Rattle.mission_type.proofs.mission.Mission.prove_mission.Goals as goal

pub returns : goal.returns
returns c = subst IsMission c.self.view_is c.self.invariant.mission
