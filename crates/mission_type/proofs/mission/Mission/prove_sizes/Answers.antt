use Rattle.std.proofs.Common.{subst}
use Rattle.mission_type.specs.Parts.{IsSized}
use Rattle.mission_type.proofs.MissionSizes.{sized}
use Rattle.mission_type.proofs.mission.Mission.prove_sizes.Goals as goal

pub returns : goal.returns
returns c = subst IsSized c.self.view_is (sized _ c.self.invariant.mission)
