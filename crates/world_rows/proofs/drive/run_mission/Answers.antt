use Rattle.std.proofs.Common.{ap, ◌∙◌}
use Rattle.guards_model.specs.Missions.{bus_rules}
use Rattle.world_rows.proofs.Passed.{runs_first}
use Rattle.world_rows.proofs.drive.run_mission.Goals as goal

pub told-requires-clause-running : goal.told-requires-clause-running
told-requires-clause-running g c κs within =
    let script = c.in_ok-load.ensures.loaded ∙ c.rules.ensures
    ∙ ap (λ s. bus_rules (record c.in-Ok.mission { script = s })) c.script.ensures in
    runs_first c.in-Ok.mission c.in_ok-world.world _ c.prove_mission.ensures script c.in_ok-world.ensures
