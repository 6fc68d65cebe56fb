use Rattle.world_rows.proofs.Beginning.{begins}
use Rattle.world_rows.proofs.at_once.first_cycle.Goals as goal

pub cycle-requires-after_bounds : goal.cycle-requires-after_bounds
cycle-requires-after_bounds g c κs within =
    begins c.args.mission c.in_ok-world.world (record { log = c.new-bus.result.log; script = c.new-bus.result.script })
    c.prove_mission.ensures c.in_ok-world.ensures c.new-bus.ensures.log
