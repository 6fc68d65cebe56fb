use Rattle.icn_world.proofs.CyclePassed.{carries_up_to_stop}
use Rattle.icn_world.proofs.world.World.cycle.Goals as goal

pub returns-in-Err-clause-up_to_stop : goal.returns-in-Err-clause-up_to_stop
returns-in-Err-clause-up_to_stop g c =
    carries_up_to_stop c.args.self.now c.pass.new.self _ _ _ c.requires c.in-Err.ensures
