use Rattle.icn_world.proofs.AfterCycle.{ends_by, may_end_by}
use Rattle.icn_world.proofs.world.World.end.Goals as goal

pub end-requires : goal.end-requires
end-requires c = may_end_by c.args.self.now _ c.args.restored.now c.self.view_is c.args.disturbance.now c.requires

pub returns : goal.returns
returns c = λ earlier current steps restored.
    ends_by c.args.self.now _ c.args.restored.now earlier current steps c.args.disturbance.now c.close-on.result
    c.close-on.new.self c.end.new.self c.end_cycle.new.self c.set.result c.on.result c.self.view_is restored
    c.close-on.ensures.new c.close-on.ensures.answer c.end.ensures.state c.end_cycle.ensures.ledger c.set.ensures
    c.on.ensures
