use Rattle.icn_world.proofs.Refilling.{taking_halts, switching_halts, all_restored}
use Rattle.icn_world.proofs.world.World.restore.Goals as goal

pub returns-in_err-taken : goal.returns-in_err-taken
returns-in_err-taken g c =
    taking_halts c.args.targets c.in_ok-closed.closed c.args.self.now c.pass_sweep.new.self c.pass_final.new.self
    c.args.disturbance.now c.pass_sweep.new.disturbance c.pass_final.new.disturbance _ _ _
    c.in_ok-closed.ensures c.from_residual-in_err-taken.result c.from_residual-in_err-taken.ensures.1
    c.in_err-taken.ensures

pub returns-in_err-sent : goal.returns-in_err-sent
returns-in_err-sent g c =
    switching_halts c.args.targets c.in_ok-closed.closed c.args.self.now c.pass_sweep.new.self c.pass_final.new.self
    c.args.disturbance.now c.pass_sweep.new.disturbance c.pass_final.new.disturbance _ _ _
    c.in_ok-closed.ensures c.in_ok-taken.taken c.in_ok-taken.ensures c.pass_switch.new.self
    c.pass_switch.new.disturbance _ c.from_residual-in_err-sent.result c.from_residual-in_err-sent.ensures.1
    c.in_err-sent.ensures

pub returns : goal.returns
returns g c =
    all_restored c.args.targets c.in_ok-closed.closed c.args.self.now c.pass_sweep.new.self c.pass_final.new.self
    c.args.disturbance.now c.pass_sweep.new.disturbance c.pass_final.new.disturbance _ _ _
    c.in_ok-closed.ensures c.in_ok-taken.taken c.in_ok-taken.ensures c.pass_switch.new.self
    c.pass_switch.new.disturbance _ c.in_ok-sent.sent c.in_ok-sent.ensures
