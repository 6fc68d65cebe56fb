use Rattle.world_rows.proofs.Passed.{may_pass, passed}
use Rattle.world_rows.proofs.drive.pass.Goals as goal

pub cycle-requires-after_bounds : goal.cycle-requires-after_bounds
cycle-requires-after_bounds g c κs within = may_pass c.args.world.now _ c.requires.running c.requires.below

pub returns : goal.returns
returns g c =
    let done = passed c.args.world.now _ c.cycle.result c.cycle.new.self _ c.requires.running c.requires.below
    c.cycle.ensures.passes in
    record { running = done.running; one_more = done.one_more; same = done.same; halted = done.halted }
