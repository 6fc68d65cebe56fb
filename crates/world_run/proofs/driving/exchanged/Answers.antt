use Rattle.std.proofs.Common.{sym, ap}
use Rattle.icn_world.specs.Halts.{with_halt_value}
use Rattle.run_laws.specs.Driving.{with_part}
use Rattle.world_run.proofs.driving.exchanged.Goals as goal

pub returns-in-Ok : goal.returns-in-Ok
returns-in-Ok g c = (
  with_halt_value c.exchange.result,
  c.exchange.ensures,
  ap (λ r. with_part c.args.part (with_halt_value r)) (sym c.in-Ok.is),
)

pub returns-in-Err : goal.returns-in-Err
returns-in-Err g c = (
  with_halt_value c.exchange.result,
  c.exchange.ensures,
  ap (λ r. with_part c.args.part (with_halt_value r)) (sym c.in-Err.is),
)
