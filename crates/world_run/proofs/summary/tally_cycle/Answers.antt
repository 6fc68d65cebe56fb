use Rattle.std.proofs.Common.{subst}
use Rattle.guards_world.specs.WorldCycle.{PassesCycle}
use Rattle.world_laws.specs.Fronts.{CarriesUpToStop}
use Rattle.icn_world.specs.Halts.{with_halt_value}
use Rattle.world_run.proofs.Tallies.{tally_done, tally_halted}
use Rattle.world_run.proofs.summary.tally_cycle.Goals as goal

pub returns-in-Ok-clause-goes_on : goal.returns-in-Ok-clause-goes_on
returns-in-Ok-clause-goes_on g c =
    λ number M start at.
    let w = c.args.world.now in
    let new = c.cycle.new.self in
    let bus = g.B.Bus.seen c.args.bus.now in
    let after = g.B.Bus.seen c.cycle.new.bus in
    let out = g.K.Sink.seen c.args.out.now in
    let cycled = subst (λ r. PassesCycle g.B.Bus.may w.spent w bus (with_halt_value r) new after) c.in-Ok.is
    c.cycle.ensures.passes in
    tally_done g.B.Bus.may M start number w new bus after out out c.args.tally.now c.note.new.self at
    c.requires.may.below c.in-Ok.part cycled c.note.ensures.joins c.note.ensures.removals c.note.ensures.last

pub returns-in-Err-clause-goes_on : goal.returns-in-Err-clause-goes_on
returns-in-Err-clause-goes_on g c =
    λ number M start at.
    let w = c.args.world.now in
    let new = c.cycle.new.self in
    let bus = g.B.Bus.seen c.args.bus.now in
    let after = g.B.Bus.seen c.cycle.new.bus in
    let out = g.K.Sink.seen c.args.out.now in
    let out' = g.K.Sink.seen c.put_halt.new.out in
    let cycled = subst (λ r. PassesCycle g.B.Bus.may w.spent w bus (with_halt_value r) new after) c.in-Err.is
    c.cycle.ensures.passes in
    let no_further = subst (λ r. CarriesUpToStop w bus (with_halt_value r) after) c.in-Err.is
    c.cycle.ensures.up_to_stop in
    tally_halted g.B.Bus.may M start number w new bus after out out' c.args.tally.now c.args.tally.now at
    c.requires.may.below c.in-Err.halt c.put_halt.result cycled no_further c.put_halt.ensures
