use Rattle.std.proofs.Common.{◌≡◌, Ok, Err, Some, length, rules, sym, subst}
use Rattle.guards_model.specs.Missions.{MissionValue}
use Rattle.guards_model.specs.Settled.{SettledValue}
use Rattle.guards_world.specs.WorldCycle.{PassesCycle}
use Rattle.world_laws.specs.Fronts.{CarriesUpToStop}
use Rattle.icn_world.specs.Halts.{halt_value, with_halt_value}
use Rattle.output_gate.specs.Exchanging.{MayExchange}
use Rattle.output_gate.specs.Gates.{GateValue}
use Rattle.run_laws.specs.Driving.{Drives, Exchanged}
use Rattle.run_laws.proofs.Driving.{driven_finished_mission, driven_may, driven_may_cycle, drives_finished, drives_halted}
use Rattle.world_run.proofs.driving.pass.Goals as goal

pub cycle-requires : goal.cycle-requires
cycle-requires g c =
    let (o, M, start, L, histories, at) = c.requires.driven in
    let bus = g.B.Bus.seen c.args.bus.now in
    let may = driven_may_cycle g.B.Bus.may M start c.args.world.now bus c.args.actuator.now L histories o at
    c.requires.below in
    search (rules, may)

pub exchanged-requires : goal.exchanged-requires
exchanged-requires g c =
    let (o, M, start, L, histories, at) = c.requires.driven in
    let w = c.args.world.now in
    let new = c.cycle.new.self in
    let bus = g.B.Bus.seen c.args.bus.now in
    let mid = g.B.Bus.seen c.cycle.new.bus in
    let cycled : PassesCycle g.B.Bus.may w.spent w bus (Ok c.in-Ok.part) new mid =
    subst (λ r. PassesCycle g.B.Bus.may w.spent w bus (with_halt_value r) new mid) c.in-Ok.is
    c.cycle.ensures.passes in
    let mission : new.mission ≡ M =
    driven_finished_mission g.B.Bus.may M start w bus c.args.actuator.now L histories new mid c.requires.below
    c.in-Ok.part cycled o at in
    let may : (gate : GateValue) → c.args.actuator.now ≡ Some gate →
    (s : SettledValue) × (new.settled ≡ Some s)
    × MayExchange new.mission.rules.version (length gate.words) c.in-Ok.part s =
    λ gate is.
    let (s, settled, ready) =
    driven_may g.B.Bus.may M start w bus c.args.actuator.now L histories new mid c.requires.below c.in-Ok.part
    cycled o at gate is in (
      s,
      settled,
      subst (λ (m : MissionValue). MayExchange m.rules.version (length gate.words) c.in-Ok.part s)
          (sym mission) ready,
    ) in
    search (rules, may)

pub returns-in-Ok : goal.returns-in-Ok
returns-in-Ok g c =
    λ o M start L histories at.
    let w = c.args.world.now in
    let new = c.cycle.new.self in
    let bus = g.B.Bus.seen c.args.bus.now in
    let mid = g.B.Bus.seen c.cycle.new.bus in
    let after = g.B.Bus.seen c.exchanged.new.bus in
    let cycled : PassesCycle g.B.Bus.may w.spent w bus (Ok c.in-Ok.part) new mid =
    subst (λ r. PassesCycle g.B.Bus.may w.spent w bus (with_halt_value r) new mid) c.in-Ok.is
    c.cycle.ensures.passes in
    let mission : new.mission ≡ M =
    driven_finished_mission g.B.Bus.may M start w bus c.args.actuator.now L histories new mid c.requires.below
    c.in-Ok.part cycled o at in
    let (ended, exchanged, answer) = c.exchanged.ensures in
    let by : Exchanged g.B.Bus.may M.rules.version c.in-Ok.part new.settled mid after c.args.actuator.now
    c.exchanged.new.actuator ended =
    subst (λ (m : MissionValue).
    Exchanged g.B.Bus.may m.rules.version c.in-Ok.part new.settled mid after c.args.actuator.now
    c.exchanged.new.actuator ended) mission exchanged in
    subst (λ r. Drives o g.B.Bus.may M start w L histories r new after c.exchanged.new.actuator) (sym answer)
    (drives_finished g.B.Bus.may M start w bus c.args.actuator.now L histories new mid c.requires.below c.in-Ok.part
    cycled o at after c.exchanged.new.actuator ended by)

pub returns-in-Err : goal.returns-in-Err
returns-in-Err g c =
    λ o M start L histories at.
    let w = c.args.world.now in
    let new = c.cycle.new.self in
    let bus = g.B.Bus.seen c.args.bus.now in
    let after = g.B.Bus.seen c.cycle.new.bus in
    let cycled : PassesCycle g.B.Bus.may w.spent w bus (Err (halt_value c.in-Err.halt)) new after =
    subst (λ r. PassesCycle g.B.Bus.may w.spent w bus (with_halt_value r) new after) c.in-Err.is
    c.cycle.ensures.passes in
    let no_further : CarriesUpToStop w bus (Err (halt_value c.in-Err.halt)) after =
    subst (λ r. CarriesUpToStop w bus (with_halt_value r) after) c.in-Err.is c.cycle.ensures.up_to_stop in
    drives_halted g.B.Bus.may M start w bus c.args.actuator.now L histories new after c.requires.below o at
    (halt_value c.in-Err.halt) cycled no_further
