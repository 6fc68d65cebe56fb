use Rattle.std.proofs.Common.{◌≡◌, Option}
use Rattle.guards_model.specs.Missions.{MissionValue, ActuatorValue}
use Rattle.guards_model.specs.Network.{BusValue}
use Rattle.guards_io.specs.Views.{SinkView}
use Rattle.world_run.specs.Running.{IsAt}
use Rattle.world_run.proofs.running.run_cycles.Given as goal

-- so many cycles ran as were passed, whichever run it is
abbrev pub invariant-loop-cycle : goal.invariant-loop-cycle
invariant-loop-cycle g l =
    let at : Option ActuatorValue → MissionValue → BusValue → SinkView → Type 0 = λ o M start begun.
    IsAt g.B.Bus.may l.trace M o start begun l.world (g.B.Bus.seen l.bus) l.actuator
    (g.K.Sink.seen l.out) in
    let before : Option ActuatorValue → MissionValue → BusValue → SinkView → Type 0 = λ o M start begun.
    IsAt g.B.Bus.may l.trace M o start begun l.fn.world (g.B.Bus.seen l.fn.bus) l.fn.actuator
    (g.K.Sink.seen l.fn.out) in
    record {
      done : l.world.done ≡ l.cycle;
      kept : l.world.mission ≡ l.fn.world.mission;
      some : (o : Option ActuatorValue) × (M : MissionValue) × (start : BusValue) × (begun : SinkView)
          × at o M start begun;
      each : (o : Option ActuatorValue) (M : MissionValue) (start : BusValue) (begun : SinkView) →
          before o M start begun → at o M start begun;
    }
