use Rattle.std.proofs.Common.{◌≡◌}
use Rattle.std.specs.Io.KnownBytes.{Appends}
use Rattle.guards_runs.specs.IdealMachine.{ideal}
use Rattle.guards_runs.specs.IdealReport.{parts_below}
use Rattle.ideal_run.proofs.writing.put_cycles.Given as goal

-- the parts of the cycles before this one were written
abbrev pub invariant-loop-cycle : goal.invariant-loop-cycle
invariant-loop-cycle g l = record {
  written : Appends (g.K.Sink.seen l.initial.out).written (g.K.Sink.seen l.out).written (parts_below l.mission l.cycle);
  kept : (g.K.Sink.seen l.out).faults ≡ (g.K.Sink.seen l.initial.out).faults;
  context : l.context ≡ ideal l.mission l.cycle;
}
