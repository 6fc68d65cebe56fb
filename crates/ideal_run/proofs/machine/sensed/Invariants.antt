use Rattle.std.proofs.Common.{◌≡◌, length, map, take}
use Rattle.guards_model.specs.Channels.{numbers_below}
use Rattle.guards_runs.specs.IdealMachine.{sensed_at}
use Rattle.ideal_run.proofs.machine.sensed.Given as goal

-- the channels before this number have their words
abbrev pub invariant-loop-number : goal.invariant-loop-number
invariant-loop-number l = record {
  filled : take l.number l.words ≡ map (sensed_at l.mission l.cycle) (numbers_below l.number);
  seven : length l.words ≡ 7;
}
