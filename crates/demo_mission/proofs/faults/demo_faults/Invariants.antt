use Rattle.std.proofs.Common.{◌≡◌, ◌-◌, ◌++◌, map}
use Rattle.fault_script.specs.Entries.{fault_value}
use Rattle.demo_mission.specs.Demo.{demo_script}
use Rattle.demo_mission.proofs.faults.demo_faults.Given as goal

abbrev pub invariant-loop-k : goal.invariant-loop-k
invariant-loop-k l =
    map fault_value l.faults.items ++ demo_script (10 - l.k) l.k l.draws.number
    ≡ demo_script 10 0 l.initial.draws.number
