use Rattle.std.proofs.Common.{map}
use Rattle.fault_script.specs.Entries.{fault_value}
use Rattle.demo_mission.proofs.Drawn.{fault_more, faults_end}
use Rattle.demo_mission.proofs.faults.demo_faults.Goals as goal

pub loop-k-preserved : goal.loop-k-preserved
loop-k-preserved c =
    rw c.in_ok-push_faults.ensures.number
    (fault_more 10 c.loop-k.k c.loop-k.draws.number (map fault_value c.loop-k.faults.items) _ _ c.loop-k-test.true
    c.in_ok-push_faults.ensures.faults c.loop-k.invariant)

pub returns : goal.returns
returns c = record {
  faults =
      faults_end 10 c.loop-k.k c.loop-k.draws.number (map fault_value c.loop-k.faults.items) _ c.loop-k-test.false
      c.loop-k.invariant;
}
