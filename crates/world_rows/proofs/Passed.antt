-- What is known of a world after a cycle.
use Rattle.std.proofs.Common.{◌≡◌, ◌<◌, ◌+◌, List, ◌∷◌, ◌++◌, [], None, Result, Ok, Err, sym, ap, subst, ◌∙◌, arith}
use Rattle.std.specs.Prelude.{OnOk, OnErr}
use Rattle.guards_model.specs.BusRules.{RuleValue}
use Rattle.guards_model.specs.Missions.{MissionValue, IsMission, bus_rules}
use Rattle.guards_model.specs.Network.{EntryValue, BusValue}
use Rattle.guards_model.specs.Texts.{RecordValue}
use Rattle.guards_world.specs.Worlds.{WorldValue, HaltValue, disturbed, no_memory, first_world}
use Rattle.guards_world.specs.WorldCycle.{PassesCycle, MayCycle}
use Rattle.icn_world.specs.declared.world.Halt.{Halt}
use Rattle.icn_world.specs.Halts.{halt_value, with_halt_value}
use Rattle.run_laws.proofs.RunPassed.{begins, may_cycle, passes_on}
use Rattle.world_rows.specs.Driving.{IsRunning}

-- a cycle finished, or halted
pub record Passed (may : List RuleValue → EntryValue → Type 0) (w : WorldValue) (result : Result RecordValue Halt)
    (new : WorldValue) (after : BusValue) : Type 0 where
  pub running : OnOk result (IsRunning may new after)
  pub one_more : OnOk result (new.done ≡ w.done + 1)
  pub same : OnOk result (new.mission ≡ w.mission)
  pub halted : OnErr result (MayCycle new after)

module _ {may : List RuleValue → EntryValue → Type 0} where
  pub runs_first : (M : MissionValue) (w : WorldValue) (bus : BusValue) → IsMission M → bus.script ≡ bus_rules M →
      w ≡ first_world M → IsRunning may w bus
  runs_first M w bus mission script same =
      subst (λ (x : WorldValue). IsRunning may x bus) (sym same)
      (record { mission = M; start = bus; entries = []; histories = []; at = begins may M bus mission script })

  pub may_pass : (w : WorldValue) (bus : BusValue) → IsRunning may w bus → w.done < w.mission.cycles → MayCycle w bus
  may_pass w bus runs below =
      may_cycle may runs.start bus w runs.entries runs.entries runs.histories runs.mission runs.at below

  again : (w : WorldValue) (bus : BusValue) (halt : HaltValue) (new : WorldValue) (after : BusValue) →
      w.done < w.mission.cycles →
      PassesCycle may None w bus (Err halt) new after → MayCycle new after
  again w bus (disturbed stop) new after below cycled =
      let stopped = cycled.3.2 in
      record {
        below = omega (arith, below, stopped.done, ap (λ (M : MissionValue). M.cycles) stopped.mission);
        stands = λ unspent. absurd (cc (unspent, stopped.spent));
      }
  again w bus no_memory new after below cycled =
      let stopped = cycled.3.2 in
      record {
        below = omega (arith, below, stopped.done, ap (λ (M : MissionValue). M.cycles) stopped.mission);
        stands = λ unspent. absurd (cc (unspent, stopped.spent));
      }

  pub passed : (w : WorldValue) (bus : BusValue) (result : Result RecordValue Halt) (new : WorldValue)
      (after : BusValue) → IsRunning may w bus →
      w.done < w.mission.cycles → PassesCycle may w.spent w bus (with_halt_value result) new after →
      Passed may w result new after
  passed w bus (Ok part) new after runs below cycled =
      let on = passes_on may runs.start bus w runs.entries runs.entries runs.histories runs.mission (Ok part) new after
      runs.at below cycled (λ fresh is. absurd (cc is)) in
      record {
        running = record {
          mission = runs.mission;
          start = runs.start;
          entries = runs.entries ++ on.0;
          histories = on.1 ∷ runs.histories;
          at = on.2;
        };
        one_more = omega (arith, on.3);
        same = on.2.mission ∙ sym runs.at.mission;
        halted = tt;
      }
  passed w bus (Err halt) new after runs below cycled =
      let fresh = subst (λ s. PassesCycle may s w bus (Err (halt_value halt)) new after) runs.at.unspent cycled in
      record { running = tt; one_more = tt; same = tt; halted = again w bus (halt_value halt) new after below fresh }
