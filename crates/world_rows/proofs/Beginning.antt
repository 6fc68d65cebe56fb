-- The first world of a mission may pass a cycle over a bus that has carried nothing.
use Rattle.std.proofs.Common.{◌≡◌, ◌<◌, ℕ, zero, suc, [], sym, subst, arith}
use Rattle.std.specs.Prelude.{true}
use Rattle.guards_model.specs.Missions.{MissionValue, IsMission, within}
use Rattle.guards_model.specs.Network.{Log, BusValue}
use Rattle.guards_world.specs.Worlds.{WorldValue, StandsForWorld, first_world, last_entries}
use Rattle.guards_world.specs.WorldCycle.{MayCycle}
use Rattle.world_laws.proofs.LogStands.{first_stands}

positive : (n : ℕ) → within 1 2000 n ≡ true → 0 < n
positive zero h = absurd cc
positive (suc n) h = omega arith

pub begins : (M : MissionValue) (w : WorldValue) (bus : BusValue) → IsMission M → w ≡ first_world M → bus.log ≡ [] →
    MayCycle w bus
begins M w bus mission begun empty =
    subst (λ (v : WorldValue). MayCycle v bus) (sym begun) (record {
      below = positive M.cycles mission.cycles;
      stands = λ unspent. subst (λ (L : Log). StandsForWorld (first_world M) (last_entries 0 L)) (sym empty)
          (first_stands M mission);
    })
