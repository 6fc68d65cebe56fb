-- A channel that comes back: what it needs of the cycles, and what it then has.
use Rattle.std.specs.Prelude.{◌≡◌, ◌≤◌, ◌<◌, ◌+◌, ◌==◌, ℕ, suc, false, Some, IsTrue}
use Rattle.guards_model.specs.declared.Slot.TheVariants.{Request}
use Rattle.guards_model.specs.Channels.{Channel, has}
use Rattle.guards_model.specs.Missions.{MissionValue}
use Rattle.guards_model.specs.Network.{Log, have_of}
use Rattle.guards_runs.specs.Cycles.{Past, Cycle, this_cycle, received_body, held_start, joins_from, is_whole, cycles_before, cycle_at}
use Rattle.guards_runs.specs.Due.{targets_of}
use Rattle.guards_runs.specs.Promises.{is_transfer_to}

-- every other active channel receives the request that the channel owes: it names the start that its replica comes from
abbrev pub IsHeardByAll : MissionValue → Past → Cycle → Channel → Type 0
IsHeardByAll M past e q =
    (j : Channel) → IsTrue (has e.active j) → (j == q) ≡ false →
    have_of (received_body M e.entries (this_cycle past) Request q j) ≡ Some (held_start q past)

-- nobody else is removed, and the transfer, if there is one, is to nobody else
abbrev pub IsAlone : Cycle → Channel → Type 0
IsAlone e q = (r : Channel) → (r == q) ≡ false → (has e.removed r ≡ false) × (has (targets_of e.transfer) r ≡ false)

-- From one cycle to another a channel is joining in every slot, its requests arrive in all of them but the last, and it
-- is alone in its return.
pub record ComesBack (M : MissionValue) (L : Log) (q : Channel) (from to : ℕ) : Type 0 where
  pub joins : (d : ℕ) → from ≤ d → d ≤ to → IsTrue (joins_from Request (cycle_at M L d) q)
  pub heard : (d : ℕ) → from ≤ d → d < to → IsHeardByAll M (cycles_before M L d) (cycle_at M L d) q
  pub alone : (d : ℕ) → from ≤ d → d ≤ to → IsAlone (cycle_at M L d) q

-- A channel that was restarted in cycle c is removed in the next one, its transfer starts in the one after that, and it
-- is declared joined in the k-th cycle of the transfer, and whole.
pub record IsReturned (M : MissionValue) (L : Log) (q : Channel) (c k : ℕ) : Type 0 where
  pub removed : IsTrue (has (cycle_at M L (suc c)).removed q)
  pub starts : IsTrue (is_transfer_to q (suc (suc c)) (cycle_at M L (suc (suc c))).transfer)
  pub joined : IsTrue (has (cycle_at M L (suc (c + k))).joined q)
  pub whole : IsTrue (is_whole q (cycles_before M L (suc (suc (c + k)))))
