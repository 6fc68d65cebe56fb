-- What is computed of a worked run, and the words in which its literals are written.
use Rattle.std.specs.Prelude.{◌≡◌, ℕ, suc, ◌+◌, ◌*◌, ◌-◌, true, false, nat_lt, List, [], ◌∷◌, map, Option, Some, None, if◌then◌else◌}
use Rattle.guards_model.specs.declared.Slot.{Slot}
use Rattle.guards_model.specs.Channels.{Channel, has}
use Rattle.guards_model.specs.Contexts.{ContextValue}
use Rattle.guards_model.specs.Missions.{MissionValue, IsMission, bus_rules}
use Rattle.guards_model.specs.Modes.{ModeValue}
use Rattle.guards_model.specs.Frames.{FinalValue}
use Rattle.guards_model.specs.Network.{EntryValue, Log}
use Rattle.guards_model.specs.Replicas.{ReplicaValue}
use Rattle.guards_model.specs.Rounds.{Histories}
use Rattle.guards_model.specs.ScriptedBus.{delivered_by}
use Rattle.guards_model.specs.Texts.{TextValue}
use Rattle.guards_runs.specs.Cycles.{Cycle, Past, cycles_before, cycle_at, active_set, is_whole, mode_after}
use Rattle.guards_runs.specs.Due.{AreDueThrough, all_sent, control_after}
use Rattle.guards_runs.specs.Promises.{IsRun}
use Rattle.guards_runs.specs.Report.{report}
use Rattle.guards_runs.specs.Restoration.{replica_after, content_taken, context_taken, control_taken, switches_after}

-- ---- literals

-- the value of a hexadecimal digit, 0 to 9 or a to f, by its letter
abbrev pub digit_value : ℕ → ℕ
digit_value letter = if nat_lt letter 58 then letter - 48 else letter - 87

-- the bytes of a text that has two hexadecimal digits for each
abbrev pub hex : List ℕ → List ℕ
hex [] = []
hex (high ∷ []) = []
hex (high ∷ low ∷ digits) = (16 * digit_value high + digit_value low) ∷ hex digits

-- the entries of one piece to some receivers, of which this arrived
abbrev pub arriving : ℕ → Slot → Channel → List ℕ → List ℕ → Option (List ℕ) → Log
arriving c slot from receivers sent arrived =
    map (λ to. record { cycle = c; slot = slot; from = from; to = to; sent = sent; delivered = arrived }) receivers

-- where it arrived as sent, where it was lost, and where another piece arrived
abbrev pub carried : ℕ → Slot → Channel → List ℕ → List ℕ → Log
carried c slot from receivers sent = arriving c slot from receivers sent (Some sent)

abbrev pub lost : ℕ → Slot → Channel → List ℕ → List ℕ → Log
lost c slot from receivers sent = arriving c slot from receivers sent None

abbrev pub forged : ℕ → Slot → Channel → List ℕ → List ℕ → List ℕ → Log
forged c slot from receivers sent piece = arriving c slot from receivers sent (Some piece)

-- ---- facts

-- a run as literals: its mission, every piece on its bus, the steps of each channel in each cycle, the latest cycle's
-- first, and its report
pub record WorkedRun : Type 0 where
  pub mission : MissionValue
  pub log : Log
  pub histories : Histories
  pub text : TextValue

-- a join as literals: the channel and the cycle, what its replica is by then, the content that it takes, and the
-- context that it then has
pub record WorkedJoin : Type 0 where
  pub channel : Channel
  pub cycle : ℕ
  pub replica : ReplicaValue
  pub content : FinalValue
  pub context : ContextValue

-- the first cycles of a run, the latest first, and the facts of one cycle
abbrev pub past_of : WorkedRun → ℕ → Past
past_of run n = cycles_before run.mission run.log n

abbrev pub cycle_of : WorkedRun → ℕ → Cycle
cycle_of run n = cycle_at run.mission run.log n

-- all cycles of a run
abbrev pub all_of : WorkedRun → Past
all_of run = past_of run run.mission.cycles

-- what a mission's script lets through of a piece
abbrev pub scripted : MissionValue → EntryValue → Option (List ℕ)
scripted M e = delivered_by (bus_rules M) e.cycle e.slot e.from e.to e.sent

-- The definitions compute this whole run.
pub record IsWorked (run : WorkedRun) : Type 0 where
  pub is_mission : IsMission run.mission
  -- it is a run in the sense of the main theorem
  pub is_run : IsRun run.mission run.log run.mission.cycles
  -- its report is this text
  pub reported : report run.mission run.log ≡ run.text
  -- the pieces on the bus are, byte for byte and in order, those that the channels send by their histories
  pub sent : all_sent run.mission run.histories (all_of run) ≡ map (λ e. e.sent) run.log
  -- what arrived of them is what the mission's script lets through
  pub delivered : map (scripted run.mission) run.log ≡ map (λ e. e.delivered) run.log
  -- the switches that are on at the end are those of the active channels
  pub switches : switches_after run.mission (all_of run) ≡ active_set run.mission (all_of run)

-- The definitions compute this run, which stops in a slot of cycle n: its pieces are due up to the end of that slot.
pub record IsWorkedStop (run : WorkedRun) (n : ℕ) (slot : Slot) : Type 0 where
  pub is_mission : IsMission run.mission
  pub due : AreDueThrough run.mission (past_of run n) (cycle_of run n) slot run.log
  pub reported : report run.mission run.log ≡ run.text
  pub delivered : map (scripted run.mission) run.log ≡ map (λ e. e.delivered) run.log

-- A channel is restored as this join says: it takes the content that most final frames have, and then has the ideal
-- context and the control of the next cycle.
pub record Joins (run : WorkedRun) (join : WorkedJoin) : Type 0 where
  pub whole : is_whole join.channel (past_of run (suc join.cycle)) ≡ true
  pub filled : replica_after run.mission join.channel (past_of run (suc join.cycle)) ≡ join.replica
  pub taken : content_taken run.mission join.channel (past_of run join.cycle) (cycle_of run join.cycle)
      ≡ Some join.content
  pub joined : context_taken run.mission join.channel (past_of run join.cycle) (cycle_of run join.cycle)
      ≡ Some join.context
  pub ideal : (cycle_of run join.cycle).ideal_context ≡ join.context
  pub control :
      control_taken run.mission join.channel (past_of run join.cycle) (cycle_of run join.cycle)
      ≡ Some (control_after run.mission (past_of run (suc join.cycle)))

-- A channel is declared joined in cycle n, and is not whole: it takes nothing, and has this mode afterwards.
pub record IsNotWhole (run : WorkedRun) (q : Channel) (n : ℕ) (mode : ModeValue) : Type 0 where
  pub declared : has (cycle_of run n).joined q ≡ true
  pub whole : is_whole q (past_of run (suc n)) ≡ false
  pub nothing : content_taken run.mission q (past_of run n) (cycle_of run n) ≡ None
  pub after : mode_after run.mission (past_of run (suc n)) q ≡ mode
