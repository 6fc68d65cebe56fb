-- What the auditor holds between two lines, at a place of the trace.
use Rattle.std.specs.Prelude.{IsTrue, ◌==◌, if◌then◌else◌, slice_get, option_map, ◌≡◌, ℕ, ◌<◌, ◌≤◌, ◌+◌, Bool, List, [], ◌∷◌, length, map, take, IsSome, Option, Some, None, slice_index, true, false}
use Rattle.std.specs.List.{list_any}
use Rattle.guards_model.specs.Channels.{ChannelSet, has, place_or}
use Rattle.guards_model.specs.Contexts.{ContextValue}
use Rattle.guards_model.specs.Missions.{ActuatorValue, MissionValue, cycle_writes, output_words, written_blocks}
use Rattle.guards_model.specs.Records.{transfer_of_pair, shown_line}
use Rattle.guards_model.specs.Tasks.{whole}
use Rattle.guards_model.specs.Texts.{LineValue, RecordValue}
use Rattle.guards_model.specs.Transfers.{TransferValue, TransferCycle}
use Rattle.guards_audit.specs.Lines.{ReportLine, is_empty}
use Rattle.guards_audit.specs.Told.{Told, next_cycle_number, first_line, active_told, context_told, swept_told, plan_told, words_told}
use Rattle.guards_audit.specs.Consistency as place
use Rattle.told_cycles.specs.Sweeping.{SweepsFor}
use Rattle.told_cycles.specs.declared.sweeps.Sweeps.{Sweeps}
use Rattle.told_cycles.specs.declared.auditor.Auditor.{Auditor}
use Rattle.told_cycles.specs.declared.auditor.Place.{Place}
use Rattle.told_cycles.specs.declared.auditor.Place.TheVariants as at

-- as many words, votes and counts of a line as the mission has
abbrev pub shown_in : MissionValue → LineValue → LineValue
shown_in M l = shown_line M.rules.channels M.width (length M.outputs) l

-- a line has the mission's sizes
pub record HasSizes (M : MissionValue) (l : LineValue) : Type 0 where
  pub inputs : length l.inputs ≡ M.width
  pub votes : length l.votes ≡ length M.outputs
  pub counts : length l.counts ≡ M.rules.channels

-- who joined in the cycle before, its transfer and its counts
abbrev pub joined_told : Told → ChannelSet
joined_told [] = []
joined_told (r ∷ told) = r.joined

abbrev pub transfer_told : Told → Option TransferValue
transfer_told [] = None
transfer_told (r ∷ told) = r.transfer

abbrev pub counts_last : Told → List ℕ
counts_last [] = []
counts_last (r ∷ told) = (first_line r).counts

-- a transfer that runs has started
abbrev pub HasStarted : Told → Option TransferValue → Type 0
HasStarted told transfer = (t : TransferValue) → transfer ≡ Some t → t.start ≤ next_cycle_number told

-- What the auditor knows of the told cycles.
pub record Knows (M : MissionValue) (told : Told) (ctx : ContextValue) (a : Auditor) : Type 0 where
  pub done : a.done ≡ next_cycle_number told
  pub active : a.active ≡ active_told M told
  pub joined : a.joined ≡ joined_told told
  pub transfer : transfer_of_pair a.transfer ≡ transfer_told told
  pub started : HasStarted told (transfer_told told)
  pub context : a.context ≡ ctx
  pub counts : (q : ℕ) → q < 7 → slice_index a.counts q ≡ place_or (counts_last told) q 0
  pub words : (actuator : ActuatorValue) → M.actuator ≡ Some actuator →
      take (length M.outputs) a.words ≡ words_told actuator told

-- the context while a cycle is told: its writes are done with its first line
abbrev pub context_amid : MissionValue → Told → RecordValue → ContextValue
context_amid M told r =
    if is_empty r.lines then context_told M told
    else whole (cycle_writes M (next_cycle_number told)) (context_told M told) (next_cycle_number told)
    (first_line r).inputs

-- What the auditor knows of the running cycle r, the one after those that were told.
pub record KnowsPart (M : MissionValue) (told : Told) (r : RecordValue) (a : Auditor) : Type 0 where
  pub early : next_cycle_number told < M.cycles
  pub active : r.active ≡ active_told M told
  pub transfer : transfer_of_pair a.part.transfer ≡ r.transfer
  pub started : HasStarted told r.transfer
  pub plan : a.part.plan.items ≡ plan_told M told r.transfer
  pub first : option_map (shown_in M) a.part.first ≡ slice_get r.lines 0
  pub sized : (l : LineValue) → slice_get r.lines 0 ≡ Some l → HasSizes M l
  pub voted : is_empty r.lines ≡ false →
      (first_line r).votes ≡ map (λ w. Some w) (output_words M (context_amid M told r))
  pub lined : (q : ℕ) → has a.part.lined q ≡ list_any (λ l. l.channel == q) r.lines
  pub lined_low : (q : ℕ) → has a.part.lined q ≡ true → q < 7
  pub traced : (q : ℕ) → has a.part.traced q ≡ list_any (λ t. t.channel == q) r.traces
  pub traced_low : (q : ℕ) → has a.part.traced q ≡ true → q < 7

-- the transfer whose cycles the sweeps are kept for: that of the running cycle, or of the one before
abbrev pub kept_transfer : Told → Option TransferValue → Option TransferValue
kept_transfer told None = transfer_told told
kept_transfer told (Some t) = Some t

-- The sweeps stand for some cycles: where a transfer is kept, for those of this transfer.
pub record SweepsAt (M : MissionValue) (told : Told) (transfer : Option TransferValue) (s : Sweeps) : Type 0 where
  pub cycles : List TransferCycle
  pub stand : SweepsFor M.rules.blocks (next_cycle_number told) cycles s
  pub same : (t : TransferValue) → kept_transfer told transfer ≡ Some t → cycles ≡ swept_told M t.start told

abbrev pub is_head : Place → Bool
is_head at.Head = true
is_head _ = false

abbrev pub is_between_cycles : Place → Bool
is_between_cycles at.Between = true
is_between_cycles _ = false

abbrev pub is_awaiting : Place → Bool
is_awaiting at.Awaits = true
is_awaiting _ = false

abbrev pub is_amid : Place → Bool
is_amid at.Amid = true
is_amid _ = false

abbrev pub is_ended : Place → Bool
is_ended at.Over = true
is_ended _ = false

-- The auditor stands before the first line, between two cycles, or in a cycle.
pub record IsBetweenCycles (M : MissionValue) (told : Told) (a : Auditor) : Type 0 where
  pub knows : Knows M told (context_told M told) a
  pub sweeps : SweepsAt M told None a.sweeps

pub record IsAmid (M : MissionValue) (told : Told) (r : RecordValue) (a : Auditor) : Type 0 where
  pub knows : Knows M told (context_amid M told r) a
  pub part : KnowsPart M told r a
  pub sweeps : SweepsAt M told r.transfer a.sweeps

-- At its end the sweeps stand for some cycles: where a transfer ran, for those of it, with this one.
pub record SweepsClosed (M : MissionValue) (told : Told) (r : RecordValue) (s : Sweeps) : Type 0 where
  pub cycles : List TransferCycle
  pub stand : SweepsFor M.rules.blocks (next_cycle_number told + 1) cycles s
  pub same : (t : TransferValue) → r.transfer ≡ Some t →
      cycles ≡ record { planned = plan_told M told r.transfer; written = written_blocks M (next_cycle_number told) }
      ∷ swept_told M t.start told

pub record EndsAmid (M : MissionValue) (told : Told) (r : RecordValue) (a : Auditor) : Type 0 where
  pub knows : Knows M told (context_amid M told r) a
  pub part : KnowsPart M told r a
  pub sweeps : SweepsClosed M told r a.sweeps

-- The auditor stands at a place of the trace.
abbrev pub StandsAt : MissionValue → place.Place → Auditor → Type 0
StandsAt M place.at_head a = (a.place ≡ at.Head) × IsBetweenCycles M [] a
StandsAt M (place.between told) a = (a.place ≡ at.Between) × IsBetweenCycles M told a
StandsAt M (place.amid told r) a = (a.place ≡ at.Amid) × IsAmid M told r a
StandsAt M (place.awaits_out told) a = (a.place ≡ at.Awaits) × IsBetweenCycles M told a × IsSome M.actuator
StandsAt M place.at_end a = a.place ≡ at.Over

abbrev pub StandsSomewhere : MissionValue → Auditor → Type 0
StandsSomewhere M a = (at : place.Place) × StandsAt M at a

-- What taking a line does, by the answer: it suits the place, and the auditor stands at the next one; or it does not.
abbrev pub Takes : MissionValue → place.Place → ReportLine → Auditor → Bool → Type 0
Takes M at line new true = IsTrue (place.suits_place M at line) × StandsAt M (place.following_place M at line) new
Takes M at line new false = place.suits_place M at line ≡ false
