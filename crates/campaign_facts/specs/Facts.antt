-- What a campaign tells of a run, by its script and its cycles. This project's own.
use Rattle.std.specs.Prelude.{ℕ, suc, ◌+◌, ◌-◌, max, Bool, true, false, not, ◌&&◌, ◌==◌, nat_lt, nat_le, List, [], ◌∷◌, length, map, count_by, Option, Some, None, if◌then◌else◌}
use Rattle.std.specs.List.{list_any}
use Rattle.guards_model.specs.declared.Slot.TheVariants.{Switch}
use Rattle.guards_model.specs.Channels.{Channel, ChannelSet, channels_where, has}
use Rattle.guards_model.specs.Faults.{FaultValue, crash, restart, damage, bus}
use Rattle.guards_model.specs.BusRules.{ActValue, lose, forge}
use Rattle.guards_model.specs.Texts.{RecordValue}
use Rattle.guards_model.specs.Transfers.{TransferValue, start_of}
use Rattle.guards_runs.specs.Cycles.{Cycle, Past}
use Rattle.guards_runs.specs.Report.{channels_running_in}
use Rattle.guards_runs.specs.Promises.{is_transfer_to}
use Rattle.campaign_facts.specs.declared.kinds.Kind.{Kind}
use Rattle.campaign_facts.specs.declared.kinds.Kind.TheVariants.{Crash, Restart, Damage, Loss, Forgery}

-- ---- the entries of a script

abbrev pub is_act : Kind → ActValue → Bool
is_act Loss lose = true
is_act Forgery (forge piece) = true
is_act _ _ = false

-- whether an entry is of a kind
abbrev pub is_kind : Kind → FaultValue → Bool
is_kind Crash (crash q c slot) = true
is_kind Restart (restart q c) = true
is_kind Damage (damage q c block word value) = true
is_kind kind (bus rule) = is_act kind rule.act
is_kind _ _ = false

-- the cycle of an entry, and the channel that it names as its own or as the sender
abbrev pub fault_cycle : FaultValue → ℕ
fault_cycle (crash q c slot) = c
fault_cycle (restart q c) = c
fault_cycle (damage q c block word value) = c
fault_cycle (bus rule) = rule.cycle

abbrev pub named_channel : FaultValue → Channel
named_channel (crash q c slot) = q
named_channel (restart q c) = q
named_channel (damage q c block word value) = q
named_channel (bus rule) = rule.from

-- whether an entry names a channel in one of these cycles
abbrev pub names : Channel → ℕ → ℕ → FaultValue → Bool
names q first last entry =
    named_channel entry == q && (nat_le first (fault_cycle entry) && nat_le (fault_cycle entry) last)

-- whether some entry does, and whether one of this kind does
abbrev pub is_named : List FaultValue → Channel → ℕ → ℕ → Bool
is_named script q first last = list_any (names q first last) script

abbrev pub is_named_by : Kind → List FaultValue → Channel → ℕ → ℕ → Bool
is_named_by kind script q first last = list_any (λ entry. is_kind kind entry && names q first last entry) script

-- how many entries of a kind the first cycles have
abbrev pub kind_count : Kind → List FaultValue → ℕ → ℕ
kind_count kind script cycles = count_by (λ entry. is_kind kind entry && nat_lt (fault_cycle entry) cycles) script

-- ---- the cycles of a run

-- what is counted of a cycle: who was removed, who was declared joined, its transfer, and who had a line at its end
pub record FactsValue : Type 0 where
  pub removed : ChannelSet
  pub joined : ChannelSet
  pub transfer : Option TransferValue
  pub running : ChannelSet

abbrev pub facts_of_record : RecordValue → FactsValue
facts_of_record r =
    record {
      removed = r.removed;
      joined = r.joined;
      transfer = r.transfer;
      running = channels_where (λ q. list_any (λ line. line.channel == q) r.lines);
    }

abbrev pub facts_of_cycle : Cycle → FactsValue
facts_of_cycle e =
    record {
      removed = e.removed;
      joined = e.joined;
      transfer = e.transfer;
      running = channels_where (has (channels_running_in Switch e));
    }

-- the facts of some cycles, the latest first
abbrev pub PastFacts : Type 0
PastFacts = List FactsValue

abbrev pub facts_of : Past → PastFacts
facts_of past = map facts_of_cycle past

-- The first cycle of which an entry may be behind the removal of a channel: the one in which it sent the request that
-- started the transfer by which it last joined, which is the one before its start; or 0 where it did not join.
abbrev pub since : PastFacts → Channel → ℕ
since [] q = 0
since (f ∷ past) q = if has f.joined q then start_of f.transfer - 1 else since past q

-- ---- of one cycle after the earlier ones

-- who is removed, though no entry names it from that cycle on
abbrev pub falsely_removed : List FaultValue → FactsValue → PastFacts → ChannelSet
falsely_removed script f past =
    channels_where (λ q. has f.removed q && not (is_named script q (since past q) (length past)))

-- the latest of some cycles
abbrev pub latest : PastFacts → Option FactsValue
latest [] = None
latest (f ∷ past) = Some f

-- who was declared joined in the cycle before, and is not among those that have a line in this one
abbrev pub unrisen : Option FactsValue → ChannelSet → ChannelSet
unrisen None running = []
unrisen (Some e) running = channels_where (λ q. has e.joined q && not (has running q))

-- whether a channel is a target of a transfer that is not over, and of none that has this start
abbrev pub is_dropped : Option TransferValue → ChannelSet → Option TransferValue → Channel → Bool
is_dropped None joined now q = false
is_dropped (Some t) [] now q = has t.targets q && not (is_transfer_to q t.start now)
is_dropped (Some t) (j ∷ joined) now q = false

-- the targets of the cycle before that this one drops, whose transfer this is
abbrev pub dropped_targets : Option FactsValue → Option TransferValue → ChannelSet
dropped_targets None now = []
dropped_targets (Some e) now = channels_where (is_dropped e.transfer e.joined now)

-- the cycles of the transfer that ends with a cycle, and 0 where none ends
abbrev pub ended_length : ChannelSet → Option TransferValue → ℕ → ℕ
ended_length [] transfer cycle = 0
ended_length (j ∷ joined) transfer cycle = suc cycle - start_of transfer

-- ---- of all cycles

abbrev pub removals : PastFacts → ℕ
removals [] = 0
removals (f ∷ past) = removals past + length f.removed

abbrev pub false_removals : List FaultValue → PastFacts → ℕ
false_removals script [] = 0
false_removals script (f ∷ past) = false_removals script past + length (falsely_removed script f past)

abbrev pub joins : PastFacts → ℕ
joins [] = 0
joins (f ∷ past) = joins past + length f.joined

abbrev pub not_whole : PastFacts → ℕ
not_whole [] = 0
not_whole (f ∷ past) = not_whole past + length (unrisen (latest past) f.running)

abbrev pub dropped : PastFacts → ℕ
dropped [] = 0
dropped (f ∷ past) = dropped past + length (dropped_targets (latest past) f.transfer)

-- the cycles of the longest transfer that ended by a join, and 0 where none did
abbrev pub longest_transfer : PastFacts → ℕ
longest_transfer [] = 0
longest_transfer (f ∷ past) = max (longest_transfer past) (ended_length f.joined f.transfer (length past))
