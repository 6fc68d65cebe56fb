-- What is kept of the cycles of a run for its row. This project's own.
use Rattle.std.specs.Prelude.{ℕ, suc, ◌+◌, ◌-◌, max, not, ◌&&◌, List, length, Option, Some, if◌then◌else◌}
use Rattle.guards_model.specs.Channels.{by_channel, channels_where, has, place_or}
use Rattle.guards_model.specs.Transfers.{start_of}
use Rattle.guards_model.specs.Faults.{FaultValue}
use Rattle.guards_model.specs.Records.{transfer_of_pair}
use Rattle.campaign_facts.specs.Facts.{FactsValue, PastFacts, since, removals, false_removals, joins, not_whole, dropped, longest_transfer, latest, is_named, unrisen, dropped_targets, ended_length}
use Rattle.campaign_facts.specs.declared.facts.CycleFacts.{CycleFacts}

abbrev pub facts_value : CycleFacts → FactsValue
facts_value f = record {
  removed = f.removed;
  joined = f.joined;
  transfer = transfer_of_pair f.transfer;
  running = f.running;
}

-- the numbers that are kept, by channel the first cycle of which an entry may be behind its removal, and the facts of
-- the latest cycle
pub record TallyValue : Type 0 where
  pub cycles : ℕ
  pub removals : ℕ
  pub false_removals : ℕ
  pub joins : ℕ
  pub not_whole : ℕ
  pub dropped : ℕ
  pub longest : ℕ
  pub firsts : List ℕ
  pub last : Option FactsValue

-- what is kept of these cycles of a run with this script
unfoldable pub tally_of : List FaultValue → PastFacts → TallyValue
tally_of script past =
    record {
      cycles = length past;
      removals = removals past;
      false_removals = false_removals script past;
      joins = joins past;
      not_whole = not_whole past;
      dropped = dropped past;
      longest = longest_transfer past;
      firsts = by_channel (since past);
      last = latest past;
    }

-- what is kept after one more cycle
unfoldable pub next_tally : List FaultValue → FactsValue → TallyValue → TallyValue
next_tally script f t =
    record {
      cycles = suc t.cycles;
      removals = t.removals + length f.removed;
      false_removals = t.false_removals + length
          (channels_where (λ q. has f.removed q && not (is_named script q (place_or t.firsts q 0) t.cycles)));
      joins = t.joins + length f.joined;
      not_whole = t.not_whole + length (unrisen t.last f.running);
      dropped = t.dropped + length (dropped_targets t.last f.transfer);
      longest = max t.longest (ended_length f.joined f.transfer t.cycles);
      firsts = by_channel (λ q. if has f.joined q then start_of f.transfer - 1 else place_or t.firsts q 0);
      last = Some f;
    }
