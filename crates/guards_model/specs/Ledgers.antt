-- The ledger of modes and damage marks that is kept through a run, step by step, and who is disturbed. This project's
-- own.
use Rattle.std.specs.Prelude.{ℕ, ◌*◌, Bool, true, false, not, ◌&&◌, ◌||◌, nat_lt, nat_le, List, [], length, filter, if◌then◌else◌}
use Rattle.std.specs.List.{list_any}
use Rattle.guards_model.specs.declared.Slot.{Slot}
use Rattle.guards_model.specs.Channels.{Channel, ChannelSet, has, place_or, by_channel, channels_where}
use Rattle.guards_model.specs.Faults.{FaultValue}
use Rattle.guards_model.specs.Modes.{ModeValue, up, down, is_up, is_joining, scripted_mode_at_start, scripted_mode_in_slot, mode_at_end}
use Rattle.guards_model.specs.Damages.{is_damage}

pub record LedgerValue : Type 0 where
  -- how many cycles a channel waits that was switched off
  pub return_after : ℕ
  -- the mode of each channel; a place past the channels is down
  pub modes : List ModeValue
  -- the channels with a damage mark
  pub damaged : ChannelSet

abbrev pub mode_of : LedgerValue → Channel → ModeValue
mode_of ledger q = place_or ledger.modes q down

-- all of so many channels begin up, without a mark
abbrev pub first_ledger : ℕ → ℕ → LedgerValue
first_ledger channels return_after =
    record {
      return_after = return_after;
      modes = by_channel (λ q. if nat_lt q channels then up else down);
      damaged = [];
    }

-- the ledger with other modes, where only a channel that is up keeps a mark or gets one of these
abbrev pub with_modes : LedgerValue → (Channel → ModeValue) → (Channel → Bool) → LedgerValue
with_modes ledger mode marked =
    record {
      return_after = ledger.return_after;
      modes = by_channel mode;
      damaged = channels_where (λ q. is_up (mode q) && (marked q || has ledger.damaged q));
    }

-- at a cycle's start: the restarts, the waiting, and then the damage marks
abbrev pub ledger_at_start : List FaultValue → ℕ → LedgerValue → LedgerValue
ledger_at_start script c ledger =
    with_modes ledger (λ q. scripted_mode_at_start script q c (mode_of ledger q)) (λ q. list_any (is_damage q c) script)

-- in a slot: the crashes of the cycle so far
abbrev pub ledger_in_slot : List FaultValue → ℕ → Slot → LedgerValue → LedgerValue
ledger_in_slot script c slot ledger =
    with_modes ledger (λ q. scripted_mode_in_slot script q c slot (mode_of ledger q)) (λ q. false)

-- at a cycle's end, where these channels are switched on and these joining ones took a final content
abbrev pub ledger_at_end : ChannelSet → ChannelSet → LedgerValue → LedgerValue
ledger_at_end on taken ledger =
    with_modes ledger (λ q. mode_at_end ledger.return_after (has on q) (has taken q) (mode_of ledger q)) (λ q. false)

-- who joins in the second ledger and not in the first; who was up and is not; who was not down and is
abbrev pub turned_joining : LedgerValue → LedgerValue → ChannelSet
turned_joining before after = channels_where (λ q. is_joining (mode_of after q) && not (is_joining (mode_of before q)))

abbrev pub left_up : LedgerValue → LedgerValue → ChannelSet
left_up before after = channels_where (λ q. is_up (mode_of before q) && not (is_up (mode_of after q)))

abbrev pub is_down : ModeValue → Bool
is_down down = true
is_down _ = false

abbrev pub turned_down : LedgerValue → LedgerValue → ChannelSet
turned_down before after = channels_where (λ q. is_down (mode_of after q) && not (is_down (mode_of before q)))

-- ---- who is disturbed

-- the active channels that are not up, have a damage mark, or are charged
abbrev pub disturbed_by : ChannelSet → ChannelSet → LedgerValue → ChannelSet
disturbed_by active charged ledger =
    filter (λ q. (not (is_up (mode_of ledger q)) || has ledger.damaged q) || has charged q) active

-- the limit is reached where a third of the active channels or more are disturbed
abbrev pub limit_reached : ChannelSet → ChannelSet → LedgerValue → Bool
limit_reached active charged ledger = nat_le (length active) (3 * length (disturbed_by active charged ledger))
