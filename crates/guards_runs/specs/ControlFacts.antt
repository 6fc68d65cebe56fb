-- What the facts of a run say of a channel's control. This project's own.
use Rattle.std.specs.Prelude.{◌≡◌, ℕ, List, [], ◌∷◌, option_map}
use Rattle.guards_model.specs.Channels.{ChannelSet, has}
use Rattle.guards_model.specs.Missions.{MissionValue, written_blocks}
use Rattle.guards_model.specs.Diagnosis.{Agreed}
use Rattle.guards_model.specs.Transfers.{TransferValue, start_of}
use Rattle.guards_model.specs.Tags.{tags_of}
use Rattle.guards_model.specs.Controls.{SweepingValue, ControlValue, ClosedValue, decided_by, control_decided, control_closed, closed_by}
use Rattle.guards_runs.specs.Cycles.{Past, Cycle, active_set, fresh_set, base_counts, running_transfer, swept_since, decision_of, this_cycle}
use Rattle.guards_runs.specs.Report.{remaining_in}

-- a transfer with the tags that stand for its cycles
abbrev pub sweeping_of : MissionValue → Past → TransferValue → SweepingValue
sweeping_of M past t = record { transfer = t; tags = tags_of M.rules.blocks (swept_since M t.start past) [] }

-- the control with which every running channel begins the cycle after the past
abbrev pub control_after_past : MissionValue → Past → ControlValue
control_after_past M past =
    record {
      active = active_set M past;
      fresh = fresh_set past;
      counts = base_counts M past;
      sweeping = option_map (sweeping_of M past) (running_transfer past);
    }

-- the value, where some channel joined
abbrev pub if_joined : {A : Type 0} → ChannelSet → A → A → A
if_joined [] value none = none
if_joined (q ∷ joined) value none = value

-- what closing a cycle answers, by its facts
abbrev pub closed_of : Cycle → ClosedValue
closed_of e =
    record {
      joined = e.joined;
      start = if_joined e.joined (start_of e.transfer) 0;
      remaining = remaining_in e;
      rest = if_joined e.joined e.remaining [];
    }

-- A channel's control decides and closes a cycle as the facts say: its tags stand for the cycles of the transfer.
pub record ControlFollows (M : MissionValue) (past : Past) (e : Cycle) : Type 0 where
  -- from any agreed words it decides what the facts decide from them
  pub decides : (agreed : Agreed) →
      decided_by M.rules (this_cycle past) (control_after_past M past) agreed ≡ decision_of M past e.opening agreed
  -- with the cycle's decision, and any list of just the blocks that are written, it becomes the control of the next
  -- cycle
  pub closes : (written : List ℕ) → ((b : ℕ) → has written b ≡ has (written_blocks M (this_cycle past)) b) →
      control_closed M.rules.last e.removed e.planned written
      (control_decided M.rules (this_cycle past) (control_after_past M past) e.decision)
      ≡ control_after_past M (e ∷ past)
  -- and answers what the facts say
  pub answers : (written : List ℕ) → ((b : ℕ) → has written b ≡ has (written_blocks M (this_cycle past)) b) →
      closed_by M.rules.last e.planned written
      (control_decided M.rules (this_cycle past) (control_after_past M past) e.decision) ≡ closed_of e
