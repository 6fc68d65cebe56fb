-- The control of a channel: what a cycle decides from it and the agreed words, and what it leaves for the next cycle.
use Rattle.std.specs.Prelude.{ℕ, ◌==◌, List, [], ◌∷◌, length, Option, Some, None, option_map, if◌then◌else◌}
use Rattle.guards_model.specs.Channels.{ChannelSet, numbers_below, by_channel}
use Rattle.guards_model.specs.Missions.{RulesValue}
use Rattle.guards_model.specs.Frames.{ControlWordValue}
use Rattle.guards_model.specs.Diagnosis.{Agreed, judged_of, counts_of, counts_carried, removed_of}
use Rattle.guards_model.specs.Transfers.{TransferValue, active_after, transfer_after}
use Rattle.guards_model.specs.Decisions.{DecisionValue, joined_of}
use Rattle.guards_model.specs.Tags.{TagsValue, tags_of, tags_noted, tags_closed, plan_by_tags}

-- a transfer with its tags
pub record SweepingValue : Type 0 where
  pub transfer : TransferValue
  pub tags : TagsValue

-- what a channel carries from cycle to cycle: the active set, the channels that joined in the cycle before, the
-- alpha-count of each channel, and the transfer that runs
pub record ControlValue : Type 0 where
  pub active : ChannelSet
  pub fresh : ChannelSet
  pub counts : List ℕ
  pub sweeping : Option SweepingValue

-- what closing a cycle answers: who joined, the start of their transfer, how many blocks remain where one ran, and the
-- blocks of the final frames
pub record ClosedValue : Type 0 where
  pub joined : ChannelSet
  pub start : ℕ
  pub remaining : Option ℕ
  pub rest : List ℕ

-- all channels of the mission are active, and nothing is held against them
unfoldable pub first_control : RulesValue → ControlValue
first_control rules = record {
  active = numbers_below rules.channels;
  fresh = [];
  counts = by_channel (λ q. 0);
  sweeping = None;
}

-- ---- the decision

abbrev pub transfer_in : Option SweepingValue → Option TransferValue
transfer_in sweeping = option_map (λ s. s.transfer) sweeping

-- all blocks remain of a transfer that starts in this cycle; one that goes on keeps its tags
abbrev pub tags_for : ℕ → ℕ → Option SweepingValue → TransferValue → TagsValue
tags_for blocks c None t = tags_of blocks [] []
tags_for blocks c (Some s) t = if t.start == c then tags_of blocks [] [] else s.tags

abbrev pub sweeping_for : ℕ → ℕ → Option SweepingValue → Option TransferValue → Option SweepingValue
sweeping_for blocks c sweeping None = None
sweeping_for blocks c sweeping (Some t) = Some (record { transfer = t; tags = tags_for blocks c sweeping t })

-- nothing is planned where no transfer runs
abbrev pub planned_by : ℕ → Option SweepingValue → List ℕ
planned_by sweep None = []
planned_by sweep (Some s) = plan_by_tags sweep s.tags

-- what a channel with this control decides in cycle c from its agreed words
unfoldable pub decided_by : RulesValue → ℕ → ControlValue → Agreed → DecisionValue
decided_by rules c k agreed =
    let judged : ChannelSet = judged_of k.active agreed in
    let counts : List ℕ = counts_of rules.law rules.keep rules.decrement k.active judged k.counts in
    let transfer : Option TransferValue =
    transfer_after rules.channels rules.returning k.active k.fresh agreed c (transfer_in k.sweeping) in
    record {
      judged = judged;
      counts = counts;
      removed = removed_of rules.threshold k.active k.fresh agreed counts;
      transfer = transfer;
      planned = planned_by rules.sweep (sweeping_for rules.blocks c k.sweeping transfer);
    }

-- the control with the counts and the transfer that were decided
unfoldable pub control_decided : RulesValue → ℕ → ControlValue → DecisionValue → ControlValue
control_decided rules c k d =
    record {
      active = k.active;
      fresh = k.fresh;
      counts = d.counts;
      sweeping = sweeping_for rules.blocks c k.sweeping d.transfer;
    }

-- ---- the end of a cycle

-- the tags after a cycle with this plan and these writes
abbrev pub tags_after : List ℕ → List ℕ → TagsValue → TagsValue
tags_after planned written tags = tags_closed planned (tags_noted written tags)

abbrev pub sweeping_after : List ℕ → List ℕ → Option SweepingValue → Option SweepingValue
sweeping_after planned written sweeping =
    option_map (λ s. record { transfer = s.transfer; tags = tags_after planned written s.tags }) sweeping

abbrev pub blocks_remaining : Option SweepingValue → List ℕ
blocks_remaining None = []
blocks_remaining (Some s) = s.tags.remaining

-- who is declared joined, of the transfer with its tags at the cycle's end
abbrev pub joined_by : ℕ → Option SweepingValue → ChannelSet
joined_by last sweeping = joined_of last (transfer_in sweeping) (blocks_remaining sweeping)

-- a transfer is over when its targets are declared joined
abbrev pub goes_on : ChannelSet → Option SweepingValue → Option SweepingValue
goes_on [] sweeping = sweeping
goes_on (q ∷ joined) sweeping = None

-- the control of the next cycle: of a decided control, the channels removed, the plan, and the blocks written
unfoldable pub control_closed : ℕ → ChannelSet → List ℕ → List ℕ → ControlValue → ControlValue
control_closed last removed planned written k =
    let sweeping : Option SweepingValue = sweeping_after planned written k.sweeping in
    let joined : ChannelSet = joined_by last sweeping in
    let active : ChannelSet = active_after k.active removed joined in
    record {
      active = active;
      fresh = joined;
      counts = counts_carried active joined k.counts;
      sweeping = goes_on joined sweeping;
    }

abbrev pub start_if_joined : ChannelSet → Option SweepingValue → ℕ
start_if_joined [] sweeping = 0
start_if_joined (q ∷ joined) None = 0
start_if_joined (q ∷ joined) (Some s) = s.transfer.start

abbrev pub rest_if_joined : ChannelSet → Option SweepingValue → List ℕ
rest_if_joined [] sweeping = []
rest_if_joined (q ∷ joined) sweeping = blocks_remaining sweeping

unfoldable pub closed_by : ℕ → List ℕ → List ℕ → ControlValue → ClosedValue
closed_by last planned written k =
    let sweeping : Option SweepingValue = sweeping_after planned written k.sweeping in
    let joined : ChannelSet = joined_by last sweeping in
    record {
      joined = joined;
      start = start_if_joined joined sweeping;
      remaining = option_map (λ s. length s.tags.remaining) sweeping;
      rest = rest_if_joined joined sweeping;
    }

-- ---- the control word

unfoldable pub word_of_control : RulesValue → ControlValue → ControlWordValue
word_of_control rules k = record { law = rules.law; active = k.active; fresh = k.fresh; counts = k.counts }

unfoldable pub control_of_word : ControlWordValue → ControlValue
control_of_word w = record { active = w.active; fresh = w.fresh; counts = w.counts; sweeping = None }
