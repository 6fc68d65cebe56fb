-- What contracts see of a node: what it holds from cycle to cycle, and how far it has come in the running cycle.
-- This project's own.
use Rattle.std.specs.Prelude.{ℕ, ℤ, List, Option, Some, None}
use Rattle.guards_model.specs.declared.Actor.{Actor}
use Rattle.guards_model.specs.Channels.{Channel, ChannelSet, by_channel}
use Rattle.guards_model.specs.Contexts.{ContextValue}
use Rattle.guards_model.specs.Missions.{RulesValue}
use Rattle.guards_model.specs.Frames.{SourceValue, CopyValue}
use Rattle.guards_model.specs.Replicas.{ReplicaValue}
use Rattle.guards_model.specs.Controls.{ControlValue, ClosedValue}

-- the codes of a cycle in which no request is heard
abbrev pub no_codes : List ℕ
no_codes = by_channel (λ q. 0)

-- what a running channel has between two cycles; its next source word tells the accusations and the codes
pub record HeldValue : Type 0 where
  pub context : ContextValue
  pub control : ControlValue
  -- whom it accuses by the last votes
  pub accused : ChannelSet
  -- for each channel the code of the request that it heard in the cycle before
  pub heard : List ℕ

-- what it holds in the exchange of a cycle: among whom, who it is, the width of the words, its own word, and for each
-- round the values of the paths with so many labels, in the order of the paths
pub record ExchangeTreeValue : Type 0 where
  pub active : ChannelSet
  pub me : Channel
  pub width : ℕ
  pub own : SourceValue
  pub levels : List (List (Option SourceValue))

-- what it keeps of its decision: who is judged and who is removed, and the inputs of its writes. The counts and the
-- transfer that it decided are in its control, and so is the plan: the tags of the transfer give it until the close.
pub record DecidedValue : Type 0 where
  pub judged : ChannelSet
  pub removed : ChannelSet
  pub inputs : List ℤ

-- the steps of its round in their order, and the copies that they made
pub record WorkedValue : Type 0 where
  pub cycle : ℕ
  pub steps : List Actor
  pub copies : List CopyValue

-- how far it has come since its last source word: each part is there from its call on
pub record ProgressValue : Type 0 where
  -- the codes of the requests of this cycle, which the source word of the next one tells
  pub hearing : List ℕ
  pub tree : Option ExchangeTreeValue
  pub decided : Option DecidedValue
  pub worked : Option WorkedValue
  pub closed : Option ClosedValue

-- nothing was done since
abbrev pub no_progress : ProgressValue
no_progress = record { hearing = no_codes; tree = None; decided = None; worked = None; closed = None }

-- a running channel
pub record RunningValue : Type 0 where
  pub held : HeldValue
  pub open held use *
  pub progress : ProgressValue
  pub open progress use *

-- a joining channel has its replica, and the control of the final content where it took one
pub record JoinerValue : Type 0 where
  pub replica : ReplicaValue
  pub taken : Option ControlValue

-- a channel runs while it is up, is fallen while it is down, rests while it waits, and is returning while it joins
pub data StateValue : Type 0 where
  running : RunningValue → StateValue
  fallen : StateValue
  resting : StateValue
  returning : JoinerValue → StateValue

-- a node: its channel, the rules of its mission, and its state
pub record NodeValue : Type 0 where
  pub channel : Channel
  pub rules : RulesValue
  pub state : StateValue

-- ---- parts

abbrev pub running_or_none : StateValue → Option RunningValue
running_or_none (running r) = Some r
running_or_none _ = None

abbrev pub joiner_or_none : StateValue → Option JoinerValue
joiner_or_none (returning j) = Some j
joiner_or_none _ = None

-- ---- between two cycles

-- what the finished cycle left is gone, but for the codes heard since
abbrev pub only_hearing : ProgressValue → ProgressValue
only_hearing p = record no_progress { hearing = p.hearing }

-- what of a state lasts from one cycle to the next
abbrev pub between_cycles : StateValue → StateValue
between_cycles (running r) = running (record { held = r.held; progress = only_hearing r.progress })
between_cycles fallen = fallen
between_cycles resting = resting
between_cycles (returning j) = returning j

abbrev pub without_progress : NodeValue → NodeValue
without_progress node = record node { state = between_cycles node.state }
