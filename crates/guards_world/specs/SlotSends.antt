-- What the nodes send in a slot: each of them its frame to each receiver, in order. This project's own.
use Rattle.std.specs.Prelude.{◌≡◌, ℕ, Bool, true, false, List, [], ◌∷◌, ◌++◌, map, filter_map, flat_map, take, Option, Some, None, option_map}
use Rattle.std.specs.List.{AllZip, AllByRecursion}
use Rattle.guards_model.specs.declared.Slot.{Slot}
use Rattle.guards_model.specs.declared.Slot.TheVariants.{Request, Round1, Round2, Round3, Tasks, Vote, Sweep, Final, Switch, Output}
use Rattle.guards_model.specs.BusRules.{RuleValue}
use Rattle.guards_model.specs.Channels.{without}
use Rattle.guards_model.specs.Missions.{MissionValue}
use Rattle.guards_model.specs.Frames.{BodyValue, FrameValue, spelling, in_range}
use Rattle.guards_model.specs.Network.{EntryValue, Log, TrafficValue}
use Rattle.guards_runs.specs.Due.{Carry, IsCarryOf}
use Rattle.guards_nodes.specs.NodeStates.{NodeValue}
use Rattle.guards_nodes.specs.NodeSteps.{Received}
use Rattle.guards_world.specs.OwedFrames.{body_of}
use Rattle.guards_world.specs.NodeLists.{AllReceived}

-- one carry, and the bytes that are sent on it
pub record SendValue : Type 0 where
  pub carry : Carry
  pub bytes : List ℕ

-- the frame of a body that a node sends
abbrev pub frame_by : ℕ → NodeValue → BodyValue → FrameValue
frame_by c node body = record { version = node.rules.version; sender = node.channel; cycle = c; body = body }

abbrev pub send_by : ℕ → Slot → NodeValue → ℕ → BodyValue → SendValue
send_by c slot node to body =
    record {
      carry = record { cycle = c; slot = slot; from = node.channel; to = to };
      bytes = spelling (frame_by c node body);
    }

-- what a node sends to a receiver, if anything, by what it received
abbrev pub send_to : MissionValue → ℕ → Slot → Received → NodeValue → ℕ → Option SendValue
send_to M c slot received node to = option_map (send_by c slot node to) (body_of M received slot to node.state)

-- what a node sends to these receivers, none to itself
abbrev pub sends_of : MissionValue → ℕ → Slot → List ℕ → Received → NodeValue → List SendValue
sends_of M c slot receivers received node =
    filter_map (send_to M c slot received node) (without receivers (node.channel ∷ []))

-- what a frame is to these receivers, none to its sender
abbrev pub sends_by : ℕ → Slot → List ℕ → Option FrameValue → List SendValue
sends_by c slot receivers None = []
sends_by c slot receivers (Some frame) =
    map (λ to. record {
      carry = record { cycle = c; slot = slot; from = frame.sender; to = to };
      bytes = spelling frame;
    })
    (without receivers (frame.sender ∷ []))

-- the frames of the sweep and final slots have a target, and those of the others are the same for every receiver
abbrev pub has_targets : Slot → Bool
has_targets Sweep = true
has_targets Final = true
has_targets Request = false
has_targets Round1 = false
has_targets Round2 = false
has_targets Round3 = false
has_targets Tasks = false
has_targets Vote = false
has_targets Switch = false
has_targets Output = false

-- what all nodes send, one after the other
abbrev pub all_sends : MissionValue → ℕ → Slot → List ℕ → AllReceived → List NodeValue → List SendValue
all_sends M c slot receivers received nodes =
    flat_map (λ node. sends_of M c slot receivers (received node.channel) node) nodes

-- a node of the mission, each of whose frames in the slot has a spelling
pub record MaySend (M : MissionValue) (c : ℕ) (slot : Slot) (received : AllReceived) (node : NodeValue) : Type 0 where
  pub rules : M.rules ≡ node.rules
  pub fits : (to : ℕ) (body : BodyValue) → body_of M (received node.channel) slot to node.state ≡ Some body →
      in_range (frame_by c node body) ≡ true

-- the entry is of this carry, and these bytes were sent
abbrev pub IsEntryOf : SendValue → EntryValue → Type 0
IsEntryOf send entry = IsCarryOf send.bytes send.carry entry

-- The log grew by one entry for each of these, in order, each as the bus may make it.
pub record AreSent (may : List RuleValue → EntryValue → Type 0) (script : List RuleValue) (old new : Log)
    (sends : List SendValue) (now : Log) : Type 0 where
  pub grew : new ≡ old ++ now
  pub each : AllZip IsEntryOf sends now
  pub allowed : AllByRecursion (may script) now

-- these were sent, and the traffic of the slot grew by their entries
pub record SendsSlot (may : List RuleValue → EntryValue → Type 0) (script : List RuleValue) (old new : Log)
    (sends : List SendValue) (before after : TrafficValue) : Type 0 where
  pub now : Log
  pub sent : AreSent may script old new sends now
  pub traffic : after ≡ record { cycle = before.cycle; slot = before.slot; entries = before.entries ++ now }

-- the same for the first few of them
pub record SendsFirstOfSlot (may : List RuleValue → EntryValue → Type 0) (script : List RuleValue) (old new : Log)
    (sends : List SendValue) (before after : TrafficValue) : Type 0 where
  pub few : ℕ
  pub sends_few : SendsSlot may script old new (take few sends) before after
