-- What arrived in a slot of a cycle, by the facts. This project's own.
use Rattle.std.specs.Prelude.{◌≡◌, ◌<◌, ℕ, List, Some, None, map}
use Rattle.guards_model.specs.declared.Slot.{Slot}
use Rattle.guards_model.specs.declared.Slot.TheVariants.{Vote}
use Rattle.guards_model.specs.Channels.{Channel, place_or}
use Rattle.guards_model.specs.Contexts.{ContextValue}
use Rattle.guards_model.specs.Modes.{up}
use Rattle.guards_model.specs.Missions.{MissionValue, channels_of}
use Rattle.guards_model.specs.Network.{Log}
use Rattle.guards_model.specs.Rounds.{Steps}
use Rattle.guards_runs.specs.Cycles.{received_body, cycles_before, cycle_at, mode_in}
use Rattle.guards_nodes.specs.NodeStates.{NodeValue}
use Rattle.guards_world.specs.NodeFacts.{node_with, state_at_opening}
use Rattle.guards_world.specs.InCycle.{node_in}
use Rattle.guards_world.specs.NodeLists.{Bodies}

-- the bodies that count in a slot of cycle n are those that the facts name
abbrev pub AreArrivals : MissionValue → Log → ℕ → Slot → Bodies → Type 0
AreArrivals M L n slot got = (j : Channel) (to : ℕ) → got j to ≡ received_body M (cycle_at M L n).entries n slot j to

-- all nodes of cycle n, with the modes of a slot, where so many slots were handed over
abbrev pub nodes_in : MissionValue → Log → ℕ → Steps → Slot → ℕ → List NodeValue
nodes_in M L n steps slot handed = map (node_in M L n steps slot handed) (channels_of M)

-- all nodes of cycle n when it has opened, before the crashes of its first slot
abbrev pub nodes_opened : MissionValue → Log → ℕ → Steps → List NodeValue
nodes_opened M L n steps =
    map (λ q. node_with M q (state_at_opening M (cycles_before M L n) (cycle_at M L n) steps q)) (channels_of M)

-- the channels that are up in the vote slot have a context after the writes of their round
abbrev pub HaveWorked : MissionValue → Log → ℕ → Type 0
HaveWorked M L n =
    (q : Channel) → q < 7 → mode_in (cycle_at M L n) q Vote ≡ up →
    (ctx : ContextValue) × (place_or (cycle_at M L n).contexts_after q None ≡ Some ctx)
