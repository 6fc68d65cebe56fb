-- What contracts see of the world, and which log stands for it. This project's own.
use Rattle.std.specs.Prelude.{◌≡◌, ◌≤◌, ℕ, ◌-◌, List, [], length, map, drop, ◌∷◌, Option, Some, None}
use Rattle.guards_model.specs.Channels.{ChannelSet}
use Rattle.guards_model.specs.Missions.{MissionValue, IsMission, channels_of}
use Rattle.guards_model.specs.Network.{Log, without_outputs}
use Rattle.guards_model.specs.Ledgers.{LedgerValue}
use Rattle.guards_model.specs.Settled.{SettledValue}
use Rattle.guards_model.specs.Texts.{StopValue}
use Rattle.guards_runs.specs.Cycles.{Past, this_cycle, active_set, cycles_before, Cycle, cycle_at}
use Rattle.guards_runs.specs.Disturbed.{settled_of, stop_of}
use Rattle.guards_runs.specs.Due.{AreDue}
use Rattle.guards_nodes.specs.NodeStates.{NodeValue, without_progress}
use Rattle.guards_nodes.specs.NodeCalls.{first_node}
use Rattle.guards_world.specs.NodeFacts.{ledger_at, node_at}

-- how a cycle ended that did not finish
pub data HaltValue : Type 0 where
  disturbed : StopValue → HaltValue
  no_memory : HaltValue

-- what is known of the last finished cycle, if there is one
abbrev pub settled_after : Past → Option SettledValue
settled_after [] = None
settled_after (e ∷ past) =
    Some (settled_of (this_cycle past) e)

-- `done` is how many cycles are finished, and `carried` how many entries were carried since the start. A spent world
-- keeps its halt.
pub record WorldValue : Type 0 where
  pub mission : MissionValue
  pub done : ℕ
  pub carried : ℕ
  pub nodes : List NodeValue
  pub ledger : LedgerValue
  pub switches : ChannelSet
  pub spent : Option HaltValue
  pub settled : Option SettledValue

-- the last n entries of the nine slots
abbrev pub last_entries : ℕ → Log → Log
last_entries n log = drop (length (without_outputs log) - n) (without_outputs log)

-- the cycles that a world has finished, by the entries that it carried
abbrev pub past_of : WorldValue → Log → Past
past_of w L = cycles_before w.mission L w.done

-- A list of entries stands for a world: they are the due ones of the cycles done, none of these stopped, and each part
-- of the world is what the facts of these cycles say.
pub record StandsForWorld (w : WorldValue) (L : Log) : Type 0 where
  pub mission : IsMission w.mission
  pub cycles : w.done ≤ w.mission.cycles
  pub count : length L ≡ w.carried
  pub due : AreDue w.mission (past_of w L) L
  pub unstopped : stop_of (past_of w L) ≡ None
  pub nodes : map without_progress w.nodes ≡ map (node_at w.mission (past_of w L)) (channels_of w.mission)
  pub ledger : w.ledger ≡ ledger_at w.mission (past_of w L)
  pub switches : w.switches ≡ active_set w.mission (past_of w L)
  pub settled : w.settled ≡ settled_after (past_of w L)

-- the world of a mission before its first cycle
abbrev pub first_world : MissionValue → WorldValue
first_world M =
    record {
      mission = M;
      done = 0;
      carried = 0;
      nodes = map (first_node M) (channels_of M);
      ledger = ledger_at M [];
      switches = channels_of M;
      spent = None;
      settled = None;
    }

-- the facts of the world's cycle, from a log that has this cycle's entries at its end
abbrev pub past_in : WorldValue → Log → Past
past_in w L = cycles_before w.mission L w.done

abbrev pub facts_in : WorldValue → Log → Cycle
facts_in w L = cycle_at w.mission L w.done
