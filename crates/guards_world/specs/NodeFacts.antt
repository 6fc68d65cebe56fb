-- What the facts of a run say that each node holds: between two cycles, and after each slot of a cycle. This project's
-- own.
use Rattle.std.specs.Prelude.{ℕ, zero, suc, Bool, ◌&&◌, not, ◌==◌, nat_lt, [], ◌∷◌, Some, None, if◌then◌else◌}
use Rattle.guards_model.specs.declared.Slot.{Slot}
use Rattle.guards_model.specs.declared.Slot.TheVariants.{Request, Round3, Tasks, Vote, Sweep, Final}
use Rattle.guards_model.specs.Slots.{slot_index}
use Rattle.guards_model.specs.Channels.{Channel, has, place_or, by_channel, channels_where}
use Rattle.guards_model.specs.Contexts.{ContextValue}
use Rattle.guards_model.specs.Missions.{MissionValue}
use Rattle.guards_model.specs.Modes.{ModeValue, up, down, waiting, joining, is_up, scripted_mode_at_start}
use Rattle.guards_model.specs.Rounds.{Steps, steps_of, copies_of_replay}
use Rattle.guards_model.specs.Controls.{ControlValue, control_decided}
use Rattle.guards_model.specs.Ledgers.{LedgerValue}
use Rattle.guards_runs.specs.Cycles.{Cycle, Past, this_cycle, mode_in, mode_after, context_after, accused_before, heard_before, source_word, was_damaged, received_items, items_in}
use Rattle.guards_runs.specs.ControlFacts.{control_after_past, closed_of}
use Rattle.guards_runs.specs.Due.{due_origin, context_or_none, is_round}
use Rattle.guards_runs.specs.Restoration.{carried_over, replica_after, content_taken}
use Rattle.guards_nodes.specs.NodeStates.{HeldValue, ExchangeTreeValue, WorkedValue, ProgressValue, no_progress, no_codes, RunningValue, JoinerValue, StateValue, running, fallen, resting, returning, NodeValue}
use Rattle.guards_nodes.specs.NodeSteps.{Received, tree_of, kept_of, with_content}

-- ---- between two cycles

-- what a running channel holds after the past
abbrev pub held_at : MissionValue → Past → Channel → HeldValue
held_at M past q =
    record {
      context = context_or_none (context_after M past q);
      control = control_after_past M past;
      accused = accused_before past q;
      heard = heard_before past q;
    }

abbrev pub running_at : MissionValue → Past → Channel → RunningValue
running_at M past q = record { held = held_at M past q; progress = no_progress }

abbrev pub joiner_at : MissionValue → Past → Channel → JoinerValue
joiner_at M past q = record { replica = carried_over M.rules.blocks q past (replica_after M q past); taken = None }

abbrev pub state_of_mode : RunningValue → JoinerValue → ModeValue → StateValue
state_of_mode r j up = running r
state_of_mode r j down = fallen
state_of_mode r j (waiting n) = resting
state_of_mode r j joining = returning j

-- The state of each node after the past. That a node holds just this is, part by part: its context is the held one
-- (`context_after`), its control is that of the decisions so far (`control_after_past`), its accusations and its codes
-- are those of the votes and requests of the cycle before (`accused_before`, `heard_before`), its mode is that of the
-- script (`mode_after`), and a joining node's replica is what the sweep frames made of it.
abbrev pub state_at : MissionValue → Past → Channel → StateValue
state_at M past q = state_of_mode (running_at M past q) (joiner_at M past q) (mode_after M past q)

-- a node of the mission in a state
abbrev pub node_with : MissionValue → Channel → StateValue → NodeValue
node_with M q state = record { channel = q; rules = M.rules; state = state }

abbrev pub node_at : MissionValue → Past → Channel → NodeValue
node_at M past q = node_with M q (state_at M past q)

-- ---- the ledger

abbrev pub ledger_at : MissionValue → Past → LedgerValue
ledger_at M past =
    record {
      return_after = M.return_after;
      modes = by_channel (mode_after M past);
      damaged = channels_where (λ q. is_up (mode_after M past q) && was_damaged past q);
    }

-- ---- within a cycle

-- From here on: the cycle e after the past, whose entries are those so far, and `done`, how many slots of it are done:
-- what they carried was handed to the nodes. Each part of a node is what the facts say from its slot on.

abbrev pub is_done : Slot → ℕ → Bool
is_done slot done = nat_lt (slot_index slot) done

abbrev pub since : {A : Type 0} → Slot → ℕ → A → A → A
since slot done before after = if is_done slot done then after else before

abbrev pub context_in : Cycle → ℕ → Channel → ContextValue
context_in e done q = context_or_none
    (since Tasks done (place_or e.contexts_before q None) (place_or e.contexts_after q None))

-- the decision stands from the last round on, and the control of the next cycle from the sweep slot on
abbrev pub control_in : MissionValue → Past → Cycle → ℕ → ControlValue
control_in M past e done =
    since Sweep done
    (since Round3 done (control_after_past M past)
    (control_decided M.rules (this_cycle past) (control_after_past M past) e.decision))
    (control_after_past M (e ∷ past))

abbrev pub held_in : MissionValue → Past → Cycle → ℕ → Channel → HeldValue
held_in M past e done q =
    record {
      context = context_in e done q;
      control = control_in M past e done;
      accused = since Vote done (accused_before past q) (place_or e.accusations q []);
      heard = since Sweep done (heard_before past q) (place_or e.request_codes q []);
    }

-- whether a member receives an exchange of a channel in a round: the round is done and there is such a round, and the
-- channel is another member. A round's slot has its number as its place.
abbrev pub is_received : Cycle → ℕ → Channel → ℕ → Channel → Bool
is_received e done p round from = (nat_lt round done && is_round e round) && (has e.active from && not (from == p))

-- what a member received in the rounds that are done
abbrev pub received_through : MissionValue → Past → Cycle → ℕ → Channel → Received
received_through M past e done p zero from = []
received_through M past e done p (suc r) from =
    if is_received e done p (suc r) from
    then items_in (received_items M e.entries (this_cycle past) p) (suc r) from
    else []

abbrev pub tree_value_in : MissionValue → Past → Cycle → ℕ → Channel → ExchangeTreeValue
tree_value_in M past e done q = tree_of e.active q M.width (source_word M past q) (received_through M past e done q)

abbrev pub worked_in : MissionValue → Past → Cycle → Steps → Channel → WorkedValue
worked_in M past e steps q =
    record {
      cycle = this_cycle past;
      steps = steps_of steps q;
      copies = copies_of_replay (due_origin M past e q) (steps_of steps q);
    }

abbrev pub progress_in : MissionValue → Past → Cycle → Steps → ℕ → Channel → ProgressValue
progress_in M past e steps done q =
    record {
      hearing = since Sweep done (since Request done no_codes (place_or e.request_codes q [])) no_codes;
      tree = Some (tree_value_in M past e done q);
      decided = since Round3 done None (Some (kept_of e.decision e.inputs));
      worked = since Tasks done None (Some (worked_in M past e steps q));
      closed = since Sweep done None (Some (closed_of e));
    }

abbrev pub running_value_in : MissionValue → Past → Cycle → Steps → ℕ → Channel → RunningValue
running_value_in M past e steps done q =
    record { held = held_in M past e done q; progress = progress_in M past e steps done q }

-- a joining channel's replica has this cycle's sweep frames from the sweep slot on, and the final content from the
-- final slot on
abbrev pub joiner_swept : MissionValue → Past → Cycle → Channel → JoinerValue
joiner_swept M past e q = record { replica = replica_after M q (e ∷ past); taken = None }

abbrev pub joiner_in : MissionValue → Past → Cycle → ℕ → Channel → JoinerValue
joiner_in M past e done q =
    since Final done
    (since Sweep done (joiner_at M past q) (joiner_swept M past e q))
    (with_content (content_taken M q past e) (joiner_swept M past e q))

-- the state of each node in a mode, where so many slots are done
abbrev pub state_done : MissionValue → Past → Cycle → Steps → ModeValue → ℕ → Channel → StateValue
state_done M past e steps mode done q =
    state_of_mode (running_value_in M past e steps done q) (joiner_in M past e done q) mode

-- the state of each node with the modes of a slot, where so many slots are done
unfoldable pub state_in : MissionValue → Past → Cycle → Steps → Slot → ℕ → Channel → StateValue
state_in M past e steps slot done q = state_done M past e steps (mode_in e q slot) done q

-- the mode at the cycle's start, before the crashes of its first slot
abbrev pub mode_at_opening : MissionValue → Past → Channel → ModeValue
mode_at_opening M past q = scripted_mode_at_start M.script q (this_cycle past) (mode_after M past q)

-- the state of each node when the cycle has opened, and nothing of it is done
unfoldable pub state_at_opening : MissionValue → Past → Cycle → Steps → Channel → StateValue
state_at_opening M past e steps q = state_done M past e steps (mode_at_opening M past q) 0 q
