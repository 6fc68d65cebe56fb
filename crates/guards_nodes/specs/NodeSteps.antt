-- What each call of a node does to its state. Nothing here names a log or an earlier cycle: a node knows its channel,
-- what it holds, and what it is handed. This project's own.
use Rattle.std.specs.Prelude.{◌≡◌, ⊤, ℕ, ◌+◌, ◌&&◌, ◌==◌, ℤ, List, [], ◌∷◌, length, map, take, Bool, Option, Some, None, option_map, slice_set, if◌then◌else◌}
use Rattle.guards_model.specs.declared.Actor.{Actor}
use Rattle.guards_model.specs.Channels.{Channel, ChannelSet, place_or, by_channel, tolerated_faults}
use Rattle.guards_model.specs.Contexts.{ContextValue, context_word, with_word}
use Rattle.guards_model.specs.Tasks.{WriteValue, whole}
use Rattle.guards_model.specs.Missions.{RulesValue}
use Rattle.guards_model.specs.Frames.{SourceValue, ItemValue, SweepValue, FinalValue}
use Rattle.guards_model.specs.OralMessages.{held_value, agreed_by, paths}
use Rattle.guards_model.specs.Voting.{inputs_of, Ballots, vote_of, accused_of}
use Rattle.guards_model.specs.Diagnosis.{Agreed}
use Rattle.guards_model.specs.Decisions.{DecisionValue, request_code, dropped_of, has_started}
use Rattle.guards_model.specs.Rounds.{Origin, IsFull, copies_of_replay}
use Rattle.guards_model.specs.Replicas.{empty_replica, after_sweep, with_copies, final_taken}
use Rattle.guards_model.specs.Controls.{ControlValue, first_control, transfer_in, planned_by, decided_by, control_decided, control_closed, closed_by, control_of_word}
use Rattle.guards_model.specs.Texts.{LineValue}
use Rattle.guards_nodes.specs.NodeStates.{HeldValue, ExchangeTreeValue, DecidedValue, no_progress, no_codes, RunningValue, JoinerValue, StateValue, running}

-- ---- the exchange

-- the items that a member received in each round, from 1 on, of each channel
abbrev pub Received : Type 0
Received = ℕ → Channel → List ItemValue

abbrev pub nothing_received : Received
nothing_received round from = []

-- the same, with these items in a round of a channel
abbrev pub with_items : ℕ → Channel → List ItemValue → Received → Received
with_items round from items received r j = if (r == round && j == from) then items else received r j

-- the values that the member holds for the paths of so many labels
abbrev pub held_level : ChannelSet → ℕ → Channel → SourceValue → Received → ℕ → List (Option SourceValue)
held_level active width me own received labels = map (held_value active width me own received) (paths active labels)

-- the tree that stands for what was received: it has a level for each round that there is
abbrev pub tree_of : ChannelSet → Channel → ℕ → SourceValue → Received → ExchangeTreeValue
tree_of active me width own received =
    record {
      active = active;
      me = me;
      width = width;
      own = own;
      levels = take (tolerated_faults active + 1)
          (held_level active width me own received 1 ∷ held_level active width me own received 2
          ∷ held_level active width me own received 3 ∷ []);
    }

-- the tree of the same member for other things received
abbrev pub tree_for : Received → ExchangeTreeValue → ExchangeTreeValue
tree_for received tree = tree_of tree.active tree.me tree.width tree.own received

-- a tree stands for what was received
abbrev pub TreeStandsFor : Option ExchangeTreeValue → Received → Type 0
TreeStandsFor None received = ⊤
TreeStandsFor (Some tree) received = tree ≡ tree_for received tree

-- a node's state stands for what it received in the rounds of its cycle so far; the rest of it is no list
abbrev pub StandsFor : StateValue → Received → Type 0
StandsFor (running r) received = TreeStandsFor r.tree received
StandsFor _ received = ⊤

-- the words of the active channels, as the member resolves them
abbrev pub agreed_from : Received → ExchangeTreeValue → Agreed
agreed_from received tree = agreed_by tree.active tree.width tree.me tree.own received

-- ---- the calls of a cycle, on a running channel

-- before the first cycle: the initial context, and all channels are active
abbrev pub first_held : RulesValue → ContextValue → HeldValue
first_held rules initial = record { context = initial; control = first_control rules; accused = []; heard = no_codes }

abbrev pub first_running_value : RulesValue → ContextValue → RunningValue
first_running_value rules initial = record { held = first_held rules initial; progress = no_progress }

-- one word of the context is set
abbrev pub with_damage : ℕ → ℕ → ℤ → RunningValue → RunningValue
with_damage block word value r = record r { held = record r.held { context = with_word r.context block word value } }

-- the code of a request is kept for the source word of the next cycle
abbrev pub after_request : Channel → Option ℕ → RunningValue → RunningValue
after_request from have r =
    record r {
      progress = record r.progress {
        hearing =
            slice_set r.hearing from (request_code (transfer_in r.control.sweeping) from (Some have));
      };
    }

-- the source word: the sensors, and whom the channel accused and what it heard in the cycle before
abbrev pub word_to_send : List ℤ → HeldValue → SourceValue
word_to_send sensors h = record { words = sensors; accuse = h.accused; heard = h.heard }

-- the exchange begins with the source word alone; what the last cycle left is gone, but for what was heard since
abbrev pub after_source : Channel → ℕ → List ℤ → RunningValue → RunningValue
after_source me width sensors r =
    record r {
      progress = record {
        hearing = r.hearing;
        tree = Some (tree_of r.control.active me width (word_to_send sensors r.held) nothing_received);
        decided = None;
        worked = None;
        closed = None;
      };
    }

-- these items arrived in a round from a channel, beside what was received before
abbrev pub after_exchange : Received → ℕ → Channel → List ItemValue → RunningValue → RunningValue
after_exchange received round from items r =
    record r {
      progress = record r.progress { tree = option_map (tree_for (with_items round from items received)) r.tree };
    }

-- what is kept of a decision
abbrev pub kept_of : DecisionValue → List ℤ → DecidedValue
kept_of d inputs = record { judged = d.judged; removed = d.removed; inputs = inputs }

-- the control has the counts and the transfer that were decided
abbrev pub with_decision : RulesValue → ℕ → ℕ → Agreed → RunningValue → RunningValue
with_decision rules c width agreed r =
    let d : DecisionValue = decided_by rules c r.control agreed in
    record {
      held = record r.held { control = control_decided rules c r.control d };
      progress = record r.progress { decided = Some (kept_of d (inputs_of width agreed)) };
    }

abbrev pub decides_by : RulesValue → ℕ → Received → Option ExchangeTreeValue → RunningValue → RunningValue
decides_by rules c received None r = r
decides_by rules c received (Some tree) r = with_decision rules c tree.width (agreed_from received tree) r

-- the channel decides from the words that it resolves
abbrev pub after_decision : RulesValue → ℕ → Received → RunningValue → RunningValue
after_decision rules c received r = decides_by rules c received r.tree r

-- What deciding answers, of the control before it: who is judged, who is removed, the targets that the running transfer
-- loses, whether one starts, and the blocks that this cycle copies.
pub record IsDecision (rules : RulesValue) (c : ℕ) (k : ControlValue) (agreed : Agreed)
    (judged removed dropped : ChannelSet) (started : Bool) (plan : List ℕ) : Type 0 where
  pub judged_are : judged ≡ (decided_by rules c k agreed).judged
  pub removed_are : removed ≡ (decided_by rules c k agreed).removed
  pub dropped_are : dropped ≡ dropped_of k.active agreed c (transfer_in k.sweeping)
  pub started_is : started ≡ has_started c (decided_by rules c k agreed).transfer
  pub plan_is : plan ≡ (decided_by rules c k agreed).planned

-- the blocks that the cycle copies, from its decision to its close
abbrev pub plan_in : RulesValue → HeldValue → List ℕ
plan_in rules h = planned_by rules.sweep h.control.sweeping

-- what the channel's round begins with
abbrev pub origin_by : RulesValue → List WriteValue → ℕ → HeldValue → DecidedValue → Origin
origin_by rules row c h d =
    record { context = h.context; row = row; cycle = c; inputs = d.inputs; plan = plan_in rules h }

-- the writes of the cycle's row are done, and the copies fell as the steps stand
abbrev pub after_steps : RulesValue → List WriteValue → ℕ → List Actor → DecidedValue → RunningValue → RunningValue
after_steps rules row c steps d r =
    record {
      held = record r.held { context = whole row r.context c d.inputs };
      progress = record r.progress {
        worked = Some (record {
          cycle = c;
          steps = steps;
          copies = copies_of_replay (origin_by rules row c r.held d) steps;
        });
      };
    }

-- the channel has worked: its steps are full, in whatever order
pub record HasWorked (rules : RulesValue) (row : List WriteValue) (c : ℕ) (old new : RunningValue) : Type 0 where
  pub decided : DecidedValue
  pub had : old.decided ≡ Some decided
  pub steps : List Actor
  pub full : IsFull (origin_by rules row c old.held decided) steps
  pub state : new ≡ after_steps rules row c steps decided old

-- the words of a context at these places
abbrev pub words_at : List (ℕ × ℕ) → ContextValue → List ℤ
words_at outputs ctx = map (λ o. context_word ctx o.0 o.1) outputs

-- the ballots of a vote, with the channel's own in its place
abbrev pub with_own : Channel → List ℤ → Ballots → Ballots
with_own me own ballots = by_channel (λ j. if j == me then Some own else place_or ballots j None)

-- the vote on each output word
abbrev pub voted_by : Channel → List (ℕ × ℕ) → Ballots → RunningValue → List (Option ℤ)
voted_by me outputs ballots r =
    vote_of r.control.active (length outputs) (with_own me (words_at outputs r.context) ballots)

-- the accusations are kept for the source word of the next cycle
abbrev pub after_votes : Channel → List (ℕ × ℕ) → Ballots → RunningValue → RunningValue
after_votes me outputs ballots r =
    record r {
      held = record r.held {
        accused = accused_of r.control.active (with_own me (words_at outputs r.context) ballots)
            (voted_by me outputs ballots r);
      };
    }

-- the line of the channel in the report
abbrev pub line_by : RulesValue → Channel → List (ℕ × ℕ) → RunningValue → DecidedValue → Ballots → LineValue
line_by rules me outputs r d ballots =
    record {
      channel = me;
      inputs = d.inputs;
      votes = voted_by me outputs ballots r;
      judged = d.judged;
      counts = take rules.channels r.control.counts;
    }

-- the control is that of the next cycle, and what was heard is kept for its source word
abbrev pub after_close : RulesValue → List ℕ → DecidedValue → RunningValue → RunningValue
after_close rules written d r =
    record {
      held = record r.held {
        control = control_closed rules.last d.removed (plan_in rules r.held) written r.control;
        heard = r.hearing;
      };
      progress = record r.progress {
        hearing = no_codes;
        closed = Some (closed_by rules.last (plan_in rules r.held) written r.control);
      };
    }

-- ---- a joining channel

-- a channel that begins to join has an empty replica
abbrev pub new_joiner : ℕ → JoinerValue
new_joiner blocks = record { replica = empty_replica blocks; taken = None }

-- the sweep frames that count fill the replica
abbrev pub after_sweep_frames : ℕ → ℕ → List SweepValue → JoinerValue → JoinerValue
after_sweep_frames blocks c frames j = record j { replica = after_sweep blocks c frames j.replica }

-- a final content is put into the replica, and its control is kept
abbrev pub with_content : Option FinalValue → JoinerValue → JoinerValue
with_content None j = j
with_content (Some content) j =
    record {
      replica = record j.replica { blocks = with_copies content.copies j.replica.blocks };
      taken = Some (control_of_word content.control);
    }

-- the channel takes the content that most final frames have, where it is of its replica's transfer
abbrev pub after_final_frames : List FinalValue → JoinerValue → JoinerValue
after_final_frames frames j = with_content (final_taken frames j.replica) j

-- it runs with the context and the control that it took, and has accused and heard nobody yet
abbrev pub risen : JoinerValue → ControlValue → RunningValue
risen j control =
    record {
      held = record { context = j.replica.blocks; control = control; accused = []; heard = no_codes };
      progress = no_progress;
    }
