-- The frame that a node owes in each slot, by what it holds and what it received; none where it owes none there.
-- This project's own.
use Rattle.std.specs.Prelude.{ℕ, ◌+◌, List, map, Option, Some, None, option_map, option_and_then, if◌then◌else◌}
use Rattle.guards_model.specs.Channels.{Channel, has, tolerated_faults}
use Rattle.guards_model.specs.Missions.{RulesValue}
use Rattle.guards_model.specs.Frames.{BodyValue, request_body, exchange_body, vote_body, sweep_body, final_body, switch_body, FrameValue, between}
use Rattle.guards_model.specs.OralMessages.{items_owed}
use Rattle.guards_model.specs.Controls.{SweepingValue, ClosedValue, word_of_control}
use Rattle.guards_runs.specs.Due.{copy_from}
use Rattle.guards_nodes.specs.NodeStates.{ExchangeTreeValue, WorkedValue, RunningValue, StateValue, running_or_none, joiner_or_none, NodeValue}
use Rattle.guards_nodes.specs.NodeSteps.{Received, words_at}

-- the frame of a body, from the node in cycle c
abbrev pub framed : NodeValue → ℕ → Option BodyValue → Option FrameValue
framed node c body =
    option_map (λ b. record { version = node.rules.version; sender = node.channel; cycle = c; body = b }) body

-- ---- a joining channel's request

abbrev pub request_of : StateValue → Option BodyValue
request_of state = option_map (λ j. request_body j.replica.have) (joiner_or_none state)

-- ---- a running channel's frames

-- what the member holds, in a round that there is
abbrev pub exchange_in : Received → ℕ → ExchangeTreeValue → Option BodyValue
exchange_in received round tree =
    if between 1 (tolerated_faults tree.active + 1) round
    then Some (exchange_body (record {
      round = round;
      items = items_owed tree.active tree.width tree.me tree.own received round;
    }))
    else None

abbrev pub relay_of : Received → ℕ → StateValue → Option BodyValue
relay_of received round state =
    option_and_then (λ r. option_and_then (exchange_in received round) r.tree) (running_or_none state)

-- the output words
abbrev pub vote_of_outputs : List (ℕ × ℕ) → StateValue → Option BodyValue
vote_of_outputs outputs state = option_map (λ r. vote_body (words_at outputs r.context)) (running_or_none state)

-- the copies of this cycle, to a target of the transfer that runs
abbrev pub sweep_to : Channel → Option SweepingValue → Option WorkedValue → Option BodyValue
sweep_to target (Some s) (Some w) =
    if has s.transfer.targets target
    then Some (sweep_body (record { target = target; start = s.transfer.start; copies = w.copies }))
    else None
sweep_to target _ _ = None

abbrev pub sweep_of : Channel → StateValue → Option BodyValue
sweep_of target state = option_and_then (λ r. sweep_to target r.control.sweeping r.worked) (running_or_none state)

-- the remaining blocks and the control of the next cycle, to a channel that the closed cycle declared joined
abbrev pub final_to : RulesValue → Channel → RunningValue → ClosedValue → Option BodyValue
final_to rules target r closed =
    if has closed.joined target
    then Some (final_body (record {
      target = target;
      start = closed.start;
      copies = map (copy_from r.context) closed.rest;
      control = word_of_control rules r.control;
    }))
    else None

abbrev pub final_of : RulesValue → Channel → StateValue → Option BodyValue
final_of rules target state =
    option_and_then (λ r. option_and_then (final_to rules target r) r.closed) (running_or_none state)

-- the active set of the next cycle
abbrev pub switch_of : StateValue → Option BodyValue
switch_of state = option_map (λ r. switch_body r.control.active) (running_or_none state)
