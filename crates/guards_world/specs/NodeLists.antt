-- What the calls of the world do to each of its nodes. This project's own.
use Rattle.std.specs.Prelude.{◌≡◌, ◌≤◌, ℕ, ◌+◌, Bool, true, false, IsTrue, List, [], ◌∷◌, length, Option, Some, None, option_map, is_some, filter_map, if◌then◌else◌}
use Rattle.std.specs.Option.{option_or}
use Rattle.guards_model.specs.Channels.{Channel, ChannelSet, has, without, every_channel, by_channel, tolerated_faults}
use Rattle.guards_model.specs.Missions.{MissionValue, sensor, written_blocks}
use Rattle.guards_model.specs.Frames.{BodyValue, exchange_body, ExchangeValue, ItemValue, SweepValue, FinalValue, body_in_range}
use Rattle.guards_model.specs.Network.{have_of, items_of, ballot_of}
use Rattle.guards_model.specs.Voting.{Ballots}
use Rattle.guards_model.specs.Controls.{ClosedValue, closed_by}
use Rattle.guards_model.specs.Replicas.{sweep_content, final_content, final_taken}
use Rattle.guards_model.specs.Texts.{LineValue}
use Rattle.guards_nodes.specs.NodeStates.{StateValue, running, fallen, resting, returning, RunningValue, ExchangeTreeValue, DecidedValue, JoinerValue, NodeValue, running_or_none}
use Rattle.guards_nodes.specs.NodeSteps.{Received, StandsFor, tree_for, after_source, after_decision, after_votes, after_close, plan_in, after_sweep_frames, after_final_frames}
use Rattle.guards_nodes.specs.NodeCalls.{in_state, changed, rejoined}
use Rattle.guards_world.specs.SlotSteps.{after_damages, joiner_if, after_requests, with_round, ended_state}
use Rattle.guards_nodes.specs.WholeLines.{whole_line}

-- ---- the start of a cycle

-- A node of the mission: it has the mission's rules, and where it runs it is one of its active channels, of which there
-- are three at least.
pub record MayOpen (M : MissionValue) (node : NodeValue) : Type 0 where
  pub rules : M.rules ≡ node.rules
  pub mine : (r : RunningValue) → node.state ≡ running r → IsTrue (has r.control.active node.channel)
  pub some : (r : RunningValue) → node.state ≡ running r → 3 ≤ length r.control.active

-- in cycle c a running channel is damaged as the script says, and sends its source word; another one begins to join, or
-- not
abbrev pub opened_in : MissionValue → ℕ → Bool → Channel → StateValue → StateValue
opened_in M c begins q (running r) = running (after_source q M.width (sensor M q c) (after_damages M.script q c r))
opened_in M c begins q fallen = joiner_if M.rules.blocks begins fallen
opened_in M c begins q resting = joiner_if M.rules.blocks begins resting
opened_in M c begins q (returning j) = returning j

abbrev pub opened_node : MissionValue → ℕ → Bool → NodeValue → NodeValue
opened_node M c begins node = in_state (opened_in M c begins node.channel node.state) node

-- the node where these channels begin to join
abbrev pub opened_with : MissionValue → ℕ → ChannelSet → NodeValue → NodeValue
opened_with M c joining node = opened_node M c (has joining node.channel) node

-- ---- the crashes of a slot

abbrev pub fallen_if : ChannelSet → NodeValue → NodeValue
fallen_if down node = if has down node.channel then in_state fallen node else node

-- ---- what arrived

-- the body that counts of what arrived from a channel at a receiver, if any
abbrev pub Bodies : Type 0
Bodies = Channel → ℕ → Option BodyValue

-- a running channel hears the requests that arrived at it
abbrev pub with_requests : Bodies → NodeValue → NodeValue
with_requests got node = changed (after_requests (λ j. have_of (got j node.channel)) every_channel) node

-- ---- a round of the exchange

-- what each member received in the rounds that are done
abbrev pub AllReceived : Type 0
AllReceived = Channel → Received

-- the exchanges of these channels are received in a round, one after the other
abbrev pub after_exchanges : ℕ → (Channel → List ItemValue) → Received → ChannelSet → RunningValue → RunningValue
after_exchanges round items received senders r =
    record r {
      progress = record r.progress { tree = option_map (tree_for (with_round round items senders received)) r.tree };
    }

-- a running channel of these members receives the exchanges of the others that arrived at it in a round
abbrev pub with_exchanges : ℕ → ChannelSet → Bodies → AllReceived → NodeValue → NodeValue
with_exchanges round members got received node =
    changed (after_exchanges round (λ j. items_of (got j node.channel)) (received node.channel)
    (without members (node.channel ∷ []))) node

-- the exchanges that arrived are of this round
abbrev pub AreOfRound : ℕ → Bodies → Type 0
AreOfRound round got = (j q : ℕ) (x : ExchangeValue) → got j q ≡ Some (exchange_body x) → x.round ≡ round

-- nothing of a round was received of these channels
abbrev pub IsNewOf : ℕ → ChannelSet → Received → Type 0
IsNewOf round senders received = (j : Channel) → has senders j ≡ true → received round j ≡ []

-- what a running node holds in the exchange
abbrev pub tree_in : StateValue → Option ExchangeTreeValue
tree_in (running r) = r.progress.tree
tree_in fallen = None
tree_in resting = None
tree_in (returning j) = None

-- A node stands for what it received, which has nothing of a round and these senders yet; the others are other members
-- of its exchange, and there is such a round.
pub record MayTake (round : ℕ) (others senders : ChannelSet) (received : Received) (node : NodeValue) : Type 0 where
  pub stands : StandsFor node.state received
  pub fresh : IsNewOf round senders received
  pub member : (t : ExchangeTreeValue) (j : Channel) → tree_in node.state ≡ Some t → has others j ≡ true →
      has t.active j ≡ true
  pub another : (t : ExchangeTreeValue) → tree_in node.state ≡ Some t → has others t.me ≡ false
  pub high : (t : ExchangeTreeValue) → tree_in node.state ≡ Some t → round ≤ tolerated_faults t.active + 1

-- the same for the exchange among these members
pub record MayReceive (round : ℕ) (members : ChannelSet) (received : AllReceived) (node : NodeValue) : Type 0 where
  pub stands : StandsFor node.state (received node.channel)
  pub fresh : (j : Channel) → received node.channel round j ≡ []
  pub members_are : (t : ExchangeTreeValue) → tree_in node.state ≡ Some t → t.active ≡ members
  pub me_is : (t : ExchangeTreeValue) → tree_in node.state ≡ Some t → t.me ≡ node.channel
  pub high : (t : ExchangeTreeValue) → tree_in node.state ≡ Some t → round ≤ tolerated_faults t.active + 1

-- a node stands for what it received
pub record StandsForReceived (received : AllReceived) (node : NodeValue) : Type 0 where
  pub stands : StandsFor node.state (received node.channel)

-- ---- the decision

abbrev pub with_decisions : MissionValue → ℕ → AllReceived → NodeValue → NodeValue
with_decisions M c received node = changed (after_decision M.rules c (received node.channel)) node

-- whom a running node keeps as removed, where it has decided
abbrev pub removed_in : StateValue → Option ChannelSet
removed_in (running r) = option_map (λ d. d.removed) r.progress.decided
removed_in fallen = None
removed_in resting = None
removed_in (returning j) = None

-- the first of these sets
abbrev pub first_removed : List NodeValue → Option ChannelSet
first_removed [] = None
first_removed (node ∷ nodes) = option_or (removed_in node.state) (first_removed nodes)

-- the first node that runs
abbrev pub lowest_running : List NodeValue → Option RunningValue
lowest_running [] = None
lowest_running (node ∷ nodes) = option_or (running_or_none node.state) (lowest_running nodes)

-- a running node of the mission has begun the exchange
pub record MayDecide (M : MissionValue) (node : NodeValue) : Type 0 where
  pub rules : M.rules ≡ node.rules
  pub begun : (r : RunningValue) → node.state ≡ running r → (t : ExchangeTreeValue) × (r.progress.tree ≡ Some t)

-- ---- the votes

-- the ballots that arrived at a channel
abbrev pub ballots_arrived : Bodies → Channel → Ballots
ballots_arrived got me = by_channel (λ j. ballot_of (got j me))

abbrev pub with_votes : MissionValue → Bodies → NodeValue → NodeValue
with_votes M got node = changed (after_votes node.channel M.outputs (ballots_arrived got node.channel)) node

-- the line of a running node that has decided
abbrev pub line_in : MissionValue → Bodies → Channel → StateValue → Option LineValue
line_in M got me (running r) = option_map (λ d. whole_line me M.outputs r d (ballots_arrived got me)) r.progress.decided
line_in M got me fallen = None
line_in M got me resting = None
line_in M got me (returning j) = None

abbrev pub vote_line : MissionValue → Bodies → NodeValue → Option LineValue
vote_line M got node = line_in M got node.channel node.state

-- a running node of the mission has decided, and may take part in the vote and in the close
pub record HasDecision (M : MissionValue) (node : NodeValue) : Type 0 where
  pub rules : M.rules ≡ node.rules
  pub had : (r : RunningValue) → node.state ≡ running r → (d : DecidedValue) × (r.progress.decided ≡ Some d)

-- ---- the sweep frames and the close

-- what arrived at a channel of the frames of the members that the transfer fills it by
abbrev pub sweeps_of : ChannelSet → Bodies → Channel → List SweepValue
sweeps_of members got me = filter_map (λ j. sweep_content (got j me)) members

-- a joining channel takes the sweep frames that arrived at it
abbrev pub with_sweeps : ℕ → ChannelSet → Bodies → NodeValue → NodeValue
with_sweeps c members got node =
    rejoined (after_sweep_frames node.rules.blocks c (sweeps_of members got node.channel)) node

-- a running channel that has decided closes the cycle
abbrev pub closed_from : MissionValue → ℕ → Option DecidedValue → RunningValue → RunningValue
closed_from M c None r = r
closed_from M c (Some d) r = after_close M.rules (written_blocks M c) d r

abbrev pub closed_in : MissionValue → ℕ → NodeValue → NodeValue
closed_in M c node = changed (λ r. closed_from M c r.progress.decided r) node

-- what it answers, where the node runs
abbrev pub closing_of : MissionValue → ℕ → StateValue → Option ClosedValue
closing_of M c (running r) = Some (closed_by M.rules.last (plan_in M.rules r.held) (written_blocks M c) r.held.control)
closing_of M c fallen = None
closing_of M c resting = None
closing_of M c (returning j) = None

-- the first answer
abbrev pub first_closing : MissionValue → ℕ → List NodeValue → Option ClosedValue
first_closing M c [] = None
first_closing M c (node ∷ nodes) = option_or (closing_of M c node.state) (first_closing M c nodes)

-- ---- the final frames and the end

abbrev pub finals_of : ChannelSet → Bodies → Channel → List FinalValue
finals_of members got me = filter_map (λ j. final_content (got j me)) members

-- a joining channel takes the content of the final frames that arrived at it
abbrev pub with_finals : ChannelSet → Bodies → NodeValue → NodeValue
with_finals members got node = rejoined (after_final_frames (finals_of members got node.channel)) node

-- whether a node takes a content
abbrev pub takes_in : List FinalValue → StateValue → Bool
takes_in frames (returning j) = is_some (final_taken frames j.replica)
takes_in frames (running r) = false
takes_in frames fallen = false
takes_in frames resting = false

abbrev pub takes : ChannelSet → Bodies → NodeValue → Bool
takes members got node = takes_in (finals_of members got node.channel) node.state

-- the frames that arrived are in range of some version
abbrev pub AreInRange : Bodies → Type 0
AreInRange got = (j q : ℕ) (body : BodyValue) → got j q ≡ Some body →
    (version : ℕ) × (body_in_range version j body ≡ true)

-- a running channel that is switched off rests, and a joining one that took a content runs with it
abbrev pub ended_on : ChannelSet → NodeValue → NodeValue
ended_on on node = in_state (ended_state (has on node.channel) node.state) node

-- the set has the joining channels that took a content, and of these no others
pub record TookContent (taken : ChannelSet) (node : NodeValue) : Type 0 where
  pub took : (j : JoinerValue) → node.state ≡ returning j → has taken node.channel ≡ is_some j.taken
