-- What the calls that the world makes in one slot do to a node. This project's own.
use Rattle.std.specs.Prelude.{ℕ, Bool, not, ◌&&◌, ◌==◌, List, [], ◌∷◌, Option, Some, None, if◌then◌else◌}
use Rattle.guards_model.specs.Channels.{Channel}
use Rattle.guards_model.specs.Faults.{FaultValue, crash, restart, damage, bus}
use Rattle.guards_model.specs.Modes.{is_joining}
use Rattle.guards_model.specs.Missions.{MissionValue, sensor}
use Rattle.guards_model.specs.Frames.{ItemValue}
use Rattle.guards_model.specs.Controls.{ControlValue}
use Rattle.guards_runs.specs.Cycles.{Past, this_cycle, mode_after}
use Rattle.guards_nodes.specs.NodeStates.{RunningValue, JoinerValue, StateValue, running, fallen, resting, returning}
use Rattle.guards_nodes.specs.NodeSteps.{Received, with_items, with_damage, after_request, after_source, new_joiner, risen}
use Rattle.guards_world.specs.NodeFacts.{mode_at_opening}

-- ---- the opening

-- the damages of a channel and a cycle, in the script's order
abbrev pub after_damages : List FaultValue → Channel → ℕ → RunningValue → RunningValue
after_damages [] q c r = r
after_damages (damage p d block word value ∷ script) q c r =
    after_damages script q c (if p == q && d == c then with_damage block word value r else r)
after_damages (crash p d slot ∷ script) q c r = after_damages script q c r
after_damages (restart p d ∷ script) q c r = after_damages script q c r
after_damages (bus rule ∷ script) q c r = after_damages script q c r

-- whether a channel begins to join at the start of the cycle after the past
abbrev pub begins_to_join : MissionValue → Past → Channel → Bool
begins_to_join M past q = is_joining (mode_at_opening M past q) && not (is_joining (mode_after M past q))

abbrev pub joiner_if : ℕ → Bool → StateValue → StateValue
joiner_if blocks begins state = if begins then returning (new_joiner blocks) else state

-- a running channel is damaged as the script says, and sends its source word; another one may begin to join
abbrev pub opened_state : MissionValue → Past → Channel → StateValue → StateValue
opened_state M past q (running r) =
    running (after_source q M.width (sensor M q (this_cycle past)) (after_damages M.script q (this_cycle past) r))
opened_state M past q fallen = joiner_if M.rules.blocks (begins_to_join M past q) fallen
opened_state M past q resting = joiner_if M.rules.blocks (begins_to_join M past q) resting
opened_state M past q (returning j) = returning j

-- ---- the request slot

-- a request is heard where one counts
abbrev pub heard_if : Option (Option ℕ) → Channel → RunningValue → RunningValue
heard_if None from r = r
heard_if (Some have) from r = after_request from have r

-- the requests of some channels, in their order
abbrev pub after_requests : (Channel → Option (Option ℕ)) → List Channel → RunningValue → RunningValue
after_requests got [] r = r
after_requests got (j ∷ js) r = after_requests got js (heard_if (got j) j r)

-- ---- a round

-- what was received with the items of some channels in a round, in their order
abbrev pub with_round : ℕ → (Channel → List ItemValue) → List Channel → Received → Received
with_round round items [] received = received
with_round round items (j ∷ js) received = with_round round items js (with_items round j (items j) received)

-- ---- the end

-- a joining channel that took a final content runs with it
abbrev pub risen_if : Option ControlValue → JoinerValue → StateValue
risen_if None j = returning j
risen_if (Some control) j = running (risen j control)

-- a running channel that is switched off rests
abbrev pub ended_state : Bool → StateValue → StateValue
ended_state on (running r) = if on then running r else resting
ended_state on fallen = fallen
ended_state on resting = resting
ended_state on (returning j) = risen_if j.taken j
