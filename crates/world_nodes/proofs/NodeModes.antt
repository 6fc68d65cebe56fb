-- The modes of a node, and what a node of each mode may do.
use Rattle.std.proofs.Common.{◌≡◌, Bool, true, false, Option, Some, None, is_some, option_map, refl, sym, ap, ◌∙◌}
use Rattle.guards_model.specs.declared.Mode.TheVariants as mode
use Rattle.guards_model.specs.Channels.{Channel}
use Rattle.guards_model.specs.Controls.{ControlValue}
use Rattle.guards_model.specs.Missions.{MissionValue}
use Rattle.guards_model.specs.Texts.{LineValue}
use Rattle.guards_model.proofs.BoolTests.{differ}
use Rattle.guards_nodes.specs.NodeStates.{StateValue, running, fallen, resting, returning, RunningValue, JoinerValue, DecidedValue}
use Rattle.guards_nodes.specs.NodeSteps.{risen}
use Rattle.guards_world.specs.SlotSteps.{ended_state}
use Rattle.guards_nodes.specs.WholeLines.{whole_line}
use Rattle.channel_node.specs.Answers.{mode_of_state}
use Rattle.guards_world.specs.NodeLists.{Bodies, ballots_arrived, line_in}

-- ---- a joining node

abbrev pub HasTaken : StateValue → Type 0
HasTaken state = (j : JoinerValue) × (k : ControlValue) × (state ≡ returning j) × (j.taken ≡ Some k)

taken_by : (j : JoinerValue) (b : Bool) (taken : Option ControlValue) → j.taken ≡ taken → b ≡ is_some j.taken →
    b ≡ true → HasTaken (returning j)
taken_by j b None e h t = differ (sym t ∙ h ∙ ap is_some e)
taken_by j b (Some k) e h t = (j, k, refl, e)

-- one of those that took a content has its control
pub may_rise : (state : StateValue) (b : Bool) → mode_of_state state ≡ mode.Joining →
    ((j : JoinerValue) → state ≡ returning j → b ≡ is_some j.taken) → b ≡ true → HasTaken state
may_rise (running r) b m h t = absurd cc
may_rise fallen b m h t = absurd cc
may_rise resting b m h t = absurd cc
may_rise (returning j) b m h t = taken_by j b j.taken refl (h j refl) t

-- it ends the cycle running
pub ended_risen : (on : Bool) (state : StateValue) (j : JoinerValue) (k : ControlValue) → state ≡ returning j →
    j.taken ≡ Some k →
    ended_state on state ≡ running (risen j k)
ended_risen on state j k s t = rw (s, t) refl

stays_by : (on : Bool) (j : JoinerValue) (b : Bool) (taken : Option ControlValue) → j.taken ≡ taken →
    b ≡ is_some j.taken → b ≡ false →
    returning j ≡ ended_state on (returning j)
stays_by on j b None e h f = rw e refl
stays_by on j b (Some k) e h f = differ (sym (ap is_some e) ∙ sym h ∙ f)

-- one of the others stays as it is
pub joiner_stays : (on : Bool) (state : StateValue) (b : Bool) → mode_of_state state ≡ mode.Joining →
    ((j : JoinerValue) → state ≡ returning j → b ≡ is_some j.taken) → b ≡ false → state ≡ ended_state on state
joiner_stays on (running r) b m h f = absurd cc
joiner_stays on fallen b m h f = absurd cc
joiner_stays on resting b m h f = absurd cc
joiner_stays on (returning j) b m h f = stays_by on j b j.taken refl (h j refl) f

-- ---- a running node

-- its line is the one that it answers
pub line_is : (M : MissionValue) (got : Bodies) (me : Channel) (state : StateValue) (line : LineValue) →
    mode_of_state state ≡ mode.Up →
    ((r : RunningValue) → state ≡ running r → (d : DecidedValue) × (r.progress.decided ≡ Some d)) →
    ((r : RunningValue) (d : DecidedValue) → state ≡ running r → r.progress.decided ≡ Some d →
    line ≡ whole_line me M.outputs r d (ballots_arrived got me)) →
    Some line ≡ line_in M got me state
line_is M got me (running r) line m had is =
    let d = had r refl in
    ap Some (is r d.0 refl d.1) ∙ sym (ap (option_map (λ x. whole_line me M.outputs r x (ballots_arrived got me))) d.1)
line_is M got me fallen line m had is = absurd cc
line_is M got me resting line m had is = absurd cc
line_is M got me (returning j) line m had is = absurd cc
