-- The nodes of each slot.
use Rattle.std.proofs.Common.{◌≡◌, ℕ, ◌<◌, true, cond, not, ◌&&◌, List, Option, map, filter_map, length, refl, sym, ap, ◌∙◌}
use Rattle.std.proofs.Math.Path.{fun_ext}
use Rattle.guards_model.specs.declared.Slot.{Slot}
use Rattle.guards_model.specs.declared.Slot.TheVariants.{Request, Round1, Sweep, Final, Switch}
use Rattle.guards_model.specs.Slots.{up_to, on_bus, stage_after, stage_before}
use Rattle.guards_model.specs.Channels.{Channel, ChannelSet, has, every_channel}
use Rattle.guards_model.specs.Missions.{MissionValue, IsMission, channels_of}
use Rattle.guards_model.specs.Modes.{down}
use Rattle.guards_model.specs.Frames.{SweepValue, FinalValue}
use Rattle.guards_model.specs.Network.{Log, have_of}
use Rattle.guards_model.specs.Rounds.{Steps}
use Rattle.guards_model.specs.Ledgers.{is_down, mode_of, turned_down}
use Rattle.guards_model.specs.Replicas.{sweep_content, final_content}
use Rattle.guards_model.proofs.Tables.{has-channels_where, at-by_channel}
use Rattle.guards_runs.specs.Cycles.{Past, Cycle, received_body, cycles_before, cycle_at, mode_in}
use Rattle.guards_laws.proofs.LogGrows.{length-cycles_before}
use Rattle.guards_laws.proofs.ControlFacts.{controls_follow}
use Rattle.guards_nodes.specs.NodeStates.{NodeValue, StateValue, fallen, RunningValue}
use Rattle.guards_nodes.specs.NodeSteps.{after_sweep_frames, after_final_frames}
use Rattle.guards_nodes.specs.NodeCalls.{in_state, on_running}
use Rattle.guards_world.specs.NodeFacts.{node_with, running_value_in, joiner_in, state_in}
use Rattle.guards_world.specs.SlotSteps.{after_requests, ended_state}
use Rattle.guards_world.specs.InCycle.{node_in, ledger_in}
use Rattle.node_laws.proofs.Ending.{falls}
use Rattle.node_laws.proofs.Hearing.{hears}
use Rattle.node_laws.proofs.NodeStepped.{closes, stands_at_final, stands_at_switch}
use Rattle.guards_world.specs.NodeLists.{Bodies, fallen_if, with_requests, with_sweeps, closed_from, closed_in, with_finals, ended_on}
use Rattle.guards_world.specs.Arrivals.{AreArrivals, nodes_in}
use Rattle.node_laws.proofs.EachNode.{each_node, same_nodes, running_step, returning_step, same_parts, is_fallen, crashed_by}

module _ (M : MissionValue) (L : Log) (n : ℕ) (steps : Steps) where
  abbrev past : Past
  past = cycles_before M L n

  abbrev e : Cycle
  e = cycle_at M L n

  size : length past ≡ n
  size = length-cycles_before M L n

  -- what arrived, with the number of the cycle as the past has it
  arrived : (slot : Slot) (got : Bodies) → AreArrivals M L n slot got → (j : Channel) (to : ℕ) →
      got j to ≡ received_body M e.entries (length past) slot j to
  arrived slot got are j to = are j to ∙ ap (λ c. received_body M e.entries c slot j to) (sym size)

  -- ---- requests

  heard : (got : Bodies) → AreArrivals M L n Request got → (q : Channel) → q < 7 →
      with_requests got (node_in M L n steps Request (stage_before Request) q)
      ≡ node_in M L n steps Request (stage_after Request) q
  unfolding state_in
  heard got are q low =
      let same = ap (λ (from : Channel → Option (Option ℕ)).
      after_requests from every_channel (running_value_in M past e steps (stage_before Request) q))
      (fun_ext (λ j. ap have_of (arrived Request got are j q))) in
      ap (node_with M q)
      (running_step (after_requests (λ j. have_of (got j q)) every_channel)
      (running_value_in M past e steps (stage_before Request) q)
      (running_value_in M past e steps (stage_before Round1) q)
      (joiner_in M past e (stage_before Request) q) (joiner_in M past e (stage_before Round1) q) (mode_in e q Request)
      (same ∙ hears M L past steps q low) refl)

  pub all_heard : (got : Bodies) → IsMission M → AreArrivals M L n Request got →
      map (with_requests got) (nodes_in M L n steps Request (stage_before Request))
      ≡ nodes_in M L n steps Request (stage_after Request)
  all_heard got mission are =
      each_node M (with_requests got) (node_in M L n steps Request (stage_before Request))
      (node_in M L n steps Request (stage_after Request)) mission (heard got are)

  -- ---- sweep frames

  swept : (got : Bodies) → AreArrivals M L n Sweep got → (q : Channel) → q < 7 →
      closed_in M n (with_sweeps n e.active got (node_in M L n steps Sweep (stage_before Sweep) q))
      ≡ node_in M L n steps Sweep (stage_after Sweep) q
  unfolding state_in
  swept got are q low =
      let frames = ap (λ (f : Channel → Option SweepValue). filter_map f e.active)
      (fun_ext (λ j. ap sweep_content (arrived Sweep got are j q))) in
      let fill : after_sweep_frames M.rules.blocks n (filter_map (λ j. sweep_content (got j q)) e.active)
      (joiner_in M past e (stage_before Sweep) q) ≡ joiner_in M past e (stage_before Final) q =
      ap (λ (c : ℕ). after_sweep_frames M.rules.blocks c (filter_map (λ j. sweep_content (got j q)) e.active)
      (joiner_in M past e (stage_before Sweep) q)) (sym size)
      ∙ ap (λ (fs : List SweepValue).
      after_sweep_frames M.rules.blocks (length past) fs (joiner_in M past e (stage_before Sweep) q)) frames in
      let filled = returning_step
      (after_sweep_frames M.rules.blocks n (filter_map (λ j. sweep_content (got j q)) e.active))
      (running_value_in M past e steps (stage_before Sweep) q) (running_value_in M past e steps (stage_before Sweep) q)
      (joiner_in M past e (stage_before Sweep) q) (joiner_in M past e (stage_before Final) q) (mode_in e q Sweep)
      refl fill in
      let close : RunningValue → RunningValue = λ r. closed_from M n r.progress.decided r in
      let shut : close (running_value_in M past e steps (stage_before Sweep) q)
      ≡ running_value_in M past e steps (stage_before Final) q =
      ap (λ (c : ℕ). closed_from M c (running_value_in M past e steps (stage_before Sweep) q).progress.decided
      (running_value_in M past e steps (stage_before Sweep) q)) (sym size)
      ∙ closes M L past steps q (controls_follow M L n) in
      ap (λ (state : StateValue). node_with M q (on_running close state)) filled
      ∙ ap (node_with M q) (running_step close (running_value_in M past e steps (stage_before Sweep) q)
      (running_value_in M past e steps (stage_before Final) q) (joiner_in M past e (stage_before Final) q)
      (joiner_in M past e (stage_before Final) q) (mode_in e q Sweep) shut refl)

  -- ---- final frames

  filled_up : (got : Bodies) → AreArrivals M L n Final got → (q : Channel) → q < 7 →
      with_finals e.active got (node_in M L n steps Final (stage_before Final) q)
      ≡ node_in M L n steps Final (stage_after Final) q
  unfolding state_in
  filled_up got are q low =
      let frames = ap (λ (f : Channel → Option FinalValue). filter_map f e.active)
      (fun_ext (λ j. ap final_content (arrived Final got are j q))) in
      ap (node_with M q)
      (returning_step (after_final_frames (filter_map (λ j. final_content (got j q)) e.active))
      (running_value_in M past e steps (stage_before Final) q) (running_value_in M past e steps (stage_before Switch) q)
      (joiner_in M past e (stage_before Final) q) (joiner_in M past e (stage_before Switch) q) (mode_in e q Final)
      (stands_at_final M L past steps q (controls_follow M L n))
      (ap (λ (fs : List FinalValue). after_final_frames fs (joiner_in M past e (stage_before Final) q)) frames))

  pub all_filled : (got : Bodies) → IsMission M → AreArrivals M L n Final got →
      map (with_finals e.active got) (nodes_in M L n steps Final (stage_before Final))
      ≡ nodes_in M L n steps Final (stage_after Final)
  all_filled got mission are =
      each_node M (with_finals e.active got) (node_in M L n steps Final (stage_before Final))
      (node_in M L n steps Final (stage_after Final)) mission (filled_up got are)

  -- ---- the switch slot

  switched : (q : Channel) → q < 7 →
      node_in M L n steps Switch (stage_before Switch) q ≡ node_in M L n steps Switch (stage_after Switch) q
  unfolding state_in
  switched q low =
      ap (node_with M q)
      (same_parts (running_value_in M past e steps (stage_before Switch) q)
      (running_value_in M past e steps (stage_after Switch) q) (joiner_in M past e (stage_before Switch) q)
      (joiner_in M past e (stage_after Switch) q) (mode_in e q Switch)
      (stands_at_switch M L past steps q (controls_follow M L n)) refl)

  pub all_switched : IsMission M →
      nodes_in M L n steps Switch (stage_before Switch) ≡ nodes_in M L n steps Switch (stage_after Switch)
  all_switched mission = same_nodes M (node_in M L n steps Switch (stage_before Switch))
      (node_in M L n steps Switch (stage_after Switch)) mission switched

  pub all_swept : (got : Bodies) → IsMission M → AreArrivals M L n Sweep got →
      map (closed_in M n) (map (with_sweeps n e.active got) (nodes_in M L n steps Sweep (stage_before Sweep)))
      ≡ nodes_in M L n steps Sweep (stage_after Sweep)
  all_swept got mission are =
      let filled : Channel → NodeValue =
      λ q. with_sweeps n e.active got (node_in M L n steps Sweep (stage_before Sweep) q) in
      ap (map (closed_in M n)) (each_node M (with_sweeps n e.active got)
      (node_in M L n steps Sweep (stage_before Sweep)) filled mission (λ q low. refl))
      ∙ each_node M (closed_in M n) filled (node_in M L n steps Sweep (stage_after Sweep)) mission (swept got are)

  -- ---- the cycle's end

  pub all_ended : (on : ChannelSet) → IsMission M →
      map (ended_on on) (nodes_in M L n steps Switch (stage_after Switch))
      ≡ map (λ q. node_with M q (ended_state (has on q) (state_in M past e steps Switch (stage_after Switch) q)))
      (channels_of M)
  all_ended on mission =
      each_node M (ended_on on) (node_in M L n steps Switch (stage_after Switch))
      (λ q. node_with M q (ended_state (has on q) (state_in M past e steps Switch (stage_after Switch) q))) mission
      (λ q low. refl)

  -- ---- crashes

  fell : (before slot : Slot) (handed : ℕ) → up_to before slot ≡ true → on_bus slot ≡ true → (q : Channel) → q < 7 →
      fallen_if (turned_down (ledger_in M e before) (ledger_in M e slot)) (node_in M L n steps before handed q)
      ≡ node_in M L n steps slot handed q
  unfolding state_in
  fell before slot handed soon on q low =
      let A = ledger_in M e before in
      let B = ledger_in M e slot in
      let node : NodeValue = node_in M L n steps before handed q in
      let there : has (turned_down A B) q ≡ (is_down (mode_in e q slot) && not (is_down (mode_in e q before))) =
      has-channels_where (λ p. is_down (mode_of B p) && not (is_down (mode_of A p))) q low
      ∙ ap (λ m. is_down m && not (is_down (mode_of A q))) (at-by_channel (λ p. mode_in e p slot) q down low)
      ∙ ap (λ m. is_down (mode_in e q slot) && not (is_down m)) (at-by_channel (λ p. mode_in e p before) q down low) in
      ap (λ b. cond b (in_state fallen node) node) there
      ∙ crashed_by M q (is_down (mode_in e q slot)) (is_down (mode_in e q before))
      (state_in M past e steps before handed q)
      (is_fallen (running_value_in M past e steps handed q) (joiner_in M past e handed q) (mode_in e q before))
      ∙ ap (node_with M q) (sym (falls M L past steps q low before slot handed soon on))

  pub all_fell : (before slot : Slot) (handed : ℕ) → IsMission M → up_to before slot ≡ true → on_bus slot ≡ true →
      map (fallen_if (turned_down (ledger_in M e before) (ledger_in M e slot))) (nodes_in M L n steps before handed)
      ≡ nodes_in M L n steps slot handed
  all_fell before slot handed mission soon on =
      each_node M (fallen_if (turned_down (ledger_in M e before) (ledger_in M e slot)))
      (node_in M L n steps before handed) (node_in M L n steps slot handed) mission
      (fell before slot handed soon on)
