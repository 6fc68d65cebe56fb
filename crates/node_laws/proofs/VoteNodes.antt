-- The nodes of the vote slot.
use Rattle.std.proofs.Common.{◌≡◌, ℕ, ◌<◌, None, map, length, refl, sym, ap, ◌∙◌}
use Rattle.guards_model.specs.declared.Slot.TheVariants.{Vote, Sweep}
use Rattle.guards_model.specs.Channels.{Channel}
use Rattle.guards_model.specs.Missions.{MissionValue, IsMission}
use Rattle.guards_model.specs.Network.{Log, ballot_of}
use Rattle.guards_model.specs.Rounds.{Steps}
use Rattle.guards_model.proofs.Tables.{at-by_channel}
use Rattle.guards_model.specs.Slots.{stage_after, stage_before}
use Rattle.guards_runs.specs.Cycles.{Past, Cycle, received_body, cycles_before, cycle_at, mode_in}
use Rattle.guards_laws.proofs.LogGrows.{length-cycles_before}
use Rattle.guards_laws.proofs.ControlFacts.{controls_follow}
use Rattle.guards_nodes.specs.NodeSteps.{after_votes}
use Rattle.guards_world.specs.NodeFacts.{node_with, running_value_in, joiner_in, state_in}
use Rattle.guards_world.specs.InCycle.{node_in}
use Rattle.node_laws.proofs.Opening.{active_in}
use Rattle.node_laws.proofs.NodeStepped.{votes}
use Rattle.guards_world.specs.NodeLists.{Bodies, ballots_arrived, with_votes}
use Rattle.guards_world.specs.Arrivals.{AreArrivals, nodes_in, HaveWorked}
use Rattle.node_laws.proofs.EachNode.{each_node}
use Rattle.node_laws.proofs.RoundNodes.{running_step_up}

module _ (M : MissionValue) (L : Log) (n : ℕ) (steps : Steps) (mission : IsMission M) where
  abbrev past : Past
  past = cycles_before M L n

  abbrev e : Cycle
  e = cycle_at M L n

  size : length past ≡ n
  size = length-cycles_before M L n

  voted : (got : Bodies) → AreArrivals M L n Vote got → HaveWorked M L n → (q : Channel) → q < 7 →
      with_votes M got (node_in M L n steps Vote (stage_before Vote) q) ≡ node_in M L n steps Vote (stage_after Vote) q
  unfolding state_in
  voted got are worked q low =
      ap (node_with M q)
      (running_step_up (after_votes q M.outputs (ballots_arrived got q))
      (running_value_in M past e steps (stage_before Vote) q) (running_value_in M past e steps (stage_before Sweep) q)
      (joiner_in M past e (stage_before Vote) q) (joiner_in M past e (stage_before Sweep) q) (mode_in e q Vote)
      (λ is. let held = worked q low is in
      votes M L past steps q (controls_follow M L n) low (active_in M L n mission q low Vote is) held.0 held.1
      (ballots_arrived got q)
      (λ j small other. at-by_channel (λ p. ballot_of (got p q)) j None small
      ∙ ap ballot_of (are j q ∙ ap (λ c. received_body M e.entries c Vote j q) (sym size))))
      refl)

  pub all_voted : (got : Bodies) → AreArrivals M L n Vote got → HaveWorked M L n →
      map (with_votes M got) (nodes_in M L n steps Vote (stage_before Vote))
      ≡ nodes_in M L n steps Vote (stage_after Vote)
  all_voted got are worked =
      each_node M (with_votes M got) (node_in M L n steps Vote (stage_before Vote))
      (node_in M L n steps Vote (stage_after Vote)) mission (voted got are worked)
