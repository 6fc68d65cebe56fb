-- The nodes of the rounds of the exchange, and of the decision.
use Rattle.std.proofs.Common.{◌≡◌, ℕ, suc, ◌<◌, ◌≤◌, true, false, not, List, [], ◌∷◌, Some, map, length, refl, sym, ap, ◌∙◌, arith}
use Rattle.std.specs.List.{list_all}
use Rattle.std.proofs.lemmas.Bool.{leb-true}
use Rattle.guards_model.specs.declared.Slot.{Slot}
use Rattle.guards_model.specs.declared.Slot.TheVariants.{Round1, Round2, Round3, Tasks}
use Rattle.guards_model.specs.Channels.{Channel, ChannelSet, has, without}
use Rattle.guards_model.specs.Missions.{MissionValue, IsMission}
use Rattle.guards_model.specs.Frames.{ItemValue, is_channel, is_set}
use Rattle.guards_model.specs.Modes.{ModeValue, up, down, waiting, joining}
use Rattle.guards_model.specs.Network.{Log, items_of}
use Rattle.guards_model.specs.Rounds.{Steps}
use Rattle.guards_model.proofs.BoolTests.{both}
use Rattle.guards_model.proofs.AscendingLists.{set_parts}
use Rattle.guards_model.proofs.ListTests.{all-filter}
use Rattle.guards_model.proofs.Tables.{at-by_channel}
use Rattle.guards_model.specs.Slots.{stage_after, stage_before}
use Rattle.guards_runs.specs.Cycles.{Past, Cycle, received_body, received_items, items_in, source_word, cycles_before, cycle_at, mode_in}
use Rattle.guards_runs.specs.Due.{is_round}
use Rattle.guards_runs.specs.Promises.{DecidesAlike}
use Rattle.guards_laws.proofs.CycleParts.{active-is}
use Rattle.guards_laws.proofs.LogGrows.{length-cycles_before}
use Rattle.guards_laws.proofs.ControlFacts.{controls_follow}
use Rattle.guards_laws.proofs.WithinChannels.{active_is_set}
use Rattle.guards_nodes.specs.NodeStates.{NodeValue, StateValue, running, returning, RunningValue, JoinerValue}
use Rattle.guards_nodes.specs.NodeSteps.{Received, tree_of, with_items, after_decision}
use Rattle.guards_nodes.specs.NodeCalls.{on_running}
use Rattle.guards_world.specs.NodeFacts.{node_with, state_of_mode, held_in, progress_in, running_value_in, joiner_in, received_through, state_in}
use Rattle.guards_world.specs.SlotSteps.{with_round}
use Rattle.guards_world.specs.InCycle.{node_in}
use Rattle.node_laws.proofs.Hearing.{receives, none_received}
use Rattle.node_laws.proofs.NodeStepped.{decides}
use Rattle.guards_world.specs.NodeLists.{Bodies, after_exchanges, with_exchanges, with_decisions}
use Rattle.guards_world.specs.Arrivals.{AreArrivals, nodes_in}
use Rattle.node_laws.proofs.EachNode.{each_node, same_nodes, running_step, same_parts}

with_round_same : (round : ℕ) (f g : Channel → List ItemValue) (js : ChannelSet) (received : Received) →
    list_all is_channel js ≡ true →
    ((j : Channel) → j < 7 → f j ≡ g j) → with_round round f js received ≡ with_round round g js received
with_round_same round f g [] received low same = refl
with_round_same round f g (j ∷ js) received low same =
    let parts = both (is_channel j) (list_all is_channel js) low in
    ap (λ (xs : List ItemValue). with_round round f js (with_items round j xs received))
    (same j (leb-true (suc j) 7 parts.0))
    ∙ with_round_same round f g js (with_items round j (g j) received) parts.1 same

-- a step of the running part, known where it runs
pub running_step_up : (f : RunningValue → RunningValue) (r s : RunningValue) (j k : JoinerValue) (mode : ModeValue) →
    (mode ≡ up → f r ≡ s) → j ≡ k →
    on_running f (state_of_mode r j mode) ≡ state_of_mode s k mode
running_step_up f r s j k up h i = ap running (h refl)
running_step_up f r s j k down h i = refl
running_step_up f r s j k (waiting n) h i = refl
running_step_up f r s j k joining h i = ap returning i

module _ (M : MissionValue) (L : Log) (n : ℕ) (steps : Steps) (mission : IsMission M) where
  abbrev past : Past
  past = cycles_before M L n

  abbrev e : Cycle
  e = cycle_at M L n

  size : length past ≡ n
  size = length-cycles_before M L n

  others_low : (q : Channel) → list_all is_channel (without e.active (q ∷ [])) ≡ true
  others_low q = all-filter is_channel (λ p. not (has (q ∷ []) p)) e.active
      (set_parts e.active (ap is_set (active-is M L past) ∙ active_is_set M past mission)).0

  -- with the exchanges that arrived, it received what the facts say
  exchanged : (round : ℕ) (slot : Slot) (got : Bodies) → AreArrivals M L n slot got → (q : Channel) →
      ((j : Channel) → j < 7 → items_in (received_items M e.entries (length past) q) round j
      ≡ items_of (received_body M e.entries (length past) slot j q)) →
      1 ≤ round → is_round e round ≡ true →
      with_round round (λ j. items_of (got j q)) (without e.active (q ∷ [])) (received_through M past e round q)
      ≡ received_through M past e (suc round) q
  exchanged round slot got are q at some there =
      with_round_same round (λ j. items_of (got j q)) (items_in (received_items M e.entries (length past) q) round)
      (without e.active (q ∷ []))
      (received_through M past e round q) (others_low q)
      (λ j low. ap items_of (are j q) ∙ ap (λ c. items_of (received_body M e.entries c slot j q)) (sym size)
      ∙ sym (at j low))
      ∙ receives M past e q round some there

  -- the running part with another tree
  abbrev with_tree_of : ℕ → Channel → Received → RunningValue
  with_tree_of done q received =
      record {
        held = held_in M past e done q;
        progress = record (progress_in M past e steps done q) {
          tree =
              Some (tree_of e.active q M.width (source_word M past q) received);
        };
      }

  first_of : (got : Bodies) → AreArrivals M L n Round1 got → is_round e 1 ≡ true → (q : Channel) → q < 7 →
      with_exchanges 1 e.active got (received_through M past e (stage_before Round1))
      (node_in M L n steps Round1 (stage_before Round1) q) ≡ node_in M L n steps Round1 (stage_after Round1) q
  unfolding state_in
  first_of got are there q low =
      ap (node_with M q)
      (running_step (after_exchanges 1 (λ j. items_of (got j q)) (received_through M past e (stage_before Round1) q)
      (without e.active (q ∷ [])))
      (running_value_in M past e steps (stage_before Round1) q)
      (running_value_in M past e steps (stage_before Round2) q) (joiner_in M past e (stage_before Round1) q)
      (joiner_in M past e (stage_before Round2) q) (mode_in e q Round1)
      (ap (with_tree_of 1 q) (exchanged 1 Round1 got are q
      (λ j below. at-by_channel (λ p. items_of (received_body M e.entries (length past) Round1 p q)) j [] below)
      (omega arith) there)) refl)

  pub all_first : (got : Bodies) → AreArrivals M L n Round1 got → is_round e 1 ≡ true →
      map (with_exchanges 1 e.active got (received_through M past e (stage_before Round1)))
      (nodes_in M L n steps Round1 (stage_before Round1)) ≡ nodes_in M L n steps Round1 (stage_after Round1)
  all_first got are there =
      each_node M (with_exchanges 1 e.active got (received_through M past e (stage_before Round1)))
      (node_in M L n steps Round1 (stage_before Round1)) (node_in M L n steps Round1 (stage_after Round1)) mission
      (first_of got are there)

  second_of : (got : Bodies) → AreArrivals M L n Round2 got → is_round e 2 ≡ true → (q : Channel) → q < 7 →
      with_exchanges 2 e.active got (received_through M past e (stage_before Round2))
      (node_in M L n steps Round2 (stage_before Round2) q) ≡ node_in M L n steps Round2 (stage_after Round2) q
  unfolding state_in
  second_of got are there q low =
      ap (node_with M q)
      (running_step (after_exchanges 2 (λ j. items_of (got j q)) (received_through M past e (stage_before Round2) q)
      (without e.active (q ∷ [])))
      (running_value_in M past e steps (stage_before Round2) q)
      (running_value_in M past e steps (stage_before Round3) q) (joiner_in M past e (stage_before Round2) q)
      (joiner_in M past e (stage_before Round3) q) (mode_in e q Round2)
      (ap (with_tree_of 2 q) (exchanged 2 Round2 got are q
      (λ j below. at-by_channel (λ p. items_of (received_body M e.entries (length past) Round2 p q)) j [] below)
      (omega arith) there)) refl)

  pub all_second : (got : Bodies) → AreArrivals M L n Round2 got → is_round e 2 ≡ true →
      map (with_exchanges 2 e.active got (received_through M past e (stage_before Round2)))
      (nodes_in M L n steps Round2 (stage_before Round2)) ≡ nodes_in M L n steps Round2 (stage_after Round2)
  all_second got are there =
      each_node M (with_exchanges 2 e.active got (received_through M past e (stage_before Round2)))
      (node_in M L n steps Round2 (stage_before Round2)) (node_in M L n steps Round2 (stage_after Round2)) mission
      (second_of got are there)

  no_second_of : is_round e 2 ≡ false → (q : Channel) → q < 7 →
      node_in M L n steps Round2 (stage_before Round2) q ≡ node_in M L n steps Round2 (stage_after Round2) q
  unfolding state_in
  no_second_of none q low =
      ap (node_with M q)
      (same_parts (running_value_in M past e steps (stage_before Round2) q)
      (running_value_in M past e steps (stage_before Round3) q) (joiner_in M past e (stage_before Round2) q)
      (joiner_in M past e (stage_before Round3) q) (mode_in e q Round2)
      (ap (with_tree_of 2 q) (none_received M past e q 2 none)) refl)

  pub no_second : is_round e 2 ≡ false →
      nodes_in M L n steps Round2 (stage_before Round2) ≡ nodes_in M L n steps Round2 (stage_after Round2)
  no_second none = same_nodes M (node_in M L n steps Round2 (stage_before Round2))
      (node_in M L n steps Round2 (stage_after Round2)) mission (no_second_of none)

  -- ---- the decision

  decided : (q : Channel) → DecidesAlike M past e q →
      after_decision M.rules n (received_through M past e (stage_before Tasks) q)
      (with_tree_of 3 q (received_through M past e (stage_before Tasks) q))
      ≡ running_value_in M past e steps (stage_before Tasks) q
  decided q alike =
      ap (λ (c : ℕ). after_decision M.rules c (received_through M past e (stage_before Tasks) q)
      (with_tree_of 3 q (received_through M past e (stage_before Tasks) q))) (sym size)
      ∙ decides M L past steps q (controls_follow M L n) alike

  third_of : (got : Bodies) → AreArrivals M L n Round3 got → is_round e 3 ≡ true → (q : Channel) →
      (mode_in e q Round3 ≡ up → DecidesAlike M past e q) →
      with_decisions M n (received_through M past e (stage_before Tasks))
      (with_exchanges 3 e.active got (received_through M past e (stage_before Round3))
      (node_in M L n steps Round3 (stage_before Round3) q))
      ≡ node_in M L n steps Round3 (stage_after Round3) q
  unfolding state_in
  third_of got are there q alike =
      let receive : RunningValue →
      RunningValue = after_exchanges 3 (λ j. items_of (got j q)) (received_through M past e (stage_before Round3) q)
      (without e.active (q ∷ [])) in
      let decide : RunningValue →
      RunningValue = after_decision M.rules n (received_through M past e (stage_before Tasks) q) in
      ap (λ (state : StateValue). node_with M q (on_running decide state))
      (running_step receive (running_value_in M past e steps (stage_before Round3) q)
      (with_tree_of 3 q (received_through M past e (stage_before Tasks) q))
      (joiner_in M past e (stage_before Round3) q) (joiner_in M past e (stage_before Tasks) q) (mode_in e q Round3)
      (ap (with_tree_of 3 q) (exchanged 3 Round3 got are q
      (λ j below. at-by_channel (λ p. items_of (received_body M e.entries (length past) Round3 p q)) j [] below)
      (omega arith) there)) refl)
      ∙ ap (node_with M q)
      (running_step_up decide (with_tree_of 3 q (received_through M past e (stage_before Tasks) q))
      (running_value_in M past e steps (stage_before Tasks) q) (joiner_in M past e (stage_before Tasks) q)
      (joiner_in M past e (stage_before Tasks) q) (mode_in e q Round3)
      (λ is. decided q (alike is)) refl)

  pub all_decided : (got : Bodies) → AreArrivals M L n Round3 got → is_round e 3 ≡ true →
      ((q : Channel) → q < 7 → mode_in e q Round3 ≡ up → DecidesAlike M past e q) →
      map (with_decisions M n (received_through M past e (stage_before Tasks)))
      (map (with_exchanges 3 e.active got (received_through M past e (stage_before Round3)))
      (nodes_in M L n steps Round3 (stage_before Round3)))
      ≡ nodes_in M L n steps Round3 (stage_after Round3)
  all_decided got are there alike =
      let received : Channel → NodeValue =
      λ q. with_exchanges 3 e.active got (received_through M past e (stage_before Round3))
      (node_in M L n steps Round3 (stage_before Round3) q) in
      ap (map (with_decisions M n (received_through M past e (stage_before Tasks))))
      (each_node M (with_exchanges 3 e.active got (received_through M past e (stage_before Round3)))
      (node_in M L n steps Round3 (stage_before Round3)) received mission (λ q low. refl))
      ∙ each_node M (with_decisions M n (received_through M past e (stage_before Tasks))) received
      (node_in M L n steps Round3 (stage_after Round3)) mission (λ q low. third_of got are there q (alike q low))

  no_third_of : is_round e 3 ≡ false → (q : Channel) → (mode_in e q Round3 ≡ up → DecidesAlike M past e q) →
      with_decisions M n (received_through M past e (stage_before Tasks))
      (node_in M L n steps Round3 (stage_before Round3) q) ≡ node_in M L n steps Round3 (stage_after Round3) q
  unfolding state_in
  no_third_of none q alike =
      let decide : RunningValue →
      RunningValue = after_decision M.rules n (received_through M past e (stage_before Tasks) q) in
      ap (λ (state : StateValue). node_with M q (on_running decide state))
      (same_parts (running_value_in M past e steps (stage_before Round3) q)
      (with_tree_of 3 q (received_through M past e (stage_before Tasks) q))
      (joiner_in M past e (stage_before Round3) q) (joiner_in M past e (stage_before Tasks) q) (mode_in e q Round3)
      (ap (with_tree_of 3 q) (none_received M past e q 3 none)) refl)
      ∙ ap (node_with M q)
      (running_step_up decide (with_tree_of 3 q (received_through M past e (stage_before Tasks) q))
      (running_value_in M past e steps (stage_before Tasks) q) (joiner_in M past e (stage_before Tasks) q)
      (joiner_in M past e (stage_before Tasks) q) (mode_in e q Round3)
      (λ is. decided q (alike is)) refl)

  pub all_decided_early : is_round e 3 ≡ false →
      ((q : Channel) → q < 7 → mode_in e q Round3 ≡ up → DecidesAlike M past e q) →
      map (with_decisions M n (received_through M past e (stage_before Tasks)))
      (nodes_in M L n steps Round3 (stage_before Round3)) ≡ nodes_in M L n steps Round3 (stage_after Round3)
  all_decided_early none alike =
      each_node M (with_decisions M n (received_through M past e (stage_before Tasks)))
      (node_in M L n steps Round3 (stage_before Round3)) (node_in M L n steps Round3 (stage_after Round3)) mission
      (λ q low. no_third_of none q (alike q low))
