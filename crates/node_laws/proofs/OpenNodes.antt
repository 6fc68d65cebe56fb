-- The nodes at a cycle's start.
use Rattle.std.proofs.Common.{◌≡◌, ℕ, suc, ◌<◌, ◌≤◌, ◌&&◌, Bool, true, cond, not, List, [], ◌∷◌, map, All, length, refl, sym, ap, subst, ◌∙◌}
use Rattle.std.specs.List.{list_all}
use Rattle.std.proofs.lemmas.Bool.{leb-true}
use Rattle.std.proofs.lemmas.List.Elements.{All-nil, All-cons}
use Rattle.guards_model.specs.declared.Slot.TheVariants.{Request}
use Rattle.guards_model.specs.Channels.{Channel, ChannelSet, has}
use Rattle.guards_model.specs.Missions.{MissionValue, IsMission, channels_of}
use Rattle.guards_model.specs.Frames.{is_channel}
use Rattle.guards_model.specs.Modes.{ModeValue, up, down, waiting, joining, scripted_mode_at_start}
use Rattle.guards_model.specs.Network.{Log}
use Rattle.guards_model.specs.Rounds.{Steps}
use Rattle.guards_model.specs.Ledgers.{is_down, mode_of, turned_down, ledger_at_start}
use Rattle.guards_model.proofs.BoolTests.{both}
use Rattle.guards_model.proofs.AscendingLists.{set_parts}
use Rattle.guards_model.proofs.Tables.{has-channels_where, at-by_channel}
use Rattle.guards_model.specs.Slots.{stage_before}
use Rattle.guards_runs.specs.Cycles.{Past, Cycle, cycles_before, cycle_at, mode_in, mode_after, active_set}
use Rattle.guards_laws.proofs.LogGrows.{length-cycles_before}
use Rattle.guards_laws.proofs.OnlyRise.{up_active}
use Rattle.guards_laws.proofs.StayActive.{three_active}
use Rattle.guards_laws.proofs.WithinChannels.{active_is_set}
use Rattle.guards_nodes.specs.NodeStates.{HeldValue, NodeValue, StateValue, running, fallen, resting, returning, RunningValue, JoinerValue, between_cycles, without_progress}
use Rattle.guards_nodes.specs.NodeCalls.{in_state}
use Rattle.guards_world.specs.NodeFacts.{node_with, node_at, state_at, running_at, joiner_at, held_at, state_of_mode, running_value_in, joiner_in, mode_at_opening, state_at_opening, ledger_at}
use Rattle.guards_world.specs.SlotSteps.{opened_state, begins_to_join}
use Rattle.guards_world.specs.InCycle.{node_in, ledger_in}
use Rattle.node_laws.proofs.Opening.{opens}
use Rattle.node_laws.proofs.Ending.{falls_first}
use Rattle.guards_world.specs.NodeLists.{MayOpen, opened_in, opened_with, fallen_if}
use Rattle.guards_world.specs.Arrivals.{nodes_in, nodes_opened}
use Rattle.node_laws.proofs.EachNode.{each_node, is_fallen, crashed_by}

-- ---- what a node holds

abbrev held_or : StateValue → HeldValue → HeldValue
held_or (running r) h = r.held
held_or fallen h = h
held_or resting h = h
held_or (returning j) h = h

up_of : (r a : RunningValue) (j : JoinerValue) (mode : ModeValue) →
    between_cycles (running r) ≡ state_of_mode a j mode → (mode ≡ up) × (r.held ≡ a.held)
up_of r a j up h = (refl, ap (λ (s : StateValue). held_or s a.held) h)
up_of r a j down h = absurd cc
up_of r a j (waiting n) h = absurd cc
up_of r a j joining h = absurd cc

opened_same : (M : MissionValue) (past : Past) (q : Channel) (state : StateValue) →
    opened_in M (length past) (begins_to_join M past q) q state ≡ opened_state M past q state
opened_same M past q (running r) = refl
opened_same M past q fallen = refl
opened_same M past q resting = refl
opened_same M past q (returning j) = refl

module _ (M : MissionValue) (L : Log) (n : ℕ) (mission : IsMission M) where
  abbrev past : Past
  past = cycles_before M L n

  abbrev e : Cycle
  e = cycle_at M L n

  size : length past ≡ n
  size = length-cycles_before M L n

  may_open : (q : Channel) (node : NodeValue) → without_progress node ≡ node_at M past q → MayOpen M node
  may_open q node h =
      let here : node.channel ≡ q = ap (λ (x : NodeValue). x.channel) h in
      let state : between_cycles node.state ≡ state_at M past q = ap (λ (x : NodeValue). x.state) h in
      let part : (r : RunningValue) → node.state ≡ running r →
      (mode_after M past q ≡ up) × (r.held ≡ held_at M past q) =
      λ r s. up_of r (running_at M past q) (joiner_at M past q) (mode_after M past q)
      (ap between_cycles (sym s) ∙ state) in
      record {
        rules = sym (ap (λ (x : NodeValue). x.rules) h);
        mine = λ r s.
            ap (λ (k : HeldValue). has k.control.active node.channel) (part r s).1
            ∙ ap (λ (p : ℕ). has (active_set M past) p) here
            ∙ up_active M L mission n q (part r s).0;
        some = λ r s. subst (λ (k : HeldValue). 3 ≤ length k.control.active) (sym (part r s).1)
            (three_active M L mission n);
      }

  pub all_may_open : (qs : ChannelSet) (nodes : List NodeValue) → map without_progress nodes ≡ map (node_at M past) qs →
      All (MayOpen M) nodes
  all_may_open qs [] h = All-nil (MayOpen M)
  all_may_open [] (node ∷ nodes) h = absurd cc
  all_may_open (q ∷ qs) (node ∷ nodes) h =
      let first : without_progress node ≡ node_at M past q = cc in
      let rest : map without_progress nodes ≡ map (node_at M past) qs = cc in
      All-cons (MayOpen M) node nodes (may_open q node first) (all_may_open qs nodes rest)

  -- ---- the opening

  opened_one : (steps : Steps) (newcomers : ChannelSet) (q : Channel) (node : NodeValue) → q < 7 →
      has newcomers q ≡ begins_to_join M past q →
      without_progress node ≡ node_at M past q →
      opened_with M n newcomers node ≡ node_with M q (state_at_opening M past e steps q)
  opened_one steps newcomers q node low joins h =
      let here : node.channel ≡ q = ap (λ (x : NodeValue). x.channel) h in
      let rules : node.rules ≡ M.rules = ap (λ (x : NodeValue). x.rules) h in
      let state : between_cycles node.state ≡ state_at M past q = ap (λ (x : NodeValue). x.state) h in
      ap (λ (p : ℕ). record { channel = p; rules = node.rules; state = opened_in M n (has newcomers p) p node.state })
      here
      ∙ ap (λ rs. record { channel = q; rules = rs; state = opened_in M n (has newcomers q) q node.state }) rules
      ∙ ap (λ (b : Bool). node_with M q (opened_in M n b q node.state)) joins
      ∙ ap (λ (c : ℕ). node_with M q (opened_in M c (begins_to_join M past q) q node.state)) (sym size)
      ∙ ap (node_with M q) (opened_same M past q node.state ∙ opens M L past steps q low node.state state)

  opened_each : (steps : Steps) (newcomers : ChannelSet) →
      ((q : Channel) → q < 7 → has newcomers q ≡ begins_to_join M past q) →
      (qs : ChannelSet) (nodes : List NodeValue) → list_all is_channel qs ≡ true →
      map without_progress nodes ≡ map (node_at M past) qs →
      map (opened_with M n newcomers) nodes ≡ map (λ q. node_with M q (state_at_opening M past e steps q)) qs
  opened_each steps newcomers joins [] [] low h = refl
  opened_each steps newcomers joins [] (node ∷ nodes) low h = absurd cc
  opened_each steps newcomers joins (q ∷ qs) [] low h = absurd cc
  opened_each steps newcomers joins (q ∷ qs) (node ∷ nodes) low h =
      let parts = both (is_channel q) (list_all is_channel qs) low in
      let first : without_progress node ≡ node_at M past q = cc in
      let rest : map without_progress nodes ≡ map (node_at M past) qs = cc in
      let below : q < 7 = leb-true (suc q) 7 parts.0 in
      ap (λ (x : NodeValue). x ∷ map (opened_with M n newcomers) nodes)
      (opened_one steps newcomers q node below (joins q below) first)
      ∙ ap (λ (xs : List NodeValue). node_with M q (state_at_opening M past e steps q) ∷ xs)
      (opened_each steps newcomers joins qs nodes parts.1 rest)

  pub all_opened : (steps : Steps) (nodes : List NodeValue) (newcomers : ChannelSet) →
      map without_progress nodes ≡ map (node_at M past) (channels_of M) →
      ((q : Channel) → q < 7 → has newcomers q ≡ begins_to_join M past q) →
      map (opened_with M n newcomers) nodes ≡ nodes_opened M L n steps
  all_opened steps nodes newcomers h joins =
      opened_each steps newcomers joins (channels_of M) nodes (set_parts (channels_of M) (active_is_set M [] mission)).0
      h

  -- ---- the first slot

  entered_one : (steps : Steps) (q : Channel) → q < 7 →
      fallen_if (turned_down (ledger_at_start M.script n (ledger_at M past)) (ledger_in M e Request))
      (node_with M q (state_at_opening M past e steps q))
      ≡ node_in M L n steps Request (stage_before Request) q
  unfolding state_at_opening
  entered_one steps q low =
      let A = ledger_at_start M.script n (ledger_at M past) in
      let B = ledger_in M e Request in
      let node : NodeValue = node_with M q (state_at_opening M past e steps q) in
      let was : mode_of A q ≡ mode_at_opening M past q =
      at-by_channel (λ p. scripted_mode_at_start M.script p n (mode_of (ledger_at M past) p)) q down low
      ∙ ap (λ m. scripted_mode_at_start M.script q n m) (at-by_channel (mode_after M past) q down low)
      ∙ ap (λ c. scripted_mode_at_start M.script q c (mode_after M past q)) (sym size) in
      let there : has (turned_down A B) q
      ≡ (is_down (mode_in e q Request) && not (is_down (mode_at_opening M past q))) =
      has-channels_where (λ p. is_down (mode_of B p) && not (is_down (mode_of A p))) q low
      ∙ ap (λ m. is_down m && not (is_down (mode_of A q))) (at-by_channel (λ p. mode_in e p Request) q down low)
      ∙ ap (λ m. is_down (mode_in e q Request) && not (is_down m)) was in
      ap (λ b. cond b (in_state fallen node) node) there
      ∙ crashed_by M q (is_down (mode_in e q Request)) (is_down (mode_at_opening M past q))
      (state_at_opening M past e steps q)
      (is_fallen (running_value_in M past e steps (stage_before Request) q)
      (joiner_in M past e (stage_before Request) q) (mode_at_opening M past q))
      ∙ ap (node_with M q) (sym (falls_first M L past steps q low))

  pub all_entered : (steps : Steps) →
      map (fallen_if (turned_down (ledger_at_start M.script n (ledger_at M past)) (ledger_in M e Request)))
      (nodes_opened M L n steps) ≡ nodes_in M L n steps Request (stage_before Request)
  all_entered steps =
      each_node M (fallen_if (turned_down (ledger_at_start M.script n (ledger_at M past)) (ledger_in M e Request)))
      (λ q. node_with M q (state_at_opening M past e steps q)) (node_in M L n steps Request (stage_before Request))
      mission (entered_one steps)
