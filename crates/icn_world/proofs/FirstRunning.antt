-- The first of the nodes that run, after the decision.
use Rattle.std.proofs.Common.{◌≡◌, ℕ, ◌==◌, ◌||◌, Bool, true, false, List, [], ◌∷◌, Option, Some, None, map, option_map, length, refl, sym, ap, ◌∙◌}
use Rattle.std.specs.Option.{option_or, unwrap_or}
use Rattle.std.proofs.lemmas.Bool.{eqb-true}
use Rattle.guards_model.specs.declared.Slot.TheVariants.{Round3, Tasks}
use Rattle.guards_model.specs.Channels.{Channel, ChannelSet, has}
use Rattle.guards_model.specs.Controls.{control_decided, transfer_in, sweeping_for, SweepingValue}
use Rattle.guards_model.specs.Missions.{MissionValue, channels_of}
use Rattle.guards_model.specs.Modes.{ModeValue, up, down, waiting, joining}
use Rattle.guards_model.specs.Network.{Log}
use Rattle.guards_model.specs.Rounds.{Steps}
use Rattle.guards_model.specs.Transfers.{TransferValue}
use Rattle.guards_model.specs.Slots.{stage_after, stage_before}
use Rattle.guards_runs.specs.Cycles.{Past, Cycle, cycles_before, cycle_at, mode_in}
use Rattle.guards_nodes.specs.NodeStates.{NodeValue, StateValue, RunningValue, JoinerValue, running_or_none}
use Rattle.guards_world.specs.NodeFacts.{state_of_mode, running_value_in, joiner_in, state_in}
use Rattle.guards_world.specs.InCycle.{node_in}
use Rattle.guards_world.specs.NodeLists.{removed_in, first_removed, lowest_running}
use Rattle.guards_world.specs.Arrivals.{nodes_in}

none_is_some : {A : Type 0} (y : A) → None ≡ Some y → ⊥
none_is_some y h = cc

-- what the first node answers that answers anything, when all that do answer well
pub first_is : {A : Type 0} (f : StateValue → Option A) (first : List NodeValue → Option A) (Good : A → Type 0)
    (a : Channel → NodeValue) →
    ((node : NodeValue) (nodes : List NodeValue) → first (node ∷ nodes) ≡ option_or (f node.state) (first nodes)) →
    ((q : Channel) (x : A) → f (a q).state ≡ Some x → Good x) → (q : Channel) (y : A) → f (a q).state ≡ Some y →
    (qs : ChannelSet) → has qs q ≡ true → (x : A) × (first (map a qs) ≡ Some x) × Good x
first_is f first Good a next good q y answers [] there = absurd cc
first_is {A} f first Good a next good q y answers (p ∷ qs) there =
    by_first (f (a p).state) refl (λ h. first_is f first Good a next good q y answers qs h)
  where
    by_first : (o : Option A) → f (a p).state ≡ o → (has qs q ≡ true → (x : A) × (first (map a qs) ≡ Some x) × Good x) →
        (x : A) × (first (map a (p ∷ qs)) ≡ Some x) × Good x
    by_first (Some x) is later =
        (x, next (a p) (map a qs) ∙ ap (λ (o : Option A). option_or o (first (map a qs))) is, good p x is)
    by_first None is later =
        let found = later (not_here (p == q) refl there) in
        (found.0, next (a p) (map a qs) ∙ ap (λ (o : Option A). option_or o (first (map a qs))) is ∙ found.1, found.2)
      where
        not_here : (b : Bool) → (p == q) ≡ b → (b || has qs q) ≡ true → has qs q ≡ true
        not_here true same h = absurd (none_is_some y (sym is ∙ ap (λ c. f (a c).state) (eqb-true p q same) ∙ answers))
        not_here false other h = h

module _ (M : MissionValue) (L : Log) (n : ℕ) (steps : Steps) where
  abbrev past : Past
  past = cycles_before M L n

  abbrev e : Cycle
  e = cycle_at M L n

  -- whether a decided node runs, it removes those of the facts, and has their transfer
  removed_of : (r : RunningValue) (j : JoinerValue) (mode : ModeValue) (s x : ChannelSet) →
      option_map (λ d. d.removed) r.progress.decided ≡ Some s →
      removed_in (state_of_mode r j mode) ≡ Some x → x ≡ s
  removed_of r j up s x had is = ap (λ (o : Option ChannelSet). unwrap_or o x) (sym is ∙ had)
  removed_of r j down s x had is = absurd cc
  removed_of r j (waiting k) s x had is = absurd cc
  removed_of r j joining s x had is = absurd cc

  running_of : (r s : RunningValue) (j : JoinerValue) (mode : ModeValue) →
      running_or_none (state_of_mode r j mode) ≡ Some s → s ≡ r
  running_of r s j up is = ap (λ (o : Option RunningValue). unwrap_or o s) (sym is)
  running_of r s j down is = absurd cc
  running_of r s j (waiting k) is = absurd cc
  running_of r s j joining is = absurd cc

  transfer_of : (blocks c : ℕ) (sweeping : Option SweepingValue) (t : Option TransferValue) →
      transfer_in (sweeping_for blocks c sweeping t) ≡ t
  transfer_of blocks c sweeping None = refl
  transfer_of blocks c sweeping (Some t) = refl

  transfer_decided : (q : Channel) →
      transfer_in (running_value_in M past e steps (stage_before Tasks) q).control.sweeping ≡ e.transfer
  unfolding control_decided
  transfer_decided q = transfer_of M.rules.blocks (length past) _ e.transfer

  runs_up : (r : RunningValue) (j : JoinerValue) (mode : ModeValue) → mode ≡ up →
      state_of_mode r j mode ≡ state_of_mode r j up
  runs_up r j mode is = ap (state_of_mode r j) is

  module _ (q : Channel) (there : has (channels_of M) q ≡ true) (is : mode_in e q Round3 ≡ up) where
    pub removed_is : (x : ChannelSet) × (first_removed (nodes_in M L n steps Round3 (stage_after Round3)) ≡ Some x)
        × (x ≡ e.removed)
    unfolding state_in
    removed_is =
        first_is removed_in first_removed (λ x. x ≡ e.removed) (node_in M L n steps Round3 (stage_after Round3))
        (λ node nodes. refl)
        (λ p x h. removed_of (running_value_in M past e steps (stage_before Tasks) p)
        (joiner_in M past e (stage_before Tasks) p) (mode_in e p Round3) e.removed x refl h)
        q e.removed (ap removed_in
        (runs_up (running_value_in M past e steps (stage_before Tasks) q)
        (joiner_in M past e (stage_before Tasks) q) (mode_in e q Round3) is)) (channels_of M) there

    pub transfer_is : (r : RunningValue) × (lowest_running (nodes_in M L n steps Round3 (stage_after Round3)) ≡ Some r)
        × (transfer_in r.control.sweeping ≡ e.transfer)
    unfolding state_in
    transfer_is =
        first_is running_or_none lowest_running (λ r. transfer_in r.control.sweeping ≡ e.transfer)
        (node_in M L n steps Round3 (stage_after Round3)) (λ node nodes. refl)
        (λ p r h. ap (λ (x : RunningValue). transfer_in x.control.sweeping)
        (running_of (running_value_in M past e steps (stage_before Tasks) p) r
        (joiner_in M past e (stage_before Tasks) p) (mode_in e p Round3) h) ∙ transfer_decided p)
        q (running_value_in M past e steps (stage_before Tasks) q)
        (ap running_or_none (runs_up (running_value_in M past e steps (stage_before Tasks) q)
        (joiner_in M past e (stage_before Tasks) q) (mode_in e q Round3) is)) (channels_of M) there
