-- Each call of a node within a cycle takes it from what the facts say before it to what they say after it.
use Rattle.std.proofs.Common.{◌≡◌, ℕ, zero, suc, ◌+◌, ◌≤◌, ◌<◌, ◌==◌, Bool, true, false, cond, List, [], ◌∷◌, length, Option, None, Some, ℤ, refl, sym, ap, ◌∙◌, arith}
use Rattle.std.specs.Prelude.{nat_lt, option_map, take, slice_get}
use Rattle.std.proofs.lemmas.Bool.{le-leb}
use Rattle.guards_model.specs.declared.Slot.TheVariants.{Round3, Tasks, Vote, Sweep, Final, Switch}
use Rattle.guards_model.specs.Channels.{Channel, ChannelSet, has, place_or, tolerated_faults}
use Rattle.guards_model.specs.Contexts.{ContextValue}
use Rattle.guards_model.specs.Tasks.{WriteValue, written_if, apply, whole}
use Rattle.guards_model.specs.Missions.{MissionValue, cycle_writes, written_blocks, output_words}
use Rattle.guards_model.specs.Network.{Log, ballot_of}
use Rattle.guards_model.specs.Voting.{Ballots, inputs_of, vote_of, accused_of}
use Rattle.guards_model.specs.Diagnosis.{Agreed}
use Rattle.guards_model.specs.Decisions.{DecisionValue}
use Rattle.guards_model.specs.Controls.{ControlValue, ClosedValue, planned_by, decided_by, control_decided, control_closed, closed_by}
use Rattle.guards_model.specs.Rounds.{Steps, Origin, steps_of, copies_of_replay}
use Rattle.guards_model.specs.Texts.{LineValue}
use Rattle.guards_model.specs.Slots.{stage_after, stage_before}
use Rattle.guards_runs.specs.Cycles.{Past, Cycle, source_word, agreed_at, received_body, received_items, items_in, next_cycle}
use Rattle.guards_runs.specs.ControlFacts.{control_after_past, closed_of, ControlFollows}
use Rattle.guards_runs.specs.Due.{due_origin, context_or_none, is_round}
use Rattle.guards_runs.specs.Promises.{DecidesAlike}
use Rattle.guards_runs.specs.Report.{line_of}
use Rattle.guards_runs.specs.Restoration.{sweeps_at, finals_at}
use Rattle.guards_laws.proofs.HeldIdeal.{work, held-is}
use Rattle.guards_laws.proofs.CycleParts.{active-is, decision-is, ballots, ballots-is, voted-is, accused-is, by_channel-same}
use Rattle.guards_nodes.specs.NodeStates.{ExchangeTreeValue, RunningValue}
use Rattle.guards_nodes.specs.NodeSteps.{Received, tree_of, kept_of, agreed_from, after_decision, plan_in, origin_by, after_steps, words_at, with_own, voted_by, after_votes, line_by, after_close, after_sweep_frames, after_final_frames}
use Rattle.guards_world.specs.NodeFacts.{received_through, tree_value_in, held_in, progress_in, running_value_in, joiner_in}
use Rattle.node_laws.proofs.Holding.{agreed_same}
use Rattle.node_laws.proofs.Opening.{past_end, rounds_over}

-- nothing is written into an empty context
none_written : (w : Option WriteValue) (ctx : ContextValue) (c : ℕ) (inputs : List ℤ) → ctx ≡ [] →
    written_if w ctx inputs c ≡ []
none_written None ctx c inputs h = h
none_written (Some w) ctx c inputs h = rw h refl

empty_apply : (row : List WriteValue) (c : ℕ) (inputs : List ℤ) (k : ℕ) → apply row [] c inputs k ≡ []
empty_apply row c inputs zero = refl
empty_apply row c inputs (suc k) =
    none_written (slice_get row k) (apply row [] c inputs k) c inputs (empty_apply row c inputs k)

module _ (M : MissionValue) (L : Log) (past : Past) (steps : Steps) (q : Channel)
    (follows : ControlFollows M past (next_cycle M L past)) where
  abbrev e : Cycle
  e = next_cycle M L past

  abbrev c : ℕ
  c = length past

  abbrev k : ControlValue
  k = control_after_past M past

  -- once the rounds are over the tree stays
  tree_over : (done : ℕ) → 4 ≤ done → tree_value_in M past e done q ≡ tree_value_in M past e (stage_before Tasks) q
  tree_over done over = ap (λ (received : Received). tree_of e.active q M.width (source_word M past q) received)
      (rounds_over M past e q done over)

  tree_from : (a b : ℕ) → 4 ≤ a → 4 ≤ b → tree_value_in M past e a q ≡ tree_value_in M past e b q
  tree_from a b low high = tree_over a low ∙ sym (tree_over b high)

  abbrev with_tree : RunningValue → ExchangeTreeValue → RunningValue
  with_tree r tree = record r { progress = record r.progress { tree = Some tree } }

  -- ---- the decision

  decided_is : decided_by M.rules c k e.agreed ≡ e.decision
  decided_is = follows.decides e.agreed ∙ sym (decision-is M L past)

  resolves : agreed_from (received_through M past e (stage_before Tasks) q)
      (tree_value_in M past e (stage_before Tasks) q) ≡ agreed_at M e.entries past e.active q
  resolves =
      agreed_same e.active M.width q (source_word M past q) (received_through M past e (stage_before Tasks) q)
      (items_in (received_items M e.entries c q)) (tolerated_faults e.active + 1) rounds (omega arith)
    where
      rounds : (r : ℕ) (j : Channel) → 1 ≤ r → r ≤ tolerated_faults e.active + 1 → has e.active j ≡ true →
          (j == q) ≡ false → received_through M past e (stage_before Tasks) q r j
          ≡ items_in (received_items M e.entries c q) r j
      rounds zero j low high there other = absurd (omega (arith, low))
      rounds (suc r) j low high there other = by (nat_lt (suc r) 4) refl
        where
          within : is_round e (suc r) ≡ true
          within = le-leb (suc r) (tolerated_faults e.active + 1) high

          by : (b : Bool) → nat_lt (suc r) 4 ≡ b →
              received_through M past e (stage_before Tasks) q (suc r) j
              ≡ items_in (received_items M e.entries c q) (suc r) j
          by true h = rw (h, within, there, other) refl
          by false h = rw h (sym (past_end M past e q r j h))

  pub decides : DecidesAlike M past e q →
      after_decision M.rules c (received_through M past e (stage_before Tasks) q)
      (record {
        held = held_in M past e (stage_before Round3) q;
        progress = record (progress_in M past e steps (stage_before Round3) q) {
          tree =
              Some (tree_value_in M past e (stage_before Tasks) q);
        };
      })
      ≡ running_value_in M past e steps (stage_before Tasks) q
  decides alike =
      let D : DecisionValue → List ℤ → RunningValue =
      λ d inputs. record {
        held =
            record (held_in M past e (stage_before Round3) q) { control = control_decided M.rules c k d };
        progress = record (progress_in M past e steps (stage_before Tasks) q) {
          decided =
              Some (kept_of d inputs);
        };
      } in
      ap (λ (a : Agreed). D (decided_by M.rules c k a) (inputs_of M.width a)) resolves
      ∙ ap (λ d. D d (inputs_of M.width (agreed_at M e.entries past e.active q)))
      (follows.decides (agreed_at M e.entries past e.active q) ∙ alike.decision)
      ∙ ap (D e.decision) alike.inputs

  -- ---- the work

  plan_of_decided : (a : Agreed) →
      planned_by M.rules.sweep (control_decided M.rules c k (decided_by M.rules c k a)).sweeping
      ≡ (decided_by M.rules c k a).planned
  unfolding control_decided decided_by
  plan_of_decided a = refl

  plan_is : planned_by M.rules.sweep (control_decided M.rules c k e.decision).sweeping ≡ e.planned
  plan_is =
      ap (λ d. planned_by M.rules.sweep (control_decided M.rules c k d).sweeping) (sym decided_is)
      ∙ plan_of_decided e.agreed
      ∙ ap (λ (d : DecisionValue). d.planned) decided_is

  pub origins : origin_by M.rules (cycle_writes M c) c (held_in M past e (stage_before Tasks) q)
      (kept_of e.decision e.inputs) ≡ due_origin M past e q
  origins =
      let O : List ℕ → Origin =
      λ plan. record {
        context = context_or_none (place_or e.contexts_before q None);
        row = cycle_writes M c;
        cycle = c;
        inputs = e.inputs;
        plan = plan;
      } in
      ap O plan_is

  whole_or_none : (o : Option ContextValue) →
      whole (cycle_writes M c) (context_or_none o) c e.inputs
      ≡ context_or_none (option_map (λ ctx. whole (cycle_writes M c) ctx c e.inputs) o)
  whole_or_none None = empty_apply (cycle_writes M c) c e.inputs (length (cycle_writes M c))
  whole_or_none (Some ctx) = refl

  pub works : q < 7 → after_steps M.rules (cycle_writes M c) c (steps_of steps q) (kept_of e.decision e.inputs)
      (running_value_in M past e steps (stage_before Tasks) q) ≡ running_value_in M past e steps (stage_before Vote) q
  unfolding work
  works low =
      let W : ContextValue → Origin → RunningValue =
      λ ctx o. record {
        held = record (held_in M past e (stage_before Tasks) q) { context = ctx };
        progress = record (progress_in M past e steps (stage_before Tasks) q) {
          worked =
              Some (record { cycle = c; steps = steps_of steps q; copies = copies_of_replay o (steps_of steps q) });
        };
      } in
      ap (λ ctx. W ctx (origin_by M.rules (cycle_writes M c) c (held_in M past e (stage_before Tasks) q)
      (kept_of e.decision e.inputs)))
      (whole_or_none (place_or e.contexts_before q None) ∙ ap context_or_none (sym (held-is M L past q low)))
      ∙ ap (W (context_or_none (place_or e.contexts_after q None))) origins
      ∙ ap (with_tree (running_value_in M past e steps (stage_before Vote) q))
      (tree_from 4 5 (omega arith) (omega arith))

  -- ---- the vote

  module _ (low : q < 7) (active : has e.active q ≡ true) (ctx : ContextValue)
      (works_with : place_or e.contexts_after q None ≡ Some ctx) (handed : Ballots)
      (are_handed : (j : Channel) → j < 7 → (j == q) ≡ false →
      place_or handed j None ≡ ballot_of (received_body M e.entries c Vote j q)) where
    pick_same : (b : Bool) (x x' y y' : Option (List ℤ)) → (b ≡ true → x ≡ x') → (b ≡ false → y ≡ y') →
        cond b x y ≡ cond b x' y'
    pick_same true x x' y y' f g = f refl
    pick_same false x x' y y' f g = g refl

    own_is : words_at M.outputs (context_or_none (place_or e.contexts_after q None)) ≡ output_words M ctx
    own_is = ap (λ (o : Option ContextValue). words_at M.outputs (context_or_none o)) works_with

    ballots_are : with_own q (words_at M.outputs (context_or_none (place_or e.contexts_after q None))) handed
        ≡ ballots M L past q
    ballots_are =
        by_channel-same (λ j. cond (j == q)
        (Some (words_at M.outputs (context_or_none (place_or e.contexts_after q None)))) (place_or handed j None))
        (λ j. cond (j == q) (option_map (output_words M) (place_or e.contexts_after q None))
        (ballot_of (received_body M e.entries c Vote j q)))
        (λ j small. pick_same (j == q) _ _ _ _ (λ mine. rw works_with refl) (λ other. are_handed j small other))
        ∙ sym (ballots-is M L past q active)

    active_now : (control_decided M.rules c k e.decision).active ≡ e.active
    unfolding control_decided
    active_now = sym (active-is M L past)

    voted_are : voted_by q M.outputs handed (running_value_in M past e steps (stage_before Vote) q)
        ≡ place_or e.voted q []
    voted_are =
        ap (λ (a : ChannelSet). vote_of a (length M.outputs)
        (with_own q (words_at M.outputs (context_or_none (place_or e.contexts_after q None))) handed)) active_now
        ∙ ap (vote_of e.active (length M.outputs)) ballots_are
        ∙ sym (voted-is M L past q low)

    pub votes : after_votes q M.outputs handed (running_value_in M past e steps (stage_before Vote) q)
        ≡ running_value_in M past e steps (stage_before Sweep) q
    votes =
        let V : ChannelSet → RunningValue =
        λ accused. record {
          held = record (held_in M past e (stage_before Vote) q) { accused = accused };
          progress = progress_in M past e steps (stage_before Vote) q;
        } in
        let own : Ballots = with_own q (words_at M.outputs (context_or_none (place_or e.contexts_after q None)))
        handed in
        ap V
        (ap (λ (a : ChannelSet). accused_of a own
        (voted_by q M.outputs handed (running_value_in M past e steps (stage_before Vote) q))) active_now
        ∙ ap (λ bs. accused_of e.active bs
        (voted_by q M.outputs handed (running_value_in M past e steps (stage_before Vote) q))) ballots_are
        ∙ ap (accused_of e.active (ballots M L past q)) voted_are
        ∙ sym (accused-is M L past q low))
        ∙ ap (with_tree (running_value_in M past e steps (stage_before Sweep) q))
        (tree_from 5 6 (omega arith) (omega arith))

    counts_are : (control_decided M.rules c k e.decision).counts ≡ e.counts
    unfolding control_decided
    counts_are = refl

    pub lines : line_by M.rules q M.outputs (running_value_in M past e steps (stage_before Vote) q)
        (kept_of e.decision e.inputs) handed ≡ line_of M e q
    lines =
        let T : List (Option ℤ) → List ℕ →
        LineValue = λ votes counts.
        record {
          channel = q;
          inputs = e.inputs;
          votes = votes;
          judged = e.judged;
          counts = take M.rules.channels counts;
        } in
        ap (λ vs. T vs (control_decided M.rules c k e.decision).counts) voted_are
        ∙ ap (T (place_or e.voted q [])) counts_are

  -- ---- the close

  pub closes : after_close M.rules (written_blocks M c) (kept_of e.decision e.inputs)
      (running_value_in M past e steps (stage_before Sweep) q) ≡ running_value_in M past e steps (stage_before Final) q
  closes =
      let K : List ℕ → ControlValue =
      λ plan. control_closed M.rules.last e.removed plan (written_blocks M c)
      (control_decided M.rules c k e.decision) in
      let A : List ℕ → ClosedValue =
      λ plan. closed_by M.rules.last plan (written_blocks M c) (control_decided M.rules c k e.decision) in
      let R : ControlValue → ClosedValue → RunningValue =
      λ control closed. record {
        held = record (held_in M past e (stage_before Final) q) { control = control };
        progress = record (progress_in M past e steps (stage_before Final) q) {
          tree =
              Some (tree_value_in M past e (stage_before Sweep) q);
          closed = Some closed;
        };
      } in
      let plan = planned_by M.rules.sweep (control_decided M.rules c k e.decision).sweeping in
      ap (λ x. R (K x) (A plan)) plan_is
      ∙ ap (λ control. R control (A plan)) (follows.closes (written_blocks M c) (λ b. refl))
      ∙ ap (λ x. R (control_after_past M (e ∷ past)) (A x)) plan_is
      ∙ ap (R (control_after_past M (e ∷ past))) (follows.answers (written_blocks M c) (λ b. refl))
      ∙ ap (with_tree (running_value_in M past e steps (stage_before Final) q))
      (tree_from 6 7 (omega arith) (omega arith))

  -- nothing of a running channel changes in the last two slots
  pub stands_at_final : running_value_in M past e steps (stage_before Final) q
      ≡ running_value_in M past e steps (stage_before Switch) q
  stands_at_final = ap (with_tree (running_value_in M past e steps (stage_before Final) q))
      (tree_from 7 8 (omega arith) (omega arith))

  pub stands_at_switch : running_value_in M past e steps (stage_before Switch) q
      ≡ running_value_in M past e steps (stage_after Switch) q
  stands_at_switch = ap (with_tree (running_value_in M past e steps (stage_before Switch) q))
      (tree_from 8 9 (omega arith) (omega arith))

  -- what it answers
  pub answers : closed_by M.rules.last (plan_in M.rules (held_in M past e (stage_before Sweep) q)) (written_blocks M c)
      (held_in M past e (stage_before Sweep) q).control ≡ closed_of e
  answers =
      ap (λ plan. closed_by M.rules.last plan (written_blocks M c) (control_decided M.rules c k e.decision)) plan_is
      ∙ follows.answers (written_blocks M c) (λ b. refl)

-- ---- a joining channel

pub fills : (M : MissionValue) (past : Past) (e : Cycle) (q : Channel) →
    after_sweep_frames M.rules.blocks (length past) (sweeps_at M past e q) (joiner_in M past e (stage_before Sweep) q)
    ≡ joiner_in M past e (stage_before Final) q
fills M past e q = refl

pub takes : (M : MissionValue) (past : Past) (e : Cycle) (q : Channel) →
    after_final_frames (finals_at M past e q) (joiner_in M past e (stage_before Final) q)
    ≡ joiner_in M past e (stage_before Switch) q
takes M past e q = refl
