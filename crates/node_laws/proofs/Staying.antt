-- Entries of slots that are not done change nothing that a node holds.
use Rattle.std.proofs.Common.{◌≡◌, ℕ, zero, suc, ◌-◌, ◌≤◌, ◌<◌, ◌==◌, ◌⊎◌, inl, inr, Bool, true, false, cond, not, ◌&&◌, ℤ, List, [], ◌∷◌, ◌++◌, length, Option, None, Some, refl, sym, ap, ◌∙◌, arith}
use Rattle.std.specs.Prelude.{nat_lt, nat_le, option_map, if◌then◌else◌}
use Rattle.std.proofs.Math.Path.{fun_ext}
use Rattle.std.proofs.lemmas.Bool.{ltb-true, lt-ltb, le-leb}
use Rattle.std.proofs.lemmas.List.Elements.{filter-append}
use Rattle.guards_model.specs.declared.Slot.{Slot}
use Rattle.guards_model.specs.declared.Slot.TheVariants.{Request, Round1, Round2, Round3, Tasks, Vote, Sweep, Final}
use Rattle.guards_model.specs.Slots.{slot_index}
use Rattle.guards_model.specs.Channels.{Channel, ChannelSet, has, place_or, by_channel}
use Rattle.guards_model.specs.Contexts.{ContextValue}
use Rattle.guards_model.specs.Missions.{MissionValue, cycle_writes, written_blocks}
use Rattle.guards_model.specs.Frames.{ItemValue, SweepValue, FinalValue}
use Rattle.guards_model.specs.Network.{EntryValue, Log, AreFrom, items_of}
use Rattle.guards_model.specs.Diagnosis.{counts_carried}
use Rattle.guards_model.specs.Transfers.{TransferValue, active_after, start_of}
use Rattle.guards_model.specs.Tags.{tags_of}
use Rattle.guards_model.specs.Decisions.{DecisionValue, if_empty}
use Rattle.guards_model.specs.Controls.{ControlValue, ClosedValue, control_decided}
use Rattle.guards_model.specs.Rounds.{Steps, Origin, steps_of, copies_of_replay}
use Rattle.guards_model.specs.Replicas.{ReplicaValue, after_sweep, final_taken}
use Rattle.guards_runs.specs.Cycles.{Past, Cycle, Agreement, mode_in, accused_before, heard_before, source_word, received_body, received_items, items_in, cycle_from, cycles_before, entries_of, cycle_start_of, work_of, remaining_of, swept_since}
use Rattle.guards_runs.specs.Due.{context_or_none}
use Rattle.guards_runs.specs.ControlFacts.{control_after_past, closed_of, if_joined}
use Rattle.guards_runs.specs.Restoration.{carried_over, replica_after, finals_at, content_taken}
use Rattle.guards_runs.specs.SlotFacts.{AreFromPlace, FactsStay}
use Rattle.guards_runs.specs.Due.{is_round}
use Rattle.guards_model.proofs.BoolTests.{both}
use Rattle.guards_laws.proofs.SlotsStand.{facts_stand}
use Rattle.guards_laws.proofs.LogGrows.{cycles_before-append, length-cycles_before}
use Rattle.guards_laws.proofs.Unsent.{All-filter}
use Rattle.guards_nodes.specs.NodeStates.{HeldValue, ExchangeTreeValue, DecidedValue, WorkedValue, ProgressValue, no_codes, RunningValue, JoinerValue, NodeValue}
use Rattle.guards_nodes.specs.NodeSteps.{Received, tree_of, kept_of, with_content}
use Rattle.guards_world.specs.NodeFacts.{is_done, is_received, since, context_in, control_in, held_in, received_through, tree_value_in, worked_in, progress_in, running_value_in, joiner_swept, joiner_in, joiner_at, state_of_mode, state_in, node_with}
use Rattle.guards_world.specs.InCycle.{node_in}

pub weaken : (c a b : ℕ) (new : Log) → a ≤ b → AreFromPlace c b new → AreFromPlace c a new
weaken c a b [] small late = tt
weaken c a b (y ∷ new) small late = (
  (elim late.0 as (λ v. (c < y.cycle) ⊎ ((y.cycle ≡ c) × (a ≤ slot_index y.slot)))
      [ inl later ↦ inl later | inr same ↦ inr (same.0, omega (arith, same.1, small)) ]),
  weaken c a b new small late.1,
)

if_same : {A : Type 0} (b : Bool) (x y z : A) → (b ≡ true → x ≡ y) → cond b x z ≡ cond b y z
if_same true x y z same = same refl
if_same false x y z same = refl

-- what is told from a slot on
since_same : {A : Type 0} (slot : Slot) (done : ℕ) (before x y : A) → (is_done slot done ≡ true → x ≡ y) →
    since slot done before x ≡ since slot done before y
since_same slot done before x y same = if_same (is_done slot done) x y before same

module _ (M : MissionValue) (entries new : Log) (past : Past) (steps : Steps) (q : Channel) (done : ℕ)
    (late : AreFromPlace (length past) done new) where
  abbrev e : Cycle
  e = cycle_from M entries past

  abbrev more : Cycle
  more = cycle_from M (entries ++ new) past

  known : (slot : Slot) → is_done slot done ≡ true → FactsStay M entries new past slot
  known slot h = facts_stand M entries new past slot
      (weaken (length past) (suc (slot_index slot)) done new (ltb-true (slot_index slot) done h) late)

  -- ---- the control

  abbrev control_of : DecisionValue → ChannelSet → ControlValue
  control_of d joined =
      record {
        active = active_after (cycle_start_of M past).active d.removed joined;
        fresh = joined;
        counts = counts_carried (active_after (cycle_start_of M past).active d.removed joined) joined d.counts;
        sweeping = option_map (λ (t : TransferValue). record {
          transfer = t;
          tags = tags_of M.rules.blocks
              (if nat_le t.start (length past)
              then record { planned = d.planned; written = written_blocks M (length past) } ∷ swept_since M t.start past
              else []) [];
        }) (if_empty joined d.transfer);
      }

  joined_stays : is_done Sweep done ≡ true → more.joined ≡ e.joined
  joined_stays h = ap (λ k. k.fresh) ((known Sweep h).closed refl)

  next_stays : is_done Sweep done ≡ true → control_after_past M (more ∷ past) ≡ control_after_past M (e ∷ past)
  unfolding cycle_from
  next_stays h = ap (λ d. control_of d more.joined) ((known Sweep h).decided refl)
      ∙ ap (control_of e.decision) (joined_stays h)

  control_stays : control_in M past more done ≡ control_in M past e done
  control_stays =
      let K : DecisionValue → ControlValue = λ d. control_decided M.rules (length past) (control_after_past M past) d in
      since_same Sweep done (since Round3 done (control_after_past M past) (K more.decision))
      (control_after_past M (more ∷ past)) (control_after_past M (e ∷ past)) next_stays
      ∙ ap (λ k. since Sweep done k (control_after_past M (e ∷ past)))
      (since_same Round3 done (control_after_past M past) (K more.decision) (K e.decision)
      (λ h. ap K ((known Round3 h).decided refl)))

  -- ---- what lasts

  context_stays : context_in more done q ≡ context_in e done q
  unfolding cycle_from
  context_stays =
      ap context_or_none
      (since_same Tasks done (place_or e.contexts_before q None) (place_or more.contexts_after q None)
      (place_or e.contexts_after q None)
      (λ h. ap (λ (cs : List (Option ContextValue)). place_or cs q None) ((known Tasks h).worked refl)))

  accused_stays : since Vote done (accused_before past q) (place_or more.accusations q [])
      ≡ since Vote done (accused_before past q) (place_or e.accusations q [])
  accused_stays =
      since_same Vote done (accused_before past q) (place_or more.accusations q []) (place_or e.accusations q [])
      (λ h. ap (λ (sets : List ChannelSet). place_or sets q []) ((known Vote h).accused refl))

  codes_stay : (slot : Slot) → is_done slot done ≡ true →
      place_or more.request_codes q [] ≡ place_or e.request_codes q []
  codes_stay slot h = ap (λ (codes : List (List ℕ)). place_or codes q []) (known slot h).heard

  heard_stays : since Sweep done (heard_before past q) (place_or more.request_codes q [])
      ≡ since Sweep done (heard_before past q) (place_or e.request_codes q [])
  heard_stays = since_same Sweep done (heard_before past q) (place_or more.request_codes q [])
      (place_or e.request_codes q []) (codes_stay Sweep)

  held_stays : held_in M past more done q ≡ held_in M past e done q
  held_stays = rw (context_stays, control_stays, accused_stays, heard_stays) refl

  -- ---- how far it has come

  abbrev received_of : Log → ℕ → Channel → List ItemValue
  received_of log = items_in (received_items M log (length past) q)

  round_stays : (slot : Slot) → is_done slot done ≡ true →
      by_channel (λ j. items_of (received_body M (entries ++ new) (length past) slot j q))
      ≡ by_channel (λ j. items_of (received_body M entries (length past) slot j q))
  round_stays slot h = ap (λ (f : Channel → List ItemValue). by_channel f)
      (fun_ext (λ j. ap items_of
      ((known slot h).received slot (le-leb (slot_index slot) (slot_index slot) (omega arith)) j q)))

  past_rounds : (r : ℕ) → suc (suc (suc (suc r))) - 1 ≡ suc (suc (suc r))
  past_rounds r = omega arith

  done_by : (r : ℕ) (j : Channel) → is_received e done q r j ≡ true → nat_lt r done ≡ true
  done_by r j h = (both (nat_lt r done) (is_round e r)
      (both (nat_lt r done && is_round e r) (has e.active j && not (j == q)) h).0).0

  received_stays : (r : ℕ) (j : Channel) →
      received_through M past more done q r j ≡ received_through M past e done q r j
  unfolding cycle_from
  received_stays zero j = refl
  received_stays (suc zero) j =
      if_same (is_received e done q 1 j) (received_of (entries ++ new) 1 j) (received_of entries 1 j) []
      (λ h. ap (λ (t : List (List ItemValue)). place_or t j []) (round_stays Round1 (done_by 1 j h)))
  received_stays (suc (suc zero)) j =
      if_same (is_received e done q 2 j) (received_of (entries ++ new) 2 j) (received_of entries 2 j) []
      (λ h. ap (λ (t : List (List ItemValue)). place_or t j []) (round_stays Round2 (done_by 2 j h)))
  received_stays (suc (suc (suc zero))) j =
      if_same (is_received e done q 3 j) (received_of (entries ++ new) 3 j) (received_of entries 3 j) []
      (λ h. ap (λ (t : List (List ItemValue)). place_or t j []) (round_stays Round3 (done_by 3 j h)))
  received_stays (suc (suc (suc (suc r)))) j =
      if_same (is_received e done q (suc (suc (suc (suc r)))) j)
      (received_of (entries ++ new) (suc (suc (suc (suc r)))) j) (received_of entries (suc (suc (suc (suc r)))) j)
      []
      (λ h. ap (λ k. place_or (place_or (received_items M (entries ++ new) (length past) q) k []) j []) (past_rounds r)
      ∙ ap (λ k. place_or (place_or (received_items M entries (length past) q) k []) j []) (sym (past_rounds r)))

  tree_stays : tree_value_in M past more done q ≡ tree_value_in M past e done q
  unfolding cycle_from
  tree_stays =
      ap (λ (received : Received). tree_of (cycle_start_of M past).active q M.width (source_word M past q) received)
      (fun_ext (λ r. fun_ext (λ j. received_stays r j)))

  decided_stays : since Round3 done None (Some (kept_of more.decision more.inputs))
      ≡ since Round3 done None (Some (kept_of e.decision e.inputs))
  decided_stays =
      since_same Round3 done None (Some (kept_of more.decision more.inputs)) (Some (kept_of e.decision e.inputs))
      (λ h. ap (λ (d : DecisionValue). Some (kept_of d more.inputs)) ((known Round3 h).decided refl)
      ∙ ap (λ (a : Agreement). Some (kept_of e.decision a.inputs)) ((known Round3 h).agreed refl))

  worked_stays : is_done Tasks done ≡ true → worked_in M past more steps q ≡ worked_in M past e steps q
  unfolding cycle_from
  worked_stays h =
      let O : List ℤ → List ℕ → Origin =
      λ inputs plan. record {
        context = context_or_none (place_or (cycle_start_of M past).contexts_before q None);
        row = cycle_writes M (length past);
        cycle = length past;
        inputs = inputs;
        plan = plan;
      } in
      let W : Origin → WorkedValue =
      λ o. record {
        cycle = length past;
        steps = steps_of steps q;
        copies = copies_of_replay o (steps_of steps q);
      } in
      ap (λ (a : Agreement). W (O a.inputs more.planned)) ((known Tasks h).agreed refl)
      ∙ ap (λ (d : DecisionValue). W (O e.inputs d.planned)) ((known Tasks h).decided refl)

  remaining_stays : is_done Sweep done ≡ true → more.remaining ≡ e.remaining
  unfolding cycle_from work_of
  remaining_stays h = ap (λ (d : DecisionValue). remaining_of M past d.transfer d.planned)
      ((known Sweep h).decided refl)

  closed_stays : is_done Sweep done ≡ true → closed_of more ≡ closed_of e
  closed_stays h =
      let C : ChannelSet → Option TransferValue → List ℕ → ClosedValue =
      λ joined t rest. record {
        joined = joined;
        start = if_joined joined (start_of t) 0;
        remaining = option_map (λ (x : TransferValue). length rest) t;
        rest = if_joined joined rest [];
      } in
      ap (λ joined. C joined more.transfer more.remaining) (joined_stays h)
      ∙ ap (λ (d : DecisionValue). C e.joined d.transfer more.remaining) ((known Sweep h).decided refl)
      ∙ ap (C e.joined e.transfer) (remaining_stays h)

  hearing_stays : since Sweep done (since Request done no_codes (place_or more.request_codes q [])) no_codes
      ≡ since Sweep done (since Request done no_codes (place_or e.request_codes q [])) no_codes
  hearing_stays = ap (λ codes. since Sweep done codes no_codes)
      (since_same Request done no_codes (place_or more.request_codes q []) (place_or e.request_codes q [])
      (codes_stay Request))

  progress_stays : progress_in M past more steps done q ≡ progress_in M past e steps done q
  progress_stays =
      let P : List ℕ → ExchangeTreeValue → Option DecidedValue → Option WorkedValue → Option ClosedValue →
      ProgressValue =
      λ hearing tree decided worked closed.
      record { hearing = hearing; tree = Some tree; decided = decided; worked = worked; closed = closed } in
      let w : since Tasks done None (Some (worked_in M past more steps q))
      ≡ since Tasks done None (Some (worked_in M past e steps q)) =
      since_same Tasks done None (Some (worked_in M past more steps q)) (Some (worked_in M past e steps q))
      (λ h. ap (λ x. Some x) (worked_stays h)) in
      let k : since Sweep done None (Some (closed_of more)) ≡ since Sweep done None (Some (closed_of e)) =
      since_same Sweep done None (Some (closed_of more)) (Some (closed_of e))
      (λ h. ap (λ x. Some x) (closed_stays h)) in
      ap (λ hearing. P hearing (tree_value_in M past more done q)
      (since Round3 done None (Some (kept_of more.decision more.inputs)))
      (since Tasks done None (Some (worked_in M past more steps q)))
      (since Sweep done None (Some (closed_of more)))) hearing_stays
      ∙ ap (λ tree. P (progress_in M past e steps done q).hearing tree
      (since Round3 done None (Some (kept_of more.decision more.inputs)))
      (since Tasks done None (Some (worked_in M past more steps q)))
      (since Sweep done None (Some (closed_of more)))) tree_stays
      ∙ ap (λ decided. P (progress_in M past e steps done q).hearing (tree_value_in M past e done q) decided
      (since Tasks done None (Some (worked_in M past more steps q)))
      (since Sweep done None (Some (closed_of more)))) decided_stays
      ∙ ap (λ worked. P (progress_in M past e steps done q).hearing (tree_value_in M past e done q)
      (progress_in M past e steps done q).decided worked (since Sweep done None (Some (closed_of more)))) w
      ∙ ap (P (progress_in M past e steps done q).hearing (tree_value_in M past e done q)
      (progress_in M past e steps done q).decided (progress_in M past e steps done q).worked) k

  running_stays : running_value_in M past more steps done q ≡ running_value_in M past e steps done q
  running_stays =
      let R : HeldValue → ProgressValue → RunningValue = λ held progress. record { held = held; progress = progress } in
      ap (λ held. R held (progress_in M past more steps done q)) held_stays
      ∙ ap (R (held_in M past e done q)) progress_stays

  -- ---- a joining channel

  swept_stays : is_done Sweep done ≡ true → replica_after M q (more ∷ past) ≡ replica_after M q (e ∷ past)
  swept_stays h =
      ap (λ (frames : List SweepValue).
      after_sweep M.rules.blocks (length past) frames (carried_over M.rules.blocks q past (replica_after M q past)))
      ((known Sweep h).filled refl q)

  content_stays : is_done Final done ≡ true → content_taken M q past more ≡ content_taken M q past e
  content_stays h =
      let swept : is_done Sweep done ≡ true = lt-ltb 6 done (omega (arith, ltb-true 7 done h)) in
      ap (λ (frames : List FinalValue). final_taken frames (replica_after M q (more ∷ past)))
      ((known Final h).taken refl q)
      ∙ ap (final_taken (finals_at M past e q)) (swept_stays swept)

  joiner_stays : joiner_in M past more done q ≡ joiner_in M past e done q
  joiner_stays =
      let J : ReplicaValue → JoinerValue = λ r. record { replica = r; taken = None } in
      let before : Cycle → JoinerValue = λ x. since Sweep done (joiner_at M past q) (joiner_swept M past x q) in
      since_same Final done (before more) (with_content (content_taken M q past more) (joiner_swept M past more q))
      (with_content (content_taken M q past e) (joiner_swept M past e q))
      (λ h.
      let swept : is_done Sweep done ≡ true = lt-ltb 6 done (omega (arith, ltb-true 7 done h)) in
      ap (λ content. with_content content (joiner_swept M past more q)) (content_stays h)
      ∙ ap (λ r. with_content (content_taken M q past e) (J r)) (swept_stays swept))
      ∙ ap (λ j. since Final done j (with_content (content_taken M q past e) (joiner_swept M past e q)))
      (since_same Sweep done (joiner_at M past q) (joiner_swept M past more q) (joiner_swept M past e q)
      (λ h. ap J (swept_stays h)))

  pub state_stays : (slot : Slot) → state_in M past more steps slot done q ≡ state_in M past e steps slot done q
  unfolding state_in cycle_from
  state_stays slot =
      ap (λ r. state_of_mode r (joiner_in M past more done q) (mode_in e q slot)) running_stays
      ∙ ap (λ j. state_of_mode (running_value_in M past e steps done q) j (mode_in e q slot)) joiner_stays

-- ---- the same of a log

pub from_cycle : (c place : ℕ) (new : Log) → AreFromPlace c place new → AreFrom c new
from_cycle c place [] late = tt
from_cycle c place (y ∷ new) late = (
  (elim late.0 as (λ v. c ≤ y.cycle) [ inl later ↦ omega (arith, later) | inr same ↦ omega (arith, same.0) ]),
  from_cycle c place new late.1,
)

pub node_stays : (M : MissionValue) (L new : Log) (n : ℕ) (steps : Steps) (slot : Slot) (done : ℕ) (q : Channel) →
    AreFromPlace n done new →
    node_in M (L ++ new) n steps slot done q ≡ node_in M L n steps slot done q
node_stays M L new n steps slot done q late =
    let past = cycles_before M L n in
    let late' : AreFromPlace (length past) done new = rw (length-cycles_before M L n) late in
    let N : Past → Log → NodeValue = λ p es. node_with M q (state_in M p (cycle_from M es p) steps slot done q) in
    ap (λ p. N p (entries_of (length p) (L ++ new))) (cycles_before-append M L new n (from_cycle n done new late))
    ∙ ap (N past) (filter-append (λ (y : EntryValue). y.cycle == length past) L new)
    ∙ ap (node_with M q)
    (state_stays M (entries_of (length past) L) (entries_of (length past) new) past steps q done
    (All-filter (λ (y : EntryValue). (length past < y.cycle) ⊎ ((y.cycle ≡ length past) × (done ≤ slot_index y.slot)))
    (λ y. y.cycle == length past) new late') slot)
