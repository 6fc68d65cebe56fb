-- The crashes of a cycle, and its end.
use Rattle.std.proofs.Common.{◌≡◌, ℕ, suc, ◌≤◌, ◌<◌, ◌==◌, Bool, true, false, cond, ◌&&◌, [], ◌∷◌, length, Option, None, Some, refl, sym, ap, ◌∙◌, arith}
use Rattle.std.specs.Prelude.{option_map}
use Rattle.std.specs.List.{list_any}
use Rattle.std.proofs.lemmas.Bool.{leb-true, le-leb}
use Rattle.guards_model.specs.declared.Slot.{Slot}
use Rattle.guards_model.specs.declared.Slot.TheVariants.{Request, Switch, Output}
use Rattle.guards_model.specs.Slots.{slot_index, up_to, on_bus, stage_after, stage_before}
use Rattle.guards_model.specs.Channels.{Channel, ChannelSet, has, place_or, by_channel}
use Rattle.guards_model.specs.Contexts.{ContextValue}
use Rattle.guards_model.specs.Faults.{FaultValue, crash, restart, damage, bus}
use Rattle.guards_model.specs.Missions.{MissionValue, IsMission}
use Rattle.guards_model.specs.Frames.{FinalValue, ControlWordValue}
use Rattle.guards_model.specs.Network.{Log}
use Rattle.guards_model.specs.Ledgers.{is_down}
use Rattle.guards_model.specs.Modes.{ModeValue, up, down, waiting, joining, is_joining, is_crash_by, mode_at_end}
use Rattle.guards_model.specs.Transfers.{TransferValue, start_of}
use Rattle.guards_model.specs.Decisions.{if_empty}
use Rattle.guards_model.specs.Controls.{ControlValue, control_of_word}
use Rattle.guards_model.specs.Replicas.{empty_replica, with_copies}
use Rattle.guards_model.specs.Rounds.{Steps}
use Rattle.guards_model.proofs.BoolTests.{both, and_true, clear, differ}
use Rattle.guards_model.proofs.Majorities.{any_weaken}
use Rattle.guards_runs.specs.Cycles.{Past, Cycle, mode_in, joins_since, is_whole, active_set, next_cycle, cycles_before}
use Rattle.guards_runs.specs.ControlFacts.{control_after_past, sweeping_of}
use Rattle.guards_runs.specs.Due.{context_or_none, control_after}
use Rattle.guards_runs.specs.Promises.{TakesIdeal, HasRun}
use Rattle.guards_runs.specs.Restoration.{replica_after, content_taken}
use Rattle.guards_laws.proofs.HeldIdeal.{start, start-is, slot_mode}
use Rattle.guards_laws.proofs.StayActive.{joined_passive}
use Rattle.guards_laws.proofs.RunRestores.{run_restores, run_only_whole}
use Rattle.guards_nodes.specs.NodeStates.{HeldValue, no_progress, no_codes, RunningValue, JoinerValue, StateValue, running, fallen, returning, between_cycles}
use Rattle.guards_nodes.specs.NodeSteps.{with_content}
use Rattle.guards_world.specs.NodeFacts.{held_at, running_at, joiner_at, state_at, state_of_mode, held_in, running_value_in, joiner_swept, joiner_in, state_in, state_at_opening}
use Rattle.guards_world.specs.SlotSteps.{ended_state}
use Rattle.node_laws.proofs.Opening.{active_in}

-- ---- crashes

pub crash_stays : (q c : ℕ) (slot last : Slot) → up_to slot last ≡ true → (f : FaultValue) →
    is_crash_by q c slot f ≡ true → is_crash_by q c last f ≡ true
crash_stays q c slot last soon (crash p d when) h =
    let parts = both (p == q && d == c) (up_to when slot) h in
    and_true (p == q && d == c) (up_to when last) parts.0
    (le-leb (slot_index when) (slot_index last)
    (omega (
      arith,
      leb-true (slot_index when) (slot_index slot) parts.1,
      leb-true (slot_index slot) (slot_index last) soon,
    )))
crash_stays q c slot last soon (restart p d) h = h
crash_stays q c slot last soon (damage p d block word value) h = h
crash_stays q c slot last soon (bus rule) h = h

pub on_before : (slot last : Slot) → up_to slot last ≡ true → on_bus last ≡ true → on_bus slot ≡ true
on_before Output last soon h = late last (leb-true 9 (slot_index last) soon) h
  where
    late : (last : Slot) → 9 ≤ slot_index last → on_bus last ≡ true → on_bus Output ≡ true
    late last far h = absurd (no last far h)
      where
        no : (last : Slot) → 9 ≤ slot_index last → on_bus last ≡ true → ⊥
        no Output far h = cc
        no _ far h = omega (arith, far)
on_before slot last soon h = refl

-- a channel that is down has fallen, and another one is as it was
as_before : (r : RunningValue) (j : JoinerValue) (crashed earlier : Bool) (m : ModeValue) →
    (earlier ≡ true → crashed ≡ true) →
    state_of_mode r j (cond crashed down m)
    ≡ cond (is_down (cond crashed down m)) fallen (state_of_mode r j (cond earlier down m))
as_before r j true earlier m h = refl
as_before r j false true m h = differ (sym (h refl))
as_before r j false false up h = refl
as_before r j false false down h = refl
as_before r j false false (waiting n) h = refl
as_before r j false false joining h = refl

module _ (M : MissionValue) (L : Log) (past : Past) (steps : Steps) (q : Channel) (low : q < 7) where
  abbrev e : Cycle
  e = next_cycle M L past

  abbrev crashed : Slot → Bool
  crashed slot = list_any (is_crash_by q (length past) slot) M.script

  pub falls : (before slot : Slot) (done : ℕ) → up_to before slot ≡ true → on_bus slot ≡ true →
      state_in M past e steps slot done q
      ≡ cond (is_down (mode_in e q slot)) fallen (state_in M past e steps before done q)
  unfolding state_in
  falls before slot done soon on =
      let r = running_value_in M past e steps done q in
      let j = joiner_in M past e done q in
      let now = slot_mode M L past q low slot on in
      let was = slot_mode M L past q low before (on_before before slot soon on) in
      ap (state_of_mode r j) now
      ∙ as_before r j (crashed slot) (crashed before) (start M L past q low)
      (any_weaken (is_crash_by q (length past) before) (is_crash_by q (length past) slot) M.script
      (crash_stays q (length past) before slot soon))
      ∙ ap (λ m. cond (is_down m) fallen (state_of_mode r j (cond (crashed before) down (start M L past q low))))
      (sym now)
      ∙ ap (λ m. cond (is_down (mode_in e q slot)) fallen (state_of_mode r j m)) (sym was)

  pub falls_first : state_in M past e steps Request (stage_before Request) q
      ≡ cond (is_down (mode_in e q Request)) fallen (state_at_opening M past e steps q)
  unfolding state_in state_at_opening
  falls_first =
      let r = running_value_in M past e steps (stage_before Request) q in
      let j = joiner_in M past e (stage_before Request) q in
      let now = slot_mode M L past q low Request refl in
      ap (state_of_mode r j) now
      ∙ as_before r j (crashed Request) false (start M L past q low) (λ h. differ (sym h))
      ∙ ap (λ m. cond (is_down m) fallen (state_of_mode r j (start M L past q low))) (sym now)
      ∙ ap (λ m. cond (is_down (mode_in e q Request)) fallen (state_of_mode r j m)) (start-is M L past q low)

-- ---- the end

over : (joined : ChannelSet) (q : ℕ) (t : Option TransferValue) → has joined q ≡ true → if_empty joined t ≡ None
over [] q t h = absurd cc
over (p ∷ joined) q t h = refl

module _ (M : MissionValue) (L : Log) (n : ℕ) (steps : Steps) (q : Channel) (mission : IsMission M)
    (more : suc n ≤ M.cycles) (run : HasRun M L (suc n)) (low : q < 7) where
  abbrev before : Past
  before = cycles_before M L n

  abbrev now : Cycle
  now = next_cycle M L before

  abbrev on : Bool
  on = has (active_set M (now ∷ before)) q

  abbrev Ends : ModeValue → Type 0
  Ends m = between_cycles (ended_state on
      (state_of_mode (running_value_in M before now steps (stage_after Switch) q)
      (joiner_in M before now (stage_after Switch) q) m))
      ≡ state_of_mode (running_at M (now ∷ before) q) (joiner_at M (now ∷ before) q)
      (mode_at_end M.return_after on (is_whole q (now ∷ before)) m)

  -- a channel that is up was active, so it did not join
  not_joined : mode_in now q Switch ≡ up → has now.joined q ≡ false
  not_joined h = clear (has now.joined q)
      (λ joined. sym (active_in M L n mission q low Switch h) ∙ joined_passive M L n q joined)

  not_whole : has now.joined q ≡ false → is_whole q (now ∷ before) ≡ false
  not_whole h = ap (λ b. b && joins_since q (start_of now.transfer) (now ∷ before)) h

  keeps : has now.joined q ≡ false → held_in M before now (stage_after Switch) q ≡ held_at M (now ∷ before) q
  keeps h =
      let H : Bool → Bool → HeldValue =
      λ whole joined. record {
        context = context_or_none (cond whole (Some now.ideal_context) (place_or now.contexts_after q None));
        control = control_after_past M (now ∷ before);
        accused = cond joined [] (place_or now.accusations q []);
        heard = cond joined (by_channel (λ p. 0)) (place_or now.request_codes q []);
      } in
      ap (λ b. H b false) (sym (not_whole h)) ∙ ap (H (is_whole q (now ∷ before))) (sym h)

  ends_up : mode_in now q Switch ≡ up → (b : Bool) → on ≡ b → Ends up
  ends_up h true is =
      ap (λ b. between_cycles (ended_state b (running (running_value_in M before now steps (stage_after Switch) q)))) is
      ∙ ap (λ held. running (record { held = held; progress = no_progress })) (keeps (not_joined h))
      ∙ ap (λ b. state_of_mode (running_at M (now ∷ before) q) (joiner_at M (now ∷ before) q)
      (mode_at_end M.return_after b (is_whole q (now ∷ before)) up)) (sym is)
  ends_up h false is =
      ap (λ b. between_cycles (ended_state b (running (running_value_in M before now steps (stage_after Switch) q)))) is
      ∙ ap (λ b. state_of_mode (running_at M (now ∷ before) q) (joiner_at M (now ∷ before) q)
      (mode_at_end M.return_after b (is_whole q (now ∷ before)) up)) (sym is)

  -- a whole channel takes the ideal context and the control of the next cycle
  word_is : has now.joined q ≡ true →
      control_of_word (control_after M (now ∷ before)) ≡ control_after_past M (now ∷ before)
  unfolding control_of_word
  word_is h = ap (λ t. record (control_after_past M (now ∷ before)) {
    sweeping =
        option_map (sweeping_of M (now ∷ before)) t;
  }) (sym (over now.joined q now.transfer h))

  abbrev word_or : Option ControlWordValue → ControlWordValue → ControlWordValue
  word_or None w = w
  word_or (Some x) w = x

  whole_by : (content : Option FinalValue) → content_taken M q before now ≡ content → TakesIdeal M before now q →
      is_whole q (now ∷ before) ≡ true → Ends joining
  whole_by None is takes whole =
      absurd (none (sym (ap (option_map (λ (f : FinalValue). f.control)) is) ∙ takes.control))
    where
      none : None ≡ Some (control_after M (now ∷ before)) → ⊥
      none h = cc
  whole_by (Some content) is takes whole =
      let joined : has now.joined q ≡ true =
      (both (has now.joined q) (joins_since q (start_of now.transfer) (now ∷ before)) whole).0 in
      let swept : JoinerValue = joiner_swept M before now q in
      let ctx : with_copies content.copies swept.replica.blocks ≡ now.ideal_context =
      ap context_or_none (sym (ap
      (option_map (λ (f : FinalValue). with_copies f.copies (replica_after M q (now ∷ before)).blocks)) is)
      ∙ takes.context) in
      let control : control_of_word content.control ≡ control_after_past M (now ∷ before) =
      ap control_of_word (ap (λ o. word_or o content.control)
      (sym (ap (option_map (λ (f : FinalValue). f.control)) is) ∙ takes.control)) ∙ word_is joined in
      let R : ContextValue → ControlValue → StateValue =
      λ x k. running (record {
        held = record { context = x; control = k; accused = []; heard = no_codes };
        progress = no_progress;
      }) in
      let H : Bool → Bool → StateValue =
      λ whole joined. running (record {
        held = record {
          context = context_or_none (cond whole (Some now.ideal_context) (place_or now.contexts_after q None));
          control = control_after_past M (now ∷ before);
          accused = cond joined [] (place_or now.accusations q []);
          heard = cond joined (by_channel (λ p. 0)) (place_or now.request_codes q []);
        };
        progress = no_progress;
      }) in
      ap (λ o. between_cycles (ended_state on (returning (with_content o swept)))) is
      ∙ ap (λ x. R x (control_of_word content.control)) ctx
      ∙ ap (R now.ideal_context) control
      ∙ ap (λ b. H b true) (sym whole)
      ∙ ap (H (is_whole q (now ∷ before))) (sym joined)
      ∙ ap (λ b. state_of_mode (running_at M (now ∷ before) q) (joiner_at M (now ∷ before) q)
      (mode_at_end M.return_after on b joining)) (sym whole)

  other_by : mode_in now q Switch ≡ joining → is_whole q (now ∷ before) ≡ false → Ends joining
  other_by h whole =
      let joins : is_joining (mode_in now q Switch) ≡ true = ap is_joining h in
      let none : content_taken M q before now ≡ None = (run_only_whole M L (suc n) mission more run).0 q joins whole in
      let J : Bool → StateValue =
      λ b. returning (record {
        replica = cond b (replica_after M q (now ∷ before)) (empty_replica M.rules.blocks);
        taken = None;
      }) in
      ap (λ o. between_cycles (ended_state on (returning (with_content o (joiner_swept M before now q))))) none
      ∙ ap J (sym joins)
      ∙ ap (λ b. state_of_mode (running_at M (now ∷ before) q) (joiner_at M (now ∷ before) q)
      (mode_at_end M.return_after on b joining)) (sym whole)

  ends_joining : mode_in now q Switch ≡ joining → (b : Bool) → is_whole q (now ∷ before) ≡ b → Ends joining
  ends_joining h true whole =
      whole_by (content_taken M q before now) refl ((run_restores M L (suc n) mission more run).0 q whole) whole
  ends_joining h false whole = other_by h whole

  ends_by : (m : ModeValue) → mode_in now q Switch ≡ m → Ends m
  ends_by up h = ends_up h on refl
  ends_by down h = refl
  ends_by (waiting k) h = refl
  ends_by joining h = ends_joining h (is_whole q (now ∷ before)) refl

  pub ends : between_cycles (ended_state on (state_in M before now steps Switch (stage_after Switch) q))
      ≡ state_at M (now ∷ before) q
  unfolding state_in
  ends = with_mode (mode_in now q Switch) refl
    where
      with_mode : (m : ModeValue) → mode_in now q Switch ≡ m →
          between_cycles (ended_state on
          (state_of_mode (running_value_in M before now steps (stage_after Switch) q)
          (joiner_in M before now (stage_after Switch) q) (mode_in now q Switch))) ≡ state_at M (now ∷ before) q
      with_mode m h =
          ap (λ x. between_cycles (ended_state on
          (state_of_mode (running_value_in M before now steps (stage_after Switch) q)
          (joiner_in M before now (stage_after Switch) q) x))) h
          ∙ ends_by m h
          ∙ ap (λ x. state_of_mode (running_at M (now ∷ before) q) (joiner_at M (now ∷ before) q)
          (mode_at_end M.return_after on (is_whole q (now ∷ before)) x)) (sym h)
