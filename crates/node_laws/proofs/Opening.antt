-- The opening of a cycle takes each node to what the facts say before its first slot.
use Rattle.std.proofs.Common.{◌≡◌, ℕ, zero, suc, ◌-◌, ◌≤◌, ◌<◌, ◌==◌, Bool, true, false, cond, not, ◌&&◌, List, [], ◌∷◌, length, Option, None, Some, ℤ, refl, sym, ap, ◌∙◌, arith}
use Rattle.std.specs.Prelude.{nat_lt, option_map}
use Rattle.std.specs.List.{list_any}
use Rattle.std.proofs.Math.Path.{fun_ext}
use Rattle.std.proofs.lemmas.Bool.{ltb-true, lt-ltb}
use Rattle.guards_model.specs.Frames.{ItemValue}
use Rattle.guards_model.specs.declared.Slot.{Slot}
use Rattle.guards_model.specs.declared.Slot.TheVariants.{Request, Tasks, Switch}
use Rattle.guards_model.specs.Channels.{Channel, ChannelSet, has, place_or}
use Rattle.guards_model.specs.Contexts.{ContextValue, with_word}
use Rattle.guards_model.specs.Damages.{damaged_by}
use Rattle.guards_model.specs.Faults.{FaultValue, crash, restart, damage, bus}
use Rattle.guards_model.specs.Missions.{MissionValue, IsMission, sensor}
use Rattle.guards_model.specs.Network.{Log}
use Rattle.guards_model.specs.Modes.{ModeValue, up, down, waiting, joining, is_up, is_joining, is_restart, is_crash_by, mode_at_start, mode_at_end}
use Rattle.guards_model.specs.Rounds.{Steps}
use Rattle.guards_model.specs.Replicas.{empty_replica}
use Rattle.guards_model.specs.Slots.{stage_before}
use Rattle.guards_runs.specs.Cycles.{Past, Cycle, mode_in, mode_after, context_after, source_word, received_items, items_in, active_set, is_whole, next_cycle, cycles_before}
use Rattle.guards_runs.specs.Due.{context_or_none, is_round}
use Rattle.guards_runs.specs.Restoration.{replica_after}
use Rattle.guards_laws.proofs.HeldIdeal.{slot_up, started_up, start, start-is, slot_mode, before-is, up_on_bus}
use Rattle.guards_laws.proofs.OnlyRise.{up_active}
use Rattle.guards_laws.proofs.CycleParts.{active-is}
use Rattle.guards_nodes.specs.NodeStates.{HeldValue, no_codes, RunningValue, JoinerValue, StateValue, running, fallen, resting, returning, running_or_none, joiner_or_none, only_hearing, between_cycles}
use Rattle.guards_nodes.specs.NodeSteps.{Received, nothing_received, tree_of, with_damage, after_source, new_joiner}
use Rattle.guards_world.specs.NodeFacts.{held_at, running_at, joiner_at, state_at, state_of_mode, is_received, received_through, running_value_in, joiner_in, state_at_opening}
use Rattle.guards_world.specs.SlotSteps.{after_damages, begins_to_join, joiner_if, opened_state}

-- ---- damages

-- one damage, and the script after it
one_damage : (t : Bool) (script : List FaultValue) (q c block word : ℕ) (value : ℤ) (r : RunningValue) →
    ((x : RunningValue) → after_damages script q c x
    ≡ record x { held = record x.held { context = damaged_by script q c x.context } }) →
    after_damages script q c (cond t (with_damage block word value r) r)
    ≡ record r {
      held = record r.held {
        context =
            damaged_by script q c (cond t (with_word r.context block word value) r.context);
      };
    }
one_damage true script q c block word value r rest = rest (with_damage block word value r)
one_damage false script q c block word value r rest = rest r

pub damages_are : (script : List FaultValue) (q c : ℕ) (r : RunningValue) →
    after_damages script q c r ≡ record r { held = record r.held { context = damaged_by script q c r.context } }
damages_are [] q c r = refl
damages_are (damage p d block word value ∷ script) q c r =
    one_damage (p == q && d == c) script q c block word value r (λ x. damages_are script q c x)
damages_are (crash p d slot ∷ script) q c r = damages_are script q c r
damages_are (restart p d ∷ script) q c r = damages_are script q c r
damages_are (bus rule ∷ script) q c r = damages_are script q c r

no_block : (b : Bool) (block word : ℕ) (value : ℤ) → cond b (with_word [] block word value) [] ≡ []
no_block true block word value = refl
no_block false block word value = refl

none_damaged : (script : List FaultValue) (q c : ℕ) → damaged_by script q c [] ≡ []
none_damaged [] q c = refl
none_damaged (damage p d block word value ∷ script) q c =
    ap (damaged_by script q c) (no_block (p == q && d == c) block word value) ∙ none_damaged script q c
none_damaged (crash p d slot ∷ script) q c = none_damaged script q c
none_damaged (restart p d ∷ script) q c = none_damaged script q c
none_damaged (bus rule ∷ script) q c = none_damaged script q c

damaged_or_none : (script : List FaultValue) (q c : ℕ) (o : Option ContextValue) →
    context_or_none (option_map (damaged_by script q c) o) ≡ damaged_by script q c (context_or_none o)
damaged_or_none script q c None = sym (none_damaged script q c)
damaged_or_none script q c (Some ctx) = refl

-- ---- who is active

-- a channel that is up in a slot is active
pub active_in : (M : MissionValue) (L : Log) (n : ℕ) → IsMission M → (q : Channel) → q < 7 → (slot : Slot) →
    mode_in (next_cycle M L (cycles_before M L n)) q slot ≡ up →
    has (next_cycle M L (cycles_before M L n)).active q ≡ true
active_in M L n mission q low slot h =
    let past = cycles_before M L n in
    let on = up_on_bus M L past q slot (ap is_up h) in
    let started : start M L past q low ≡ up =
    slot_up (list_any (is_crash_by q (length past) slot) M.script) (start M L past q low)
    (sym (slot_mode M L past q low slot on) ∙ h) in
    ap (λ (s : ChannelSet). has s q) (active-is M L past)
    ∙ up_active M L mission n q
    (started_up (list_any (is_restart q (length past)) M.script) (mode_after M past q)
    (sym (start-is M L past q low) ∙ started))

-- ---- nothing received yet

is_none : (b c d : Bool) (A : Type 0) (x : List A) → b ≡ false → cond ((b && c) && d) x [] ≡ []
is_none true c d A x h = absurd cc
is_none false c d A x h = refl

pub nothing_yet : (M : MissionValue) (past : Past) (e : Cycle) (q : Channel) (done : ℕ) → done < 2 →
    received_through M past e done q ≡ nothing_received
nothing_yet M past e q done early = fun_ext (λ r. fun_ext (λ j. none r j))
  where
    none : (r : ℕ) (j : Channel) → received_through M past e done q r j ≡ []
    none zero j = refl
    none (suc r) j = is_none (nat_lt (suc r) done) _ _ _ _ (grind (arith, early))

-- ---- the rounds are over

-- no round has a number above three
pub past_end : (M : MissionValue) (past : Past) (e : Cycle) (q : Channel) (r : ℕ) (j : Channel) →
    nat_lt (suc r) 4 ≡ false → items_in (received_items M e.entries (length past) q) (suc r) j ≡ []
past_end M past e q zero j h = absurd cc
past_end M past e q (suc zero) j h = absurd cc
past_end M past e q (suc (suc zero)) j h = absurd cc
past_end M past e q (suc (suc (suc r))) j h =
    let p : suc (suc (suc (suc r))) - 1 ≡ suc (suc (suc r)) = omega arith in
    ap (λ i. place_or (place_or (received_items M e.entries (length past) q) i []) j []) p

all_none : {A : Type 0} (b : Bool) (x : List A) → x ≡ [] → cond b x [] ≡ []
all_none true x h = h
all_none false x h = refl

pub rounds_over : (M : MissionValue) (past : Past) (e : Cycle) (q : Channel) (done : ℕ) → 4 ≤ done →
    received_through M past e done q ≡ received_through M past e (stage_before Tasks) q
rounds_over M past e q done over = fun_ext (λ r. fun_ext (λ j. at r j))
  where
    in_round : (r : ℕ) (j : Channel) (b : Bool) → nat_lt (suc r) 4 ≡ b →
        received_through M past e done q (suc r) j ≡ received_through M past e (stage_before Tasks) q (suc r) j
    in_round r j true h =
        let low : suc r < 4 = ltb-true (suc r) 4 h in
        let x : List ItemValue = items_in (received_items M e.entries (length past) q) (suc r) j in
        let F : Bool → List ItemValue =
        λ b. cond ((b && is_round e (suc r)) && (has e.active j && not (j == q))) x [] in
        ap F (lt-ltb (suc r) done (omega (arith, low, over))) ∙ ap F (sym h)
    in_round r j false h =
        let none = past_end M past e q r j h in
        all_none (is_received e done q (suc r) j) (items_in (received_items M e.entries (length past) q) (suc r) j) none
        ∙ sym (all_none (is_received e 4 q (suc r) j) (items_in (received_items M e.entries (length past) q) (suc r) j)
        none)

    at : (r : ℕ) (j : Channel) →
        received_through M past e done q r j ≡ received_through M past e (stage_before Tasks) q r j
    at zero j = refl
    at (suc r) j = in_round r j (nat_lt (suc r) 4) refl

-- ---- the states

abbrev get : Option RunningValue → RunningValue → RunningValue
get None r = r
get (Some r) x = r

abbrev get_joiner : Option JoinerValue → JoinerValue → JoinerValue
get_joiner None j = j
get_joiner (Some j) x = j

ended_joining : (k : ℕ) (on taken : Bool) (m : ModeValue) → is_up (mode_at_end k on taken m) ≡ false →
    is_joining (mode_at_end k on taken m) ≡ false → is_joining m ≡ false
ended_joining k on taken up h j = refl
ended_joining k on taken down h j = refl
ended_joining k on taken (waiting n) h j = refl
ended_joining k on true joining h j = absurd cc
ended_joining k on false joining h j = absurd cc

-- a channel that was neither up nor joining has an empty replica
pub new_is : (M : MissionValue) (past : Past) (q : Channel) → is_up (mode_after M past q) ≡ false →
    is_joining (mode_after M past q) ≡ false → joiner_at M past q ≡ new_joiner M.rules.blocks
new_is M [] q h j = refl
new_is M (e ∷ past) q h j =
    let off : is_joining (mode_in e q Switch) ≡ false =
    ended_joining M.return_after (has (active_set M (e ∷ past)) q) (is_whole q (e ∷ past)) (mode_in e q Switch) h
    j in
    ap (λ b. record { replica = cond b (replica_after M q (e ∷ past)) (empty_replica M.rules.blocks); taken = None })
    off

module _ (M : MissionValue) (L : Log) (past : Past) (steps : Steps) (q : Channel) (low : q < 7) where
  abbrev e : Cycle
  e = next_cycle M L past

  abbrev c : ℕ
  c = length past

  abbrev restarted : Bool
  restarted = list_any (is_restart q c) M.script

  before : mode_after M past q ≡ up →
      context_or_none (place_or e.contexts_before q None)
      ≡ damaged_by M.script q c (context_or_none (context_after M past q))
  before was =
      let started : start M L past q low ≡ up = start-is M L past q low ∙ ap (mode_at_start restarted) was in
      ap context_or_none (before-is M L past q low
      ∙ ap (λ m. cond (is_up m) (option_map (damaged_by M.script q c) (context_after M past q)) None) started)
      ∙ damaged_or_none M.script q c (context_after M past q)

  abbrev sourced : ContextValue → ChannelSet → Received → RunningValue
  sourced ctx active received =
      record {
        held = record (held_at M past q) { context = ctx };
        progress = record {
          hearing = no_codes;
          tree = Some (tree_of active q M.width (source_word M past q) received);
          decided = None;
          worked = None;
          closed = None;
        };
      }

  -- the source word of a channel that was up, after the damages
  pub sources : (r : RunningValue) → mode_after M past q ≡ up → r.held ≡ held_at M past q →
      r.progress.hearing ≡ no_codes →
      after_source q M.width (sensor M q c) (after_damages M.script q c r)
      ≡ running_value_in M past e steps (stage_before Request) q
  sources r was held hearing =
      let A : HeldValue → List ℕ → RunningValue =
      λ h hs. after_source q M.width (sensor M q c)
      (record {
        held = record h { context = damaged_by M.script q c h.context };
        progress = record r.progress { hearing = hs };
      }) in
      ap (after_source q M.width (sensor M q c)) (damages_are M.script q c r)
      ∙ ap (λ h. A h r.progress.hearing) held
      ∙ ap (A (held_at M past q)) hearing
      ∙ ap (λ ctx. sourced ctx (active_set M past) nothing_received) (sym (before was))
      ∙ ap (λ active. sourced (context_or_none (place_or e.contexts_before q None)) active nothing_received)
      (sym (active-is M L past))
      ∙ ap (sourced (context_or_none (place_or e.contexts_before q None)) e.active)
      (sym (nothing_yet M past e q 0 (omega arith)))

  abbrev Opens : StateValue → ModeValue → Type 0
  Opens state m = opened_state M past q state
      ≡ state_of_mode (running_value_in M past e steps (stage_before Request) q)
      (joiner_in M past e (stage_before Request) q) (mode_at_start restarted m)

  opens_up : (state : StateValue) → mode_after M past q ≡ up → between_cycles state ≡ running (running_at M past q) →
      Opens state up
  opens_up (running r) was h =
      let same : record { held = r.held; progress = only_hearing r.progress } ≡ running_at M past q =
      ap (λ s. get (running_or_none s) (running_at M past q)) h in
      ap running (sources r was (ap (λ x. x.held) same) (ap (λ x. x.progress.hearing) same))
  opens_up fallen was h = absurd cc
  opens_up resting was h = absurd cc
  opens_up (returning j) was h = absurd cc

  begins : (m : ModeValue) → mode_after M past q ≡ m →
      begins_to_join M past q ≡ (is_joining (mode_at_start restarted m) && not (is_joining m))
  begins m h = ap (λ x. is_joining (mode_at_start restarted x) && not (is_joining x)) h

  opens_down : (state : StateValue) → mode_after M past q ≡ down → between_cycles state ≡ fallen → (t : Bool) →
      restarted ≡ t → Opens state down
  opens_down fallen was h true is =
      let empty = new_is M past q (ap is_up was) (ap is_joining was) in
      ap (λ b. joiner_if M.rules.blocks b fallen)
      (begins down was ∙ ap (λ t. is_joining (mode_at_start t down) && true) is)
      ∙ ap returning (sym empty)
      ∙ ap (λ t. state_of_mode (running_value_in M past e steps (stage_before Request) q)
      (joiner_in M past e (stage_before Request) q) (mode_at_start t down)) (sym is)
  opens_down fallen was h false is =
      ap (λ b. joiner_if M.rules.blocks b fallen)
      (begins down was ∙ ap (λ t. is_joining (mode_at_start t down) && true) is)
      ∙ ap (λ t. state_of_mode (running_value_in M past e steps (stage_before Request) q)
      (joiner_in M past e (stage_before Request) q) (mode_at_start t down)) (sym is)
  opens_down (running r) was h t is = absurd cc
  opens_down resting was h t is = absurd cc
  opens_down (returning j) was h t is = absurd cc

  opens_waiting : (state : StateValue) (n : ℕ) → mode_after M past q ≡ waiting n → between_cycles state ≡ resting →
      Opens state (waiting n)
  opens_waiting resting zero was h =
      ap (λ b. joiner_if M.rules.blocks b resting) (begins (waiting zero) was)
      ∙ ap returning (sym (new_is M past q (ap is_up was) (ap is_joining was)))
  opens_waiting resting (suc n) was h = ap (λ b. joiner_if M.rules.blocks b resting) (begins (waiting (suc n)) was)
  opens_waiting (running r) n was h = absurd cc
  opens_waiting fallen n was h = absurd cc
  opens_waiting (returning j) n was h = absurd cc

  opens_joining : (state : StateValue) → between_cycles state ≡ returning (joiner_at M past q) → Opens state joining
  opens_joining (returning j) h = ap (λ s. returning (get_joiner (joiner_or_none s) (joiner_at M past q))) h
  opens_joining (running r) h = absurd cc
  opens_joining fallen h = absurd cc
  opens_joining resting h = absurd cc

  by_mode : (state : StateValue) (m : ModeValue) → mode_after M past q ≡ m →
      between_cycles state ≡ state_of_mode (running_at M past q) (joiner_at M past q) m → Opens state m
  by_mode state up was h = opens_up state was h
  by_mode state down was h = opens_down state was h restarted refl
  by_mode state (waiting n) was h = opens_waiting state n was h
  by_mode state joining was h = opens_joining state h

  pub opens : (state : StateValue) → between_cycles state ≡ state_at M past q →
      opened_state M past q state ≡ state_at_opening M past e steps q
  unfolding state_at_opening
  opens state h = by_mode state (mode_after M past q) refl h
