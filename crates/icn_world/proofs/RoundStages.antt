-- How the parts of the rounds go from one condition to the next.
use Rattle.std.proofs.Common.{◌≡◌, ℕ, suc, ◌≤◌, true, [], ◌++◌, refl, sym, ap, subst, ◌∙◌, arith}
use Rattle.std.specs.List.{list_any}
use Rattle.std.proofs.lemmas.List.{append-nil, append_assoc}
use Rattle.guards_model.specs.declared.Slot.{Slot}
use Rattle.guards_model.specs.declared.Slot.TheVariants.{Request, Round1, Round2, Round3, Tasks, Vote, Sweep, Final, Switch, Output}
use Rattle.guards_model.specs.Slots.{slot_index, on_bus, round_number, stage_after, stage_before}
use Rattle.guards_model.specs.Channels.{ChannelSet, has}
use Rattle.guards_model.specs.Missions.{MissionValue}
use Rattle.guards_model.specs.Decisions.{DecisionValue}
use Rattle.guards_model.specs.Network.{Log}
use Rattle.guards_model.specs.Records.{transfer_of_pair}
use Rattle.guards_model.specs.Rounds.{Steps}
use Rattle.guards_runs.specs.Cycles.{cycles_before, cycle_at, active_set}
use Rattle.guards_runs.specs.Disturbed.{is_charge}
use Rattle.guards_runs.specs.SlotFacts.{AreFromPlace}
use Rattle.guards_laws.proofs.CycleParts.{active-is}
use Rattle.guards_world.specs.Worlds.{WorldValue, StandsForWorld, facts_in}
use Rattle.guards_world.specs.InCycle.{InCycle}
use Rattle.fault_script.specs.declared.disturbance.Disturbance.{Disturbance}
use Rattle.world_laws.specs.Fronts.{IsRunFront}
use Rattle.slot_traffic.specs.Pieces.{ArrivedValue}
use Rattle.guards_world.specs.Arrivals.{AreArrivals, nodes_in}
use Rattle.world_laws.proofs.SlotsEntered.{enters_slot}
use Rattle.world_laws.proofs.SlotKept.{rounds_later}
use Rattle.world_laws.proofs.Following.{follows}
use Rattle.world_traffic.specs.Reading.{got_of}
use Rattle.icn_world.specs.Kept.{IsWorldKept}
use Rattle.icn_world.specs.Stages.{IsWithinCycle, IsAtStart, MayCarry, HasArrived}
use Rattle.icn_world.specs.Settled.{MayEnter, IsToActive, nodes_received, AreOfCycle, IsDecided, IsSettled}
use Rattle.icn_world.specs.declared.rounds.Reconfiguration.{Reconfiguration}
use Rattle.icn_world.proofs.Entering.{handed_world}
use Rattle.icn_world.proofs.Receiving.{early_received}
use Rattle.icn_world.proofs.WorldReceived.{number_is}
use Rattle.icn_world.proofs.Entered.{Enters, entered, still_inside, of_kept}

-- ---- a slot that is carried to the active channels

active_are : (w : WorldValue) (earlier current : Log) (steps : Steps) (slot : Slot) (carried handed : ℕ) →
    InCycle w.mission earlier current steps slot carried handed w →
    (facts_in w (earlier ++ current)).active ≡ w.switches
active_are w earlier current steps slot carried handed inside =
    active-is w.mission (earlier ++ current) (cycles_before w.mission (earlier ++ current) w.done) ∙ sym inside.switches

pub carries_to : (slot : Slot) (members : ChannelSet) (w : WorldValue) (d : Disturbance) → on_bus slot ≡ true →
    IsToActive slot → members ≡ w.switches →
    (earlier current : Log) (steps : Steps) →
    IsWithinCycle slot (stage_before slot) (stage_before slot) earlier current steps w d →
    MayCarry slot members earlier current steps w d
carries_to slot members w d on among are earlier current steps within =
    record {
      on = on;
      stands = within;
      receivers_are =
          among (facts_in w (earlier ++ current))
          ∙ active_are w earlier current steps slot (slot_index slot) (slot_index slot) within.inside
          ∙ sym are;
    }

pub enters_next : (slot : Slot) (old new : WorldValue) (d : Disturbance) → on_bus slot ≡ true → IsWorldKept old new →
    Enters slot old new →
    (earlier current : Log) (steps : Steps) → MayEnter slot earlier current steps old d →
    IsWithinCycle slot (stage_before slot) (stage_before slot) earlier current steps new d
enters_next slot old new d on kept enters earlier current steps may =
    entered may.before slot (slot_index slot) (slot_index slot) earlier current steps old new d kept enters may.soon on
    may.stands

-- ---- the requests

-- nothing of the cycle was carried
pub nothing_carried : (w : WorldValue) (d : Disturbance) (earlier current : Log) (steps : Steps) →
    IsAtStart earlier current steps w d → IsRunFront w.mission earlier current w.done
nothing_carried w d earlier current steps start =
    subst (λ (entries : Log). IsRunFront w.mission earlier entries w.done) (sym start.nothing)
    (record { front = tt; up_to_stop = λ slot stops. omega arith })

-- what opening does to the world
abbrev pub Opens : WorldValue → WorldValue → Type 0
Opens old new = (L : Log) (steps : Steps) → StandsForWorld old L →
    InCycle old.mission L [] steps Request (stage_before Request) (stage_before Request) new

pub opens_cycle : (old new : WorldValue) (d : Disturbance) → IsWorldKept old new → Opens old new →
    (earlier current : Log) (steps : Steps) → IsAtStart earlier current steps old d →
    IsWithinCycle Request (stage_before Request) (stage_before Request) earlier current steps new d
opens_cycle old new d kept opens earlier current steps start =
    let inside : InCycle old.mission earlier current steps Request (stage_before Request) (stage_before Request) new =
    subst (λ (entries : Log).
    InCycle old.mission earlier entries steps Request (stage_before Request) (stage_before Request) new)
    (sym start.nothing) (opens earlier steps start.stands) in
    record {
      inside = subst (λ (M : MissionValue).
          InCycle M earlier current steps Request (stage_before Request) (stage_before Request) new) (sym kept.mission)
          inside;
      full = λ late. absurd (omega (arith, late));
      active =
          of_kept (λ M n. d.active ≡ (cycle_at M (earlier ++ current) n).active) old new kept
          (start.active ∙ start.stands.switches
          ∙ ap (λ (all : Log). active_set old.mission (cycles_before old.mission all old.done))
          (sym (ap (λ (entries : Log). earlier ++ entries) start.nothing ∙ append-nil earlier))
          ∙ sym (active-is old.mission (earlier ++ current) (cycles_before old.mission (earlier ++ current) old.done)));
      charged = λ q low.
          ap (λ (s : ChannelSet). has s q) start.charged
          ∙ sym (ap (list_any (is_charge new.done Switch q)) start.nothing);
    }

-- what hearing the requests does to the world
abbrev pub Hears : ArrivedValue → WorldValue → WorldValue → Type 0
Hears arrived old new =
    (earlier current : Log) (steps : Steps) →
    InCycle old.mission earlier current steps Request (stage_after Request) (stage_before Request) old →
    AreArrivals old.mission (earlier ++ current) old.done Request (got_of arrived) →
    InCycle old.mission earlier current steps Request (stage_after Request) (stage_after Request) new

pub hears_requests : (arrived : ArrivedValue) (old new : WorldValue) (d : Disturbance) → IsWorldKept old new →
    Hears arrived old new →
    (earlier current : Log) (steps : Steps) → HasArrived Request arrived earlier current steps old d →
    IsWithinCycle Request (stage_after Request) (stage_after Request) earlier current steps new d
hears_requests arrived old new d kept hears earlier current steps came =
    still_inside Request Request 1 0 1 1 earlier current steps old new d kept came.stands
    (λ late. absurd (omega (arith, late)))
    (hears earlier current steps came.stands.inside came.arrivals)

-- ---- the rounds

-- what receiving in a round does to the world
abbrev pub Receives : Slot → ArrivedValue → WorldValue → WorldValue → Type 0
Receives slot arrived old new =
    (earlier current : Log) (steps : Steps) →
    InCycle old.mission earlier current steps slot (stage_after slot) (stage_before slot) old →
    AreArrivals old.mission (earlier ++ current) old.done slot (got_of arrived) →
    new ≡ record old {
      nodes =
          nodes_received old.mission (earlier ++ current) old.done (round_number slot) (got_of arrived) old.nodes;
    }

hands_round : (slot : Slot) (arrived : ArrivedValue) (old new : WorldValue) → 1 ≤ round_number slot →
    round_number slot ≤ 2 → Receives slot arrived old new →
    (earlier current : Log) (steps : Steps) →
    InCycle old.mission earlier current steps slot (stage_after slot) (stage_before slot) old →
    AreArrivals old.mission (earlier ++ current) old.done slot (got_of arrived) →
    InCycle old.mission earlier current steps slot (stage_after slot) (stage_after slot) new
hands_round slot arrived old new some few receives earlier current steps inside are =
    let i = slot_index slot in
    let nodes : nodes_received old.mission (earlier ++ current) old.done (round_number slot) (got_of arrived) old.nodes
    ≡ nodes_in old.mission (earlier ++ current) old.done steps slot (suc i) =
    ap (nodes_received old.mission (earlier ++ current) old.done (round_number slot) (got_of arrived)) inside.nodes
    ∙ early_received old.mission (earlier ++ current) old.done steps inside.ranges slot (got_of arrived) some few are in
    subst (λ (x : WorldValue). InCycle old.mission earlier current steps slot (suc i) (suc i) x)
    (sym (receives earlier current steps inside are
    ∙ handed_world old earlier current steps slot (suc i) i (suc i)
    (nodes_received old.mission (earlier ++ current) old.done (round_number slot) (got_of arrived) old.nodes) inside
    nodes))
    (enters_slot old.mission earlier current steps slot slot (suc i) i (suc i) old inside)

-- none of the first rounds' slots is the tasks slot
early_slot : (slot : Slot) → 1 ≤ round_number slot → round_number slot ≤ 2 → slot_index slot ≤ 2
early_slot slot some few = subst (λ (k : ℕ). k ≤ 2) (sym (number_is slot some)) few

pub receives_round : (slot : Slot) (arrived : ArrivedValue) (old new : WorldValue) (d : Disturbance) →
    1 ≤ round_number slot → round_number slot ≤ 2 → IsWorldKept old new →
    Receives slot arrived old new → (earlier current : Log) (steps : Steps) →
    HasArrived slot arrived earlier current steps old d →
    IsWithinCycle slot (stage_after slot) (stage_after slot) earlier current steps new d
receives_round slot arrived old new d some few kept receives earlier current steps came =
    let i = slot_index slot in
    still_inside slot slot (suc i) i (suc i) (suc i) earlier current steps old new d kept came.stands
    (λ late. absurd (omega (arith, late, early_slot slot some few)))
    (hands_round slot arrived old new some few receives earlier current steps came.stands.inside came.arrivals)

pub may_receive : (slot : Slot) (arrived : ArrivedValue) (w : WorldValue) (d : Disturbance) (earlier current : Log)
    (steps : Steps) → HasArrived slot arrived earlier current steps w d →
    (earlier : Log) × (current : Log) × (steps : Steps)
    × InCycle w.mission earlier current steps slot (stage_after slot) (stage_before slot) w
    × AreArrivals w.mission (earlier ++ current) w.done slot (got_of arrived)
may_receive slot arrived w d earlier current steps came = (earlier, current, steps, came.stands.inside, came.arrivals)

-- the slot of a round is on the bus, and its frames go to the active channels
pub round_on_bus : (slot : Slot) → 1 ≤ round_number slot → on_bus slot ≡ true
round_on_bus Round1 some = refl
round_on_bus Round2 some = refl
round_on_bus Round3 some = refl
round_on_bus Request some = absurd (omega (arith, some))
round_on_bus Tasks some = absurd (omega (arith, some))
round_on_bus Vote some = absurd (omega (arith, some))
round_on_bus Sweep some = absurd (omega (arith, some))
round_on_bus Final some = absurd (omega (arith, some))
round_on_bus Switch some = absurd (omega (arith, some))
round_on_bus Output some = absurd (omega (arith, some))

pub round_to_active : (slot : Slot) → 1 ≤ round_number slot → IsToActive slot
round_to_active Round1 some e = refl
round_to_active Round2 some e = refl
round_to_active Round3 some e = refl
round_to_active Request some e = absurd (omega (arith, some))
round_to_active Tasks some e = absurd (omega (arith, some))
round_to_active Vote some e = absurd (omega (arith, some))
round_to_active Sweep some e = absurd (omega (arith, some))
round_to_active Final some e = absurd (omega (arith, some))
round_to_active Switch some e = absurd (omega (arith, some))
round_to_active Output some e = absurd (omega (arith, some))

-- ---- the decision

abbrev pub Decides : ArrivedValue → WorldValue → WorldValue → Type 0
Decides arrived old new =
    (earlier current : Log) (steps : Steps) →
    InCycle old.mission earlier current steps Round3 (stage_after Round3) (stage_before Round3) old →
    AreArrivals old.mission (earlier ++ current) old.done Round3 (got_of arrived) →
    InCycle old.mission earlier current steps Round3 (stage_after Round3) (stage_after Round3) new

abbrev pub Settles : ArrivedValue → Reconfiguration → WorldValue → Type 0
Settles arrived settled old =
    (earlier current : Log) (steps : Steps) →
    InCycle old.mission earlier current steps Round3 (stage_after Round3) (stage_before Round3) old →
    AreArrivals old.mission (earlier ++ current) old.done Round3 (got_of arrived) →
    AreOfCycle settled old.mission (earlier ++ current) old.done

pub decides_rounds : (arrived : ArrivedValue) (settled : Reconfiguration) (old new : WorldValue) (d : Disturbance) →
    IsWorldKept old new → Decides arrived old new → Settles arrived settled old →
    (earlier current : Log) (steps : Steps) → HasArrived Round3 arrived earlier current steps old d →
    IsDecided settled earlier current steps new d
decides_rounds arrived settled old new d kept decides settles earlier current steps came =
    record {
      stands =
          still_inside Round3 Round3 4 3 4 4 earlier current steps old new d kept came.stands
          (λ late. absurd (omega (arith, late)))
          (decides earlier current steps came.stands.inside came.arrivals);
      settled_are = of_kept (λ M n. AreOfCycle settled M (earlier ++ current) n) old new kept
          (settles earlier current steps came.stands.inside came.arrivals);
    }

-- ---- the tasks slot

-- what was settled stays when the tasks slot is carried
pub settled_stays : (settled : Reconfiguration) (arrived : ArrivedValue) (old new : WorldValue) (d d1 : Disturbance) →
    new.mission ≡ old.mission → new.done ≡ old.done →
    (earlier current more : Log) (steps : Steps) → IsDecided settled earlier current steps old d →
    HasArrived Tasks arrived earlier (current ++ more) steps new d1 →
    IsSettled settled earlier (current ++ more) steps new d1
settled_stays settled arrived old new d d1 mission done earlier current more steps decided came =
    let M = old.mission in
    let n = old.done in
    let inside : InCycle M earlier (current ++ more) steps Tasks (stage_after Tasks) (stage_before Tasks) new =
    subst (λ (N : MissionValue).
    InCycle N earlier (current ++ more) steps Tasks (stage_after Tasks) (stage_before Tasks) new) mission
    came.stands.inside in
    let late : AreFromPlace n 4 more =
    follows M earlier current more steps steps Round3 Tasks 4 4 5 4 old new done decided.stands.inside inside in
    let stays = rounds_later M (earlier ++ current) more n 4 late (omega arith) in
    let longer : (earlier ++ current) ++ more ≡ earlier ++ (current ++ more) = append_assoc earlier current more in
    let at_new = λ (Φ : MissionValue → Log → ℕ → Type 0) (h : Φ M ((earlier ++ current) ++ more) n).
    subst (λ (k : ℕ). Φ new.mission (earlier ++ (current ++ more)) k) (sym done)
    (subst (λ (N : MissionValue). Φ N (earlier ++ (current ++ more)) n) (sym mission)
    (subst (λ (all : Log). Φ M all n) longer h)) in
    record {
      stands = came.stands;
      removed = at_new (λ N all k. settled.removed ≡ (cycle_at N all k).removed)
          (decided.settled_are.removed ∙ sym (ap (λ (x : DecisionValue). x.removed) stays.decision));
      transfer =
          at_new (λ N all k. transfer_of_pair settled.transfer ≡ (cycle_at N all k).transfer)
          (decided.settled_are.transfer ∙ sym (ap (λ (x : DecisionValue). x.transfer) stays.decision));
    }
