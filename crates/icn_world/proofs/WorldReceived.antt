-- The world when what arrived in a round was received.
use Rattle.std.proofs.Common.{◌≡◌, ℕ, suc, ◌≤◌, ◌+◌, Bool, true, false, cond, List, ◌++◌, All, map, refl, sym, ap, subst, ◌∙◌, arith}
use Rattle.std.specs.Prelude.{nat_le}
use Rattle.guards_model.specs.declared.Slot.{Slot}
use Rattle.guards_model.specs.declared.Slot.TheVariants.{Request, Round1, Round2, Round3, Tasks, Vote, Sweep, Final, Switch, Output}
use Rattle.guards_model.specs.Slots.{slot_index, round_number, stage_after, stage_before}
use Rattle.guards_model.specs.Channels.{ChannelSet, tolerated_faults}
use Rattle.guards_model.specs.Missions.{MissionValue}
use Rattle.guards_model.specs.Network.{Log}
use Rattle.guards_model.specs.Rounds.{Steps}
use Rattle.guards_runs.specs.Cycles.{Past, Cycle, cycles_before, cycle_at}
use Rattle.guards_runs.specs.Due.{is_round}
use Rattle.guards_laws.proofs.CycleParts.{active-is}
use Rattle.guards_nodes.specs.NodeStates.{NodeValue}
use Rattle.guards_world.specs.NodeFacts.{received_through}
use Rattle.guards_world.specs.Worlds.{WorldValue}
use Rattle.guards_world.specs.InCycle.{InCycle}
use Rattle.guards_world.specs.NodeLists.{Bodies, AllReceived, with_exchanges, MayReceive}
use Rattle.icn_world.specs.Settled.{nodes_received}
use Rattle.icn_world.proofs.Receiving.{all_may_receive}

pub number_is : (slot : Slot) → 1 ≤ round_number slot → slot_index slot ≡ round_number slot
number_is Round1 some = refl
number_is Round2 some = refl
number_is Round3 some = refl
number_is Request some = absurd (omega (arith, some))
number_is Tasks some = absurd (omega (arith, some))
number_is Vote some = absurd (omega (arith, some))
number_is Sweep some = absurd (omega (arith, some))
number_is Final some = absurd (omega (arith, some))
number_is Switch some = absurd (omega (arith, some))
number_is Output some = absurd (omega (arith, some))

where_true : {A : Type 0} (b : Bool) (x y : A) → b ≡ true → x ≡ cond b x y
where_true true x y h = refl
where_true false x y h = absurd cc

where_false : {A : Type 0} (b : Bool) (x y : A) → b ≡ false → y ≡ cond b x y
where_false true x y h = absurd cc
where_false false x y h = refl

-- the world w before a round is received, by the value of which it is known
module _ (w : WorldValue) (earlier current : Log) (steps : Steps) (slot : Slot) (some : 1 ≤ round_number slot)
    (inside : InCycle w.mission earlier current steps slot (stage_after slot) (stage_before slot) w)
    (round : ℕ) (number : round ≡ slot_index slot) (members : ChannelSet) (are : members ≡ w.switches) where
  abbrev M : MissionValue
  M = w.mission

  abbrev past : Past
  past = cycles_before M (earlier ++ current) w.done

  abbrev e : Cycle
  e = cycle_at M (earlier ++ current) w.done

  numbered : round ≡ round_number slot
  numbered = number ∙ number_is slot some

  active : members ≡ e.active
  active = are ∙ inside.switches ∙ sym (active-is M (earlier ++ current) past)

  -- the test is that of the facts
  pub tested : nat_le round (tolerated_faults members + 1) ≡ is_round e (round_number slot)
  tested = ap (λ (r : ℕ). nat_le r (tolerated_faults members + 1)) numbered
      ∙ ap (λ (s : ChannelSet). nat_le (round_number slot) (tolerated_faults s + 1)) active

  pub may_be_received : is_round e (round_number slot) ≡ true →
      All (MayReceive round members (received_through M past e round)) w.nodes
  may_be_received there =
      subst (λ (r : ℕ). All (MayReceive r members (received_through M past e r)) w.nodes) (sym numbered)
      (subst (λ (s : ChannelSet).
      All (MayReceive (round_number slot) s (received_through M past e (round_number slot))) w.nodes) (sym active)
      (subst (λ (nodes : List NodeValue).
      All (MayReceive (round_number slot) e.active (received_through M past e (round_number slot))) nodes)
      (sym inside.nodes)
      (all_may_receive M (earlier ++ current) w.done steps inside.ranges slot some there)))

  pub nodes_are_received : (got : Bodies) (left : List NodeValue) → is_round e (round_number slot) ≡ true →
      ((received : AllReceived) → All (MayReceive round members received) w.nodes →
      left ≡ map (with_exchanges round members got received) w.nodes) →
      left ≡ nodes_received M (earlier ++ current) w.done (round_number slot) got w.nodes
  nodes_are_received got left there took =
      took (received_through M past e round) (may_be_received there)
      ∙ ap (λ (r : ℕ). map (with_exchanges r members got (received_through M past e r)) w.nodes) numbered
      ∙ ap (λ (s : ChannelSet).
      map (with_exchanges (round_number slot) s got (received_through M past e (round_number slot))) w.nodes) active
      ∙ where_true (is_round e (round_number slot))
      (map (with_exchanges (round_number slot) e.active got (received_through M past e (round_number slot)))
      w.nodes) w.nodes there

  pub nothing_is_received : (got : Bodies) → is_round e (round_number slot) ≡ false →
      w.nodes ≡ nodes_received M (earlier ++ current) w.done (round_number slot) got w.nodes
  nothing_is_received got none =
      where_false (is_round e (round_number slot))
      (map (with_exchanges (round_number slot) e.active got (received_through M past e (round_number slot)))
      w.nodes) w.nodes none
