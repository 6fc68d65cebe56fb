-- What a world receives in a round, by the value of which it is known.
use Rattle.std.proofs.Common.{◌≡◌, ℕ, suc, ◌≤◌, ◌+◌, true, false, List, ◌++◌, All, map, sym, ap, subst, ◌∙◌}
use Rattle.std.specs.Prelude.{nat_le}
use Rattle.guards_model.specs.declared.Slot.{Slot}
use Rattle.guards_model.specs.Slots.{slot_index, round_number, stage_after, stage_before}
use Rattle.guards_model.specs.Channels.{ChannelSet, tolerated_faults}
use Rattle.guards_model.specs.Network.{Log}
use Rattle.guards_model.specs.Rounds.{Steps}
use Rattle.guards_runs.specs.Cycles.{cycles_before, cycle_at}
use Rattle.guards_nodes.specs.NodeStates.{NodeValue}
use Rattle.guards_world.specs.NodeFacts.{received_through}
use Rattle.guards_world.specs.Worlds.{WorldValue}
use Rattle.guards_world.specs.InCycle.{InCycle}
use Rattle.slot_traffic.specs.Pieces.{ArrivedValue}
use Rattle.guards_world.specs.NodeLists.{Bodies, AllReceived, with_exchanges, MayReceive, AreOfRound}
use Rattle.guards_world.specs.Arrivals.{AreArrivals}
use Rattle.world_traffic.specs.Reading.{got_of}
use Rattle.node_laws.proofs.OfRound.{of_round}
use Rattle.icn_world.specs.Settled.{nodes_received}
use Rattle.icn_world.proofs.WorldReceived.{number_is, tested, may_be_received, nodes_are_received, nothing_is_received}

-- the slot of a round is carried, and this arrived
abbrev IsCarried : WorldValue → Slot → Bodies → Type 0
IsCarried w slot got =
    (earlier : Log) × (current : Log) × (steps : Steps)
    × InCycle w.mission earlier current steps slot (stage_after slot) (stage_before slot) w
    × AreArrivals w.mission (earlier ++ current) w.done slot got

module _ (old w : WorldValue) (same : w ≡ old) (slot : Slot) (some : 1 ≤ round_number slot) where
  -- the world as it is opened is in the cycle too
  within : (earlier current : Log) (steps : Steps) →
      InCycle old.mission earlier current steps slot (stage_after slot) (stage_before slot) old →
      InCycle w.mission earlier current steps slot (stage_after slot) (stage_before slot) w
  within earlier current steps inside =
      subst (λ (x : WorldValue). InCycle x.mission earlier current steps slot (stage_after slot) (stage_before slot) x)
      (sym same) inside

  pub may_receive_by : (arrived : ArrivedValue) → IsCarried old slot (got_of arrived) → (round : ℕ) →
      round ≡ slot_index slot →
      (members : ChannelSet) → members ≡ w.switches → nat_le round (tolerated_faults members + 1) ≡ true →
      (received : AllReceived) × All (MayReceive round members received) w.nodes
  may_receive_by arrived held round number members are there =
      let inside = within held.0 held.1 held.2 held.3 in (
        received_through w.mission (cycles_before w.mission (held.0 ++ held.1) w.done)
            (cycle_at w.mission (held.0 ++ held.1) w.done) round,
        may_be_received w held.0 held.1 held.2 slot some inside round number members are
            (sym (tested w held.0 held.1 held.2 slot some inside round number members are) ∙ there),
      )

  -- the same world with these nodes is the old one with those that received
  with_nodes : (earlier current : Log) (got : Bodies) (left : List NodeValue) →
      left ≡ nodes_received w.mission (earlier ++ current) w.done (round_number slot) got w.nodes →
      record w { nodes = left }
      ≡ record old {
        nodes = nodes_received old.mission (earlier ++ current) old.done (round_number slot) got
            old.nodes;
      }
  with_nodes earlier current got left is =
      ap (λ (nodes : List NodeValue). record w { nodes = nodes }) is
      ∙ ap (λ (x : WorldValue).
      record x { nodes = nodes_received x.mission (earlier ++ current) x.done (round_number slot) got x.nodes })
      same

  pub received_by : (earlier current : Log) (steps : Steps) →
      InCycle old.mission earlier current steps slot (stage_after slot) (stage_before slot) old →
      (round : ℕ) → round ≡ slot_index slot → (members : ChannelSet) → members ≡ w.switches →
      nat_le round (tolerated_faults members + 1) ≡ true →
      (got : Bodies) (left : List NodeValue) →
      ((received : AllReceived) → All (MayReceive round members received) w.nodes →
      left ≡ map (with_exchanges round members got received) w.nodes) →
      record w { nodes = left }
      ≡ record old {
        nodes = nodes_received old.mission (earlier ++ current) old.done (round_number slot) got
            old.nodes;
      }
  received_by earlier current steps held round number members are there got left took =
      let inside = within earlier current steps held in
      with_nodes earlier current got left
      (nodes_are_received w earlier current steps slot some inside round number members are got left
      (sym (tested w earlier current steps slot some inside round number members are) ∙ there) took)

  pub unreceived_by : (earlier current : Log) (steps : Steps) →
      InCycle old.mission earlier current steps slot (stage_after slot) (stage_before slot) old →
      (round : ℕ) → round ≡ slot_index slot → (members : ChannelSet) → members ≡ w.switches →
      nat_le round (tolerated_faults members + 1) ≡ false →
      (got : Bodies) → old ≡ record old {
        nodes =
            nodes_received old.mission (earlier ++ current) old.done (round_number slot) got old.nodes;
      }
  unreceived_by earlier current steps held round number members are none got =
      let inside = within earlier current steps held in
      sym same
      ∙ with_nodes earlier current got w.nodes
      (nothing_is_received w earlier current steps slot some inside round number members are got
      (sym (tested w earlier current steps slot some inside round number members are) ∙ none))

pub of_round_by : (old : WorldValue) (slot : Slot) → 1 ≤ round_number slot → (arrived : ArrivedValue) →
    IsCarried old slot (got_of arrived) →
    (round : ℕ) → round ≡ slot_index slot → AreOfRound round (got_of arrived)
of_round_by old slot some arrived held round number =
    subst (λ (r : ℕ). AreOfRound r (got_of arrived)) (sym (number ∙ number_is slot some))
    (of_round old.mission (held.0 ++ held.1) old.done slot (got_of arrived) held.4)
