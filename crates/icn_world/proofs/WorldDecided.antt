-- The world when its running channels decided.
use Rattle.std.proofs.Common.{◌≡◌, ℕ, true, List, ◌++◌, Option, Some, All, map, sym, ap, subst, ◌∙◌, arith, refl}
use Rattle.std.specs.Prelude.{option_and_then}
use Rattle.std.specs.Option.{unwrap_or, IsSome}
use Rattle.guards_model.specs.declared.Slot.TheVariants.{Round3, Tasks}
use Rattle.guards_model.specs.Channels.{Channel, ChannelSet, has}
use Rattle.guards_model.specs.Controls.{transfer_in}
use Rattle.guards_model.specs.Missions.{MissionValue, channels_of}
use Rattle.guards_model.specs.Modes.{up}
use Rattle.guards_model.specs.Network.{Log}
use Rattle.guards_model.specs.Records.{transfer_of_pair}
use Rattle.guards_model.specs.Rounds.{Steps}
use Rattle.guards_model.proofs.NumbersBelow.{below_there}
use Rattle.guards_model.specs.Slots.{stage_after, stage_before}
use Rattle.guards_runs.specs.Cycles.{Past, Cycle, cycles_before, cycle_at, mode_in}
use Rattle.guards_laws.proofs.CycleParts.{active-is}
use Rattle.guards_laws.proofs.WithinChannels.{active_within}
use Rattle.guards_nodes.specs.NodeStates.{NodeValue, RunningValue}
use Rattle.guards_world.specs.NodeFacts.{received_through}
use Rattle.guards_world.specs.Worlds.{WorldValue}
use Rattle.guards_world.specs.InCycle.{InCycle}
use Rattle.node_laws.proofs.Opening.{active_in}
use Rattle.world_laws.proofs.SlotsEntered.{enters_slot, rounds_carried}
use Rattle.world_laws.proofs.Running.{one_runs}
use Rattle.guards_world.specs.NodeLists.{Bodies, AllReceived, with_decisions, StandsForReceived, MayDecide, first_removed, lowest_running}
use Rattle.guards_world.specs.Arrivals.{AreArrivals, nodes_in}
use Rattle.icn_world.specs.Settled.{nodes_received, AreOfCycle}
use Rattle.icn_world.proofs.Entering.{handed_world}
use Rattle.icn_world.proofs.Receiving.{last_stand, last_may_decide, last_decided}
use Rattle.icn_world.proofs.FirstRunning.{removed_is, transfer_is}

-- the world w, in which the last round is carried, and the world x in which it was received
module _ (w x : WorldValue) (earlier current : Log) (steps : Steps) (got : Bodies)
    (inside : InCycle w.mission earlier current steps Round3 (stage_after Round3) (stage_before Round3) w)
    (are : AreArrivals w.mission (earlier ++ current) w.done Round3 got)
    (received : x ≡ record w { nodes = nodes_received w.mission (earlier ++ current) w.done 3 got w.nodes }) where
  abbrev M : MissionValue
  M = w.mission

  abbrev all : Log
  all = earlier ++ current

  abbrev past : Past
  past = cycles_before M all w.done

  abbrev e : Cycle
  e = cycle_at M all w.done

  -- what holds of the nodes that received the last round holds of those of x
  at_x : (Φ : MissionValue → ℕ → List NodeValue → Type 0) →
      Φ M w.done (nodes_received M all w.done 3 got (nodes_in M all w.done steps Round3 (stage_before Round3))) →
      Φ x.mission x.done x.nodes
  at_x Φ h =
      subst (λ (y : WorldValue). Φ y.mission y.done y.nodes) (sym received)
      (subst (λ (nodes : List NodeValue). Φ M w.done (nodes_received M all w.done 3 got nodes)) (sym inside.nodes) h)

  pub may_decide_then : All (MayDecide x.mission) x.nodes
  may_decide_then = at_x (λ N c nodes. All (MayDecide N) nodes) (last_may_decide M all w.done steps inside.ranges got)

  pub stand_then : All (StandsForReceived (received_through M past e (stage_before Tasks))) x.nodes
  stand_then = at_x (λ N c nodes. All (StandsForReceived (received_through M past e (stage_before Tasks))) nodes)
      (last_stand M all w.done steps inside.ranges got are)

  module _ (left : List NodeValue)
      (decided : (given : AllReceived) → All (StandsForReceived given) x.nodes →
      left ≡ map (with_decisions x.mission x.done given) x.nodes) where
    pub left_is : left ≡ nodes_in M all w.done steps Round3 (stage_after Round3)
    left_is =
        decided (received_through M past e (stage_before Tasks)) stand_then
        ∙ at_x (λ N c nodes. map (with_decisions N c (received_through M past e (stage_before Tasks))) nodes
        ≡ nodes_in M all w.done steps Round3 (stage_after Round3))
        (last_decided M all w.done steps inside.ranges got are
        (λ q low up. rounds_carried M earlier current steps Round3 3 w inside q
        (active_in M all w.done inside.ranges q low Round3 up)))

    pub decides_world : InCycle M earlier current steps Round3 (stage_after Round3) (stage_after Round3)
        (record x { nodes = left })
    decides_world =
        subst (λ (y : WorldValue). InCycle M earlier current steps Round3 (stage_after Round3) (stage_after Round3) y)
        (sym (ap (λ (y : WorldValue). record y { nodes = left }) received
        ∙ handed_world w earlier current steps Round3 4 3 4 left inside left_is))
        (enters_slot M earlier current steps Round3 Round3 4 3 4 w inside)

    -- some channel runs, and is of the mission
    one : (q : Channel) × (has (channels_of M) q ≡ true) × (mode_in e q Round3 ≡ up)
    one =
        let found = one_runs M earlier current steps Round3 Round3 4 3 w inside (omega arith) in (
          found.0,
          below_there M.rules.channels found.0
              (active_within M all w.done found.0
              (ap (λ (s : ChannelSet). has s found.0) (sym (active-is M all past)) ∙ found.3)),
          found.2,
        )

    pub transfer_then : option_and_then (λ r. transfer_in r.control.sweeping) (lowest_running left) ≡ e.transfer
    transfer_then =
        let first = transfer_is M all w.done steps one.0 one.1 one.2 in
        ap (λ (nodes : List NodeValue). option_and_then (λ r. transfer_in r.control.sweeping) (lowest_running nodes))
        left_is
        ∙ ap (λ (o : Option RunningValue). option_and_then (λ r. transfer_in r.control.sweeping) o) first.1
        ∙ first.2

    module _ (answer : Option ChannelSet)
        (answered : (given : AllReceived) → All (StandsForReceived given) x.nodes → answer ≡ first_removed left) where
      pub answer_is : answer ≡ Some e.removed
      answer_is =
          let first = removed_is M all w.done steps one.0 one.1 one.2 in
          answered (received_through M past e (stage_before Tasks)) stand_then ∙ ap first_removed left_is ∙ first.1
          ∙ ap Some first.2

      pub some_answer : IsSome answer
      some_answer = subst (λ (o : Option ChannelSet). IsSome o) (sym answer_is) refl

      pub settled_then : (removed : ChannelSet) → answer ≡ Some removed → (transfer : Option (ChannelSet × ℕ)) →
          transfer_of_pair transfer ≡ option_and_then (λ r. transfer_in r.control.sweeping) (lowest_running left) →
          AreOfCycle (record { removed = removed; transfer = transfer }) M all w.done
      settled_then removed is transfer has =
          record {
            removed = ap (λ (o : Option ChannelSet). unwrap_or o removed) (sym is ∙ answer_is);
            transfer = has ∙ transfer_then;
          }
