-- When a slot is carried: what arrived, where the run stops there, and what was carried where memory runs out.
use Rattle.std.proofs.Common.{◌≡◌, ℕ, ◌<◌, true, false, ◌||◌, List, ◌++◌, length, Some, refl, sym, ap, subst, ◌∙◌, arith}
use Rattle.std.specs.Prelude.{take}
use Rattle.std.specs.List.{list_any}
use Rattle.guards_model.specs.declared.Slot.{Slot}
use Rattle.guards_model.specs.declared.Slot.TheVariants.{Tasks, Sweep}
use Rattle.guards_model.specs.Slots.{slot_index}
use Rattle.guards_model.specs.Channels.{Channel, ChannelSet, has}
use Rattle.guards_model.specs.Missions.{MissionValue, format_of}
use Rattle.guards_model.specs.Network.{Log}
use Rattle.guards_model.specs.Ledgers.{disturbed_by, limit_reached}
use Rattle.guards_model.specs.Rounds.{Steps}
use Rattle.guards_model.specs.Texts.{StopValue}
use Rattle.guards_runs.specs.Cycles.{cycles_before, cycle_at}
use Rattle.guards_runs.specs.Disturbed.{is_charge}
use Rattle.guards_runs.specs.Due.{slot_carries}
use Rattle.guards_laws.proofs.CycleParts.{active-is}
use Rattle.guards_world.specs.Worlds.{WorldValue, past_in, facts_in}
use Rattle.guards_world.specs.WorldCycle.{AreFull}
use Rattle.guards_world.specs.Passing.{AreDueCarries, IsStopIn, world_carried}
use Rattle.world_laws.proofs.SlotsEntered.{take_all, carries_slot, stops_slot, alone}
use Rattle.world_laws.specs.Ended.{SlotEnds}
use Rattle.world_laws.specs.Fronts.{IsRunFront}
use Rattle.world_laws.proofs.RunFronts.{run_front}
use Rattle.world_laws.proofs.SlotEnding.{slot_ends}
use Rattle.world_laws.proofs.Sending.{sent_whole, sent_few}
use Rattle.fault_script.specs.declared.disturbance.Disturbance.{Disturbance}
use Rattle.icn_world.specs.Sent.{AreAllSent, AreFewSentBy}
use Rattle.icn_world.specs.Stages.{HaltsIn, MayCarry, HasArrived}

-- the senders are charged of whom one of these was not delivered as sent
pub record AreCharged (slot : Slot) (new : Log) (w : WorldValue) (before after : Disturbance) : Type 0 where
  pub active : after.active ≡ before.active
  pub charged : (q : Channel) → q < 7 →
      has after.charged q ≡ (has before.charged q || list_any (is_charge w.done slot q) new)

module _ (slot : Slot) (to : List ℕ) (earlier current : Log) (steps : Steps) (w : WorldValue) (d : Disturbance)
    (may : MayCarry slot to earlier current steps w d) where
  abbrev M : MissionValue
  M = w.mission

  pub sweep_full : slot ≡ Sweep → AreFull M (past_in w (earlier ++ current)) (facts_in w (earlier ++ current)) steps
  sweep_full is = may.stands.full (subst (λ (s : Slot). slot_index Tasks < slot_index s) (sym is) (omega arith))

  -- as far as it was carried, it is a front of the run's due entries
  pub few_carried : (few : ℕ) (new : Log) → AreFewSentBy earlier current slot to few w new →
      IsRunFront M earlier (current ++ new) w.done
  few_carried few new sent =
      run_front M earlier current new steps slot may.on w may.stands.inside few
      (sent_few M earlier current new steps slot to few w may.stands.inside sweep_full may.receivers_are sent)

  module _ (new : Log) (sent : AreAllSent earlier current slot to w new) where
    carried : AreDueCarries M (earlier ++ current) w.done steps
        (slot_carries w.done (facts_in w (earlier ++ current)) slot) new
    carried = sent_whole M earlier current new steps slot to w may.stands.inside sweep_full may.receivers_are sent

    all_taken : AreDueCarries M (earlier ++ current) w.done steps
        (take (length (slot_carries w.done (facts_in w (earlier ++ current)) slot))
        (slot_carries w.done (facts_in w (earlier ++ current)) slot)) new
    all_taken = subst (λ ks. AreDueCarries M (earlier ++ current) w.done steps ks new)
        (sym (take_all (slot_carries w.done (facts_in w (earlier ++ current)) slot))) carried

    pub all_carried : IsRunFront M earlier (current ++ new) w.done
    all_carried = run_front M earlier current new steps slot may.on w may.stands.inside
        (length (slot_carries w.done (facts_in w (earlier ++ current)) slot)) all_taken

    module _ (after : Disturbance) (charged : AreCharged slot new w d after) where
      ends : SlotEnds M earlier current new steps slot after.active after.charged w
      ends = slot_ends M earlier current new steps slot after.active d.charged after.charged w may.on may.stands.inside
          carried (charged.active ∙ may.stands.active) may.stands.charged charged.charged

      -- the run goes on, and this arrived
      pub arrived : limit_reached after.active after.charged w.ledger ≡ false →
          HasArrived slot (record {
            format = format_of M;
            traffic = record { cycle = w.done; slot = slot; entries = new };
          }) earlier (current ++ new) steps
          (world_carried (length new) w) after
      arrived below =
          record {
            stands = record {
              inside = carries_slot M earlier current new steps slot may.on w may.stands.inside
                  (length (slot_carries w.done (facts_in w (earlier ++ current)) slot)) all_taken refl
                  (sym ends.halts ∙ below);
              full = λ passed. ends.full passed (may.stands.full passed);
              active = ends.active_is;
              charged = ends.charged;
            };
            arrivals = λ j receiver. sym
                (alone M earlier current new steps slot may.on w may.stands.inside
                (length (slot_carries w.done (facts_in w (earlier ++ current)) slot)) all_taken refl j receiver);
          }

      -- or it stops here
      pub stopped : (set : ChannelSet) → set ≡ disturbed_by after.active after.charged w.ledger →
          limit_reached after.active after.charged w.ledger ≡ true →
          HaltsIn earlier (current ++ new) steps
          (record { cycle = w.done; slot = slot; set = set; active = w.switches }) (world_carried (length new) w)
      stopped set set_is reached =
          let stops : IsStopIn M earlier (current ++ new) w.done steps slot =
          stops_slot M earlier current new steps slot may.on w may.stands.inside
          (length (slot_carries w.done (facts_in w (earlier ++ current)) slot)) all_taken refl
          (sym ends.halts ∙ reached) in
          let S : ChannelSet → ChannelSet →
          StopValue = λ disturbed active.
          record { cycle = w.done; slot = slot; set = disturbed; active = active } in
          let active_is : (cycle_at M (earlier ++ (current ++ new)) w.done).active ≡ w.switches =
          sym ends.active_is ∙ charged.active ∙ may.stands.active
          ∙ active-is M (earlier ++ current) (cycles_before M (earlier ++ current) w.done)
          ∙ sym may.stands.inside.switches in
          record {
            stops = stops;
            stop_is = stops.stops
                ∙ ap (λ disturbed. Some (S disturbed (cycle_at M (earlier ++ (current ++ new)) w.done).active))
                (sym ends.disturbed ∙ sym set_is)
                ∙ ap (λ active. Some (S set active)) active_is;
            full = λ passed. ends.full passed (may.stands.full passed);
          }
