-- A cycle's steps of a channel among its events.
use Rattle.std.proofs.Common.{◌≡◌, ℕ, suc, ◌<◌, ◌==◌, ◌||◌, Bool, true, false, cond, List, [], ◌∷◌, ◌++◌, Some, None, map, filter, filter_map, refl, sym, ap, subst, ◌∙◌, arith}
use Rattle.std.specs.Prelude.{flat_map, nat_lt}
use Rattle.std.specs.List.{list_all, cons_option}
use Rattle.std.proofs.lemmas.Bool.{eqb-true, leb-true}
use Rattle.std.proofs.lemmas.List.{append-nil}
use Rattle.guards_model.specs.declared.Actor.{Actor}
use Rattle.guards_model.specs.declared.Actor.TheVariants.{Task, Sweep}
use Rattle.guards_model.specs.declared.Slot.{Slot}
use Rattle.guards_model.specs.declared.Slot.TheVariants.{Tasks}
use Rattle.guards_model.specs.Slots.{same_slot, every_slot}
use Rattle.guards_model.specs.Channels.{Channel, ChannelSet, has}
use Rattle.guards_model.specs.Frames.{ascends}
use Rattle.guards_model.specs.Missions.{MissionValue, IsMission}
use Rattle.guards_model.specs.Modes.{is_up}
use Rattle.guards_model.specs.Network.{EntryValue, Log}
use Rattle.guards_model.specs.Rounds.{Steps, steps_of}
use Rattle.guards_model.proofs.AscendingLists.{ascends-filter, set_parts}
use Rattle.guards_model.proofs.BoolTests.{both}
use Rattle.guards_runs.specs.Cycles.{Cycle, mode_in, cycles_before, cycle_at}
use Rattle.guards_runs.specs.Events.{deliver, step_event, round_events, cycle_events}
use Rattle.guards_runs.specs.Report.{channels_running_in}
use Rattle.guards_laws.proofs.CycleParts.{active-is}
use Rattle.guards_laws.proofs.WithinChannels.{active_is_set}
use Rattle.guards_laws.specs.Delivered.{step_by, steps_among}
use Rattle.guards_laws.proofs.QuietEvents.{IsDeaf, cycle_seen, seen_of_slot, none_mapped, through_flat, flat_alike}

module _ (p : Channel) where
  -- a channel's own steps are seen, and no others
  own : (q : Channel) (history : List Actor) → (q == p) ≡ true →
      filter_map (step_by p) (map (step_event q) history) ≡ history
  own q [] h = refl
  own q (Task ∷ history) h =
      ap (λ b. cons_option (cond b (Some Task) None) (filter_map (step_by p) (map (step_event q) history))) h
      ∙ ap (λ l. Task ∷ l) (own q history h)
  own q (Sweep ∷ history) h =
      ap (λ b. cons_option (cond b (Some Sweep) None) (filter_map (step_by p) (map (step_event q) history))) h
      ∙ ap (λ l. Sweep ∷ l) (own q history h)

  others : (q : Channel) (history : List Actor) → (q == p) ≡ false →
      filter_map (step_by p) (map (step_event q) history) ≡ []
  others q [] h = refl
  others q (Task ∷ history) h =
      ap (λ b. cons_option (cond b (Some Task) None) (filter_map (step_by p) (map (step_event q) history))) h
      ∙ others q history h
  others q (Sweep ∷ history) h =
      ap (λ b. cons_option (cond b (Some Sweep) None) (filter_map (step_by p) (map (step_event q) history))) h
      ∙ others q history h

  -- a channel that stands before all of an ascending list is not in it
  not_after : (q : Channel) (xs : ChannelSet) → list_all (λ y. nat_lt q y) xs ≡ true → (q == p) ≡ true →
      has xs p ≡ false
  not_after q [] h is = refl
  not_after q (x ∷ xs) h is =
      let parts = both (nat_lt q x) (list_all (λ y. nat_lt q y) xs) h in
      ap (λ b. b || has xs p) (apart (x == p) refl (leb-true (suc q) x parts.0)) ∙ not_after q xs parts.1 is
    where
      apart : (b : Bool) → (x == p) ≡ b → q < x → b ≡ false
      apart true same low = absurd (omega (arith, low, eqb-true x p same, eqb-true q p is))
      apart false same low = refl

  of_channels : (steps : Steps) (qs : ChannelSet) → ascends qs ≡ true →
      flat_map (λ q. filter_map (step_by p) (map (step_event q) (steps_of steps q))) qs
      ≡ cond (has qs p) (steps_of steps p) []
  of_channels steps [] h = refl
  of_channels steps (q ∷ qs) h =
      let parts = both (list_all (λ y. nat_lt q y) qs) (ascends qs) h in
      step (q == p) refl parts.0 (of_channels steps qs parts.1)
    where
      step : (b : Bool) → (q == p) ≡ b → list_all (λ y. nat_lt q y) qs ≡ true →
          flat_map (λ q. filter_map (step_by p) (map (step_event q) (steps_of steps q))) qs
          ≡ cond (has qs p) (steps_of steps p) [] →
          flat_map (λ q. filter_map (step_by p) (map (step_event q) (steps_of steps q))) (q ∷ qs)
          ≡ cond (b || has qs p) (steps_of steps p) []
      step true is later rest =
          ap (λ l. l ++ flat_map (λ q. filter_map (step_by p) (map (step_event q) (steps_of steps q))) qs)
          (own q (steps_of steps q) is ∙ ap (steps_of steps) (eqb-true q p is))
          ∙ ap (λ l. steps_of steps p ++ l) (rest ∙ ap (λ b. cond b (steps_of steps p) []) (not_after q qs later is))
          ∙ append-nil (steps_of steps p)
      step false is later rest =
          ap (λ l. l ++ flat_map (λ q. filter_map (step_by p) (map (step_event q) (steps_of steps q))) qs)
          (others q (steps_of steps q) is) ∙ rest

  deaf : IsDeaf (step_by p)
  deaf = record {
    crashes = λ q. refl;
    restarts = λ q. refl;
    waits = λ q. refl;
    damages = λ q block word value. refl;
    senses = λ q words. refl;
    ticks = refl;
  }

  -- of a slot the steps alone are seen
  of_slot : (steps : Steps) (e : Cycle) (slot : Slot) →
      seen_of_slot (step_by p) deaf steps e slot ≡ filter_map (step_by p) (round_events steps e slot)
  of_slot steps e slot =
      ap (λ l. l ++ filter_map (step_by p) (round_events steps e slot))
      (none_mapped (step_by p) deliver (filter (λ (entry : EntryValue). same_slot entry.slot slot) e.entries)
      (λ entry. refl))

  pub of_cycle : (M : MissionValue) (L : Log) (n : ℕ) (steps : Steps) → IsMission M →
      steps_among p (cycle_events M steps (cycles_before M L n) (cycle_at M L n))
      ≡ cond (has (channels_running_in Tasks (cycle_at M L n)) p) (steps_of steps p) []
  of_cycle M L n steps mission =
      let past = cycles_before M L n in
      let e = cycle_at M L n in
      let here = channels_running_in Tasks e in
      let set : ascends e.active ≡ true =
      subst (λ (s : ChannelSet). ascends s ≡ true) (sym (active-is M L past))
      (set_parts _ (active_is_set M past mission)).1 in
      cycle_seen (step_by p) deaf M steps past e
      ∙ flat_alike (seen_of_slot (step_by p) deaf steps e) (λ slot. filter_map (step_by p) (round_events steps e slot))
      every_slot (of_slot steps e)
      ∙ append-nil (filter_map (step_by p) (round_events steps e Tasks))
      ∙ through_flat (step_by p) (λ q. map (step_event q) (steps_of steps q)) here
      ∙ of_channels steps here (ascends-filter (λ q. is_up (mode_in e q Tasks)) e.active set)
