-- What of a cycle's events remains to one who sees deliveries and steps alone.
use Rattle.std.proofs.Common.{◌≡◌, ℕ, ◌==◌, ◌&&◌, Bool, true, false, cond, List, [], ◌∷◌, ◌++◌, Option, Some, None, map, filter, filter_map, refl, ap, ◌∙◌}
use Rattle.std.specs.Prelude.{ℤ, flat_map, option_and_then}
use Rattle.std.specs.List.{cons_option}
use Rattle.std.proofs.lemmas.List.{append-nil}
use Rattle.std.proofs.lemmas.List.Elements.{filter_map-append}
use Rattle.guards_model.specs.declared.Slot.{Slot}
use Rattle.guards_model.specs.Slots.{same_slot, every_slot}
use Rattle.guards_model.specs.Channels.{Channel, channels_where}
use Rattle.guards_model.specs.Faults.{FaultValue, crash, restart, damage, bus}
use Rattle.guards_model.specs.Missions.{MissionValue, channels_of, sensor}
use Rattle.guards_model.specs.Network.{EntryValue}
use Rattle.guards_model.specs.Rounds.{Steps}
use Rattle.guards_runs.specs.Cycles.{Cycle, Past, mode_after, this_cycle}
use Rattle.guards_runs.specs.Events.{Event, deliver, crashed, restarted, waited, damaged, sensed, tick, restart_event, damage_event, crash_event, ends_waiting, round_events, slot_events, cycle_events}

-- ---- lists

fused : {A B C : Type 0} (f : B → Option C) (g : A → Option B) (xs : List A) →
    filter_map f (filter_map g xs) ≡ filter_map (λ x. option_and_then f (g x)) xs
fused f g [] = refl
fused f g (x ∷ xs) = step (g x) ∙ ap (cons_option (option_and_then f (g x))) (fused f g xs)
  where
    step : (o : Option _) → filter_map f (cons_option o (filter_map g xs))
        ≡ cons_option (option_and_then f o) (filter_map f (filter_map g xs))
    step None = refl
    step (Some y) = refl

none_kept : {A B : Type 0} (f : A → Option B) (xs : List A) → ((x : A) → f x ≡ None) → filter_map f xs ≡ []
none_kept f [] h = refl
none_kept f (x ∷ xs) h = ap (λ o. cons_option o (filter_map f xs)) (h x) ∙ none_kept f xs h

pub none_mapped : {A B C : Type 0} (f : B → Option C) (g : A → B) (xs : List A) → ((x : A) → f (g x) ≡ None) →
    filter_map f (map g xs) ≡ []
none_mapped f g [] h = refl
none_mapped f g (x ∷ xs) h = ap (λ o. cons_option o (filter_map f (map g xs))) (h x) ∙ none_mapped f g xs h

pub through_flat : {A B C : Type 0} (f : B → Option C) (g : A → List B) (xs : List A) →
    filter_map f (flat_map g xs) ≡ flat_map (λ x. filter_map f (g x)) xs
through_flat f g [] = refl
through_flat f g (x ∷ xs) =
    filter_map-append f (g x) (flat_map g xs) ∙ ap (λ l. filter_map f (g x) ++ l) (through_flat f g xs)

pub flat_alike : {A B : Type 0} (f g : A → List B) (xs : List A) → ((x : A) → f x ≡ g x) → flat_map f xs ≡ flat_map g xs
flat_alike f g [] h = refl
flat_alike f g (x ∷ xs) h = ap (λ l. l ++ flat_map f xs) (h x) ∙ ap (λ l. g x ++ l) (flat_alike f g xs h)

-- ---- events

-- sees no event but deliveries and steps
pub record IsDeaf {A : Type 0} (f : Event → Option A) : Type 0 where
  pub crashes : (q : Channel) → f (crashed q) ≡ None
  pub restarts : (q : Channel) → f (restarted q) ≡ None
  pub waits : (q : Channel) → f (waited q) ≡ None
  pub damages : (q block word : ℕ) (value : ℤ) → f (damaged q block word value) ≡ None
  pub senses : (q : Channel) (words : List ℤ) → f (sensed q words) ≡ None
  pub ticks : f tick ≡ None

module _ {A : Type 0} (f : Event → Option A) (deaf : IsDeaf f) where
  if_some : (b : Bool) (event : Event) → f event ≡ None → option_and_then f (cond b (Some event) None) ≡ None
  if_some true event h = h
  if_some false event h = refl

  no_restart : (c : ℕ) (x : FaultValue) → option_and_then f (restart_event c x) ≡ None
  no_restart c (restart q d) = if_some (d == c) (restarted q) (deaf.restarts q)
  no_restart c (crash q d at) = refl
  no_restart c (damage q d block word value) = refl
  no_restart c (bus rule) = refl

  no_damage : (c : ℕ) (x : FaultValue) → option_and_then f (damage_event c x) ≡ None
  no_damage c (damage q d block word value) =
      if_some (d == c) (damaged q block word value) (deaf.damages q block word value)
  no_damage c (crash q d at) = refl
  no_damage c (restart q d) = refl
  no_damage c (bus rule) = refl

  no_crash : (c : ℕ) (slot : Slot) (x : FaultValue) → option_and_then f (crash_event c slot x) ≡ None
  no_crash c slot (crash q d at) = if_some (d == c && same_slot at slot) (crashed q) (deaf.crashes q)
  no_crash c slot (restart q d) = refl
  no_crash c slot (damage q d block word value) = refl
  no_crash c slot (bus rule) = refl

  silent : {B : Type 0} (g : B → Option Event) (xs : List B) → ((x : B) → option_and_then f (g x) ≡ None) →
      filter_map f (filter_map g xs) ≡ []
  silent g xs h = fused f g xs ∙ none_kept (λ x. option_and_then f (g x)) xs h

  -- what is seen of a slot: its deliveries and its steps
  abbrev pub seen_of_slot : Steps → Cycle → Slot → List A
  seen_of_slot steps e slot =
      filter_map f (map deliver (filter (λ (entry : EntryValue). same_slot entry.slot slot) e.entries))
      ++ filter_map f (round_events steps e slot)

  slot_seen : (M : MissionValue) (steps : Steps) (c : ℕ) (e : Cycle) (slot : Slot) →
      filter_map f (slot_events M steps c e slot) ≡ seen_of_slot steps e slot
  slot_seen M steps c e slot =
      let crashes = filter_map (crash_event c slot) M.script in
      let carried = map deliver (filter (λ (entry : EntryValue). same_slot entry.slot slot) e.entries) in
      let made = round_events steps e slot in
      filter_map-append f ((crashes ++ carried) ++ made) (tick ∷ [])
      ∙ ap (λ o. filter_map f ((crashes ++ carried) ++ made) ++ cons_option o []) deaf.ticks
      ∙ append-nil (filter_map f ((crashes ++ carried) ++ made))
      ∙ filter_map-append f (crashes ++ carried) made
      ∙ ap (λ l. l ++ filter_map f made)
      (filter_map-append f crashes carried
      ∙ ap (λ l. l ++ filter_map f carried) (silent (crash_event c slot) M.script (no_crash c slot)))

  -- of a cycle: what is seen of its slots
  pub cycle_seen : (M : MissionValue) (steps : Steps) (past : Past) (e : Cycle) →
      filter_map f (cycle_events M steps past e) ≡ flat_map (seen_of_slot steps e) every_slot
  cycle_seen M steps past e =
      let c = this_cycle past in
      let restarts = filter_map (restart_event c) M.script in
      let waits = map waited (channels_where (λ q. ends_waiting (mode_after M past q))) in
      let damages = filter_map (damage_event c) M.script in
      let senses = map (λ p. sensed p (sensor M p c)) (channels_of M) in
      let slots = flat_map (slot_events M steps c e) every_slot in
      let before_senses : filter_map f ((restarts ++ waits) ++ damages) ≡ [] =
      filter_map-append f (restarts ++ waits) damages
      ∙ ap (λ l. l ++ filter_map f damages)
      (filter_map-append f restarts waits
      ∙ ap (λ l. l ++ filter_map f waits) (silent (restart_event c) M.script (no_restart c))
      ∙ none_mapped f waited (channels_where (λ q. ends_waiting (mode_after M past q))) deaf.waits)
      ∙ silent (damage_event c) M.script (no_damage c) in
      let before_slots : filter_map f (((restarts ++ waits) ++ damages) ++ senses) ≡ [] =
      filter_map-append f ((restarts ++ waits) ++ damages) senses
      ∙ ap (λ l. l ++ filter_map f senses) before_senses
      ∙ none_mapped f (λ p. sensed p (sensor M p c)) (channels_of M) (λ p. deaf.senses p (sensor M p c)) in
      filter_map-append f (((restarts ++ waits) ++ damages) ++ senses) slots
      ∙ ap (λ l. l ++ filter_map f slots) before_slots
      ∙ through_flat f (slot_events M steps c e) every_slot
      ∙ flat_alike (λ slot. filter_map f (slot_events M steps c e slot)) (seen_of_slot steps e) every_slot
      (slot_seen M steps c e)
