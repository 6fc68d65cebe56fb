-- What each entry of a drawn script passes.
use Rattle.std.proofs.Common.{◌≡◌, ℕ, zero, suc, ◌+◌, ◌-◌, ◌<◌, ◌≤◌, List, [], ◌∷◌, ◌++◌, refl, arith, Bool, true, ◌^◌}
use Rattle.std.specs.Prelude.{pos, nat_lt, take, slice_get, unwrap_or, Some, if◌then◌else◌, false}
use Rattle.std.specs.List.{list_all}
use Rattle.std.proofs.lemmas.Bool.{ltb-true}
use Rattle.guards_model.specs.declared.Slot.{Slot}
use Rattle.guards_model.specs.declared.Slot.TheVariants.{Request, Round1, Vote}
use Rattle.guards_model.specs.Slots.{every_slot, slot_index}
use Rattle.guards_model.specs.Faults.{FaultValue, crash, restart, damage, bus}
use Rattle.guards_model.specs.BusRules.{lose, forge}
use Rattle.guards_model.proofs.BoolTests.{and_true}
use Rattle.guards_model.proofs.ListTests.{place_passes, all-append, all-take}
use Rattle.fault_script.specs.Entries.{is_in_cycle}
use Rattle.demo_mission.specs.Demo.{next_number, drawn, draws, number_after}
use Rattle.campaign_draws.specs.declared.rates.Rates.{Rates}
use Rattle.campaign_draws.specs.Drawing.{SizesValue, happens, restart_in, crashes, damages, losses, forgeries, forged_vote, lossy_slots, other_channel, after_crash, after_damage, after_loss, channel_faults, after_channel, channels_faults, after_channels, cycles_faults, drawn_faults}

-- each entry is of a cycle and a channel that there are, and what else it names is drawn
module _ (P : FaultValue → Bool) (S : SizesValue) (rates : Rates)
    (crash_passes : (c q k : ℕ) → c < S.cycles → q < S.channels → P (crash q c (unwrap_or (slice_get every_slot k) Request)) ≡ true)
    (restart_passes : (c q : ℕ) → c < S.cycles → q < S.channels → P (restart q c) ≡ true)
    (damage_passes : (c q x y z : ℕ) → c < S.cycles → q < S.channels → P (damage q c (drawn S.blocks x) (drawn 8 y) (pos (drawn (2 ^ 31) z))) ≡ true)
    (loss_passes : (c q x : ℕ) (slot : Slot) → c < S.cycles → q < S.channels →
    P (bus (record { cycle = c; slot = slot; from = q; to = Some (other_channel S.channels q (drawn (S.channels - 1) x)); act = lose })) ≡ true)
    (forgery_passes : (c q x y : ℕ) → c < S.cycles → q < S.channels →
    P (bus (record { cycle = c; slot = Vote; from = q; to = Some (other_channel S.channels q (drawn (S.channels - 1) x)); act = forge (forged_vote S.version c q (draws S.outputs (2 ^ 31) y)) })) ≡ true) where
  one_passes : (entry : FaultValue) (rest : List FaultValue) (b : Bool) → (b ≡ true → P entry ≡ true) → list_all P rest ≡ true → list_all P (if b then entry ∷ rest else []) ≡ true
  one_passes entry rest true first others = and_true (P entry) (list_all P rest) (first refl) others
  one_passes entry rest false first others = refl

  module _ (c q : ℕ) (early : c < S.cycles) (member : q < S.channels) where
    crashes_pass : (x : ℕ) → list_all P (crashes S rates c q x) ≡ true
    unfolding crashes
    crashes_pass x =
        let back = c + 1 + drawn 8 (number_after 3 x) in
        one_passes (crash q c (unwrap_or (slice_get every_slot (drawn 9 (number_after 2 x))) Request)) (restart_in S rates c q back) (happens rates.crash x)
        (λ _. crash_passes c q (drawn 9 (number_after 2 x)) early member)
        (one_passes (restart q back) [] (nat_lt back S.cycles) (λ there. restart_passes back q (ltb-true back S.cycles there) member) refl)

    damages_pass : (x : ℕ) → list_all P (damages S rates c q x) ≡ true
    unfolding damages
    damages_pass x =
        one_passes (damage q c (drawn S.blocks (number_after 2 x)) (drawn 8 (number_after 3 x)) (pos (drawn (2 ^ 31) (number_after 4 x)))) [] (happens rates.damage x)
        (λ _. damage_passes c q (number_after 2 x) (number_after 3 x) (number_after 4 x) early member) refl

    losses_pass : (x : ℕ) → list_all P (losses S rates c q x) ≡ true
    unfolding losses
    losses_pass x =
        let slot = unwrap_or (slice_get lossy_slots (drawn 5 (number_after 2 x))) Round1 in
        let to = other_channel S.channels q (drawn (S.channels - 1) (number_after 3 x)) in
        one_passes (bus (record { cycle = c; slot = slot; from = q; to = Some to; act = lose })) [] (happens rates.lose x)
        (λ _. loss_passes c q (number_after 3 x) slot early member) refl

    forgeries_pass : (x : ℕ) → list_all P (forgeries S rates c q x) ≡ true
    unfolding forgeries
    forgeries_pass x =
        let after = next_number (number_after S.outputs (next_number x)) in
        let to = other_channel S.channels q (drawn (S.channels - 1) after) in
        let piece = forged_vote S.version c q (draws S.outputs (2 ^ 31) (next_number x)) in
        one_passes (bus (record { cycle = c; slot = Vote; from = q; to = Some to; act = forge piece })) [] (happens rates.forge x)
        (λ _. forgery_passes c q after (next_number x) early member) refl

    channel_passes : (x : ℕ) → list_all P (channel_faults S rates c q x) ≡ true
    unfolding channel_faults
    channel_passes x =
        let x1 = after_crash S rates x in
        let x2 = after_damage S rates x1 in
        let x3 = after_loss S rates x2 in
        all-append P (crashes S rates c q x) (damages S rates c q x1 ++ (losses S rates c q x2 ++ forgeries S rates c q x3)) (crashes_pass x)
        (all-append P (damages S rates c q x1) (losses S rates c q x2 ++ forgeries S rates c q x3) (damages_pass x1)
        (all-append P (losses S rates c q x2) (forgeries S rates c q x3) (losses_pass x2) (forgeries_pass x3)))

  channels_pass : (c count q x : ℕ) → c < S.cycles → q + count ≤ S.channels → list_all P (channels_faults S rates c count q x) ≡ true
  unfolding channels_faults
  channels_pass c zero q x early members = refl
  channels_pass c (suc count) q x early members =
      all-append P (channel_faults S rates c q x) (channels_faults S rates c count (q + 1) (after_channel S rates x))
      (channel_passes c q early (omega (arith, members)) x) (channels_pass c count (q + 1) (after_channel S rates x) early (omega (arith, members)))

  cycles_pass : (count c x : ℕ) → c + count ≤ S.cycles → list_all P (cycles_faults S rates count c x) ≡ true
  unfolding cycles_faults
  cycles_pass zero c x early = refl
  cycles_pass (suc count) c x early =
      all-append P (channels_faults S rates c S.channels 0 x) (cycles_faults S rates count (c + 1) (after_channels S rates S.channels x))
      (channels_pass c S.channels 0 x (omega (arith, early)) (omega arith)) (cycles_pass count (c + 1) (after_channels S rates S.channels x) (omega (arith, early)))

  pub drawn_pass : (x : ℕ) → list_all P (drawn_faults S rates x) ≡ true
  unfolding drawn_faults
  drawn_pass x = all-take P 1024 (cycles_faults S rates S.cycles 0 x) (cycles_pass S.cycles 0 x (omega arith))

-- each crash is in a slot of the cycle
some_slot : (c q k : ℕ) → is_in_cycle (crash q c (unwrap_or (slice_get every_slot k) Request)) ≡ true
some_slot c q k = place_passes (λ slot. nat_lt (slot_index slot) 9) every_slot k Request refl refl

pub all_in_cycle : (S : SizesValue) (rates : Rates) (x : ℕ) → list_all is_in_cycle (drawn_faults S rates x) ≡ true
all_in_cycle S rates x =
    drawn_pass is_in_cycle S rates (λ c q k _ _. some_slot c q k) (λ c q _ _. refl) (λ c q x y z _ _. refl) (λ c q x slot _ _. refl) (λ c q x y _ _. refl) x
