-- A channel that the mission does not have is down in every cycle.
use Rattle.std.proofs.Common.{◌≡◌, ℕ, zero, suc, ◌<◌, ◌==◌, Bool, true, false, cond, List, [], ◌∷◌, length, refl, sym, ap, inl, inr, ◌∙◌}
use Rattle.std.specs.Prelude.{nat_lt, nat_le}
use Rattle.std.specs.List.{list_all, list_any}
use Rattle.std.proofs.lemmas.Bool.{eqb-true, lt-ltb, or_cases}
use Rattle.guards_model.specs.declared.Slot.{Slot}
use Rattle.guards_model.specs.declared.Slot.TheVariants.{Switch}
use Rattle.guards_model.specs.Slots.{on_bus}
use Rattle.guards_model.specs.Channels.{Channel, has}
use Rattle.guards_model.specs.Faults.{FaultValue, crash, restart, damage, bus}
use Rattle.guards_model.specs.Missions.{MissionValue, IsMission, channels_of, is_fault}
use Rattle.guards_model.specs.Modes.{ModeValue, up, down, is_restart, is_crash_by, mode_at_start, mode_at_end}
use Rattle.guards_model.specs.Network.{Log}
use Rattle.guards_model.proofs.BoolTests.{both, clear}
use Rattle.guards_runs.specs.Cycles.{Past, mode_in, mode_after, active_set, is_whole, next_cycle, cycles_before, cycle_at}
use Rattle.guards_laws.proofs.HeldIdeal.{start, start-is, slot_mode}
use Rattle.guards_laws.proofs.WithinChannels.{active_within}

same_low : (p q k : ℕ) → p ≡ q → nat_lt p k ≡ true → nat_lt q k ≡ true
same_low p q k is low = ap (λ x. nat_lt x k) (sym is) ∙ low

restart_of : (M : MissionValue) (q c : ℕ) (f : FaultValue) → is_fault M f ≡ true → is_restart q c f ≡ true →
    nat_lt q M.rules.channels ≡ true
restart_of M q c (restart p d) fits is =
    same_low p q M.rules.channels (eqb-true p q (both (p == q) (d == c) is).0)
    (both (nat_lt d M.cycles) (nat_lt p M.rules.channels) fits).1
restart_of M q c (crash p d slot) fits is = absurd cc
restart_of M q c (damage p d block word value) fits is = absurd cc
restart_of M q c (bus rule) fits is = absurd cc

-- the script restarts only channels of the mission
restarts_within : (M : MissionValue) (q c : ℕ) (script : List FaultValue) → list_all (is_fault M) script ≡ true →
    list_any (is_restart q c) script ≡ true →
    nat_lt q M.rules.channels ≡ true
restarts_within M q c [] fits is = absurd cc
restarts_within M q c (f ∷ script) fits is =
    let parts = both (is_fault M f) (list_all (is_fault M) script) fits in
    elim (or_cases (is_restart q c f) (list_any (is_restart q c) script) is)
    [ inl here ↦ restart_of M q c f parts.0 here | inr there ↦ restarts_within M q c script parts.1 there ]

stays_down : (crashed : Bool) (m : ModeValue) → m ≡ down → cond crashed down m ≡ down
stays_down true m h = refl
stays_down false m h = h

module _ (M : MissionValue) (L : Log) (mission : IsMission M) (q : Channel) (low : q < 7)
    (outside : nat_lt q M.rules.channels ≡ false) where
  never : (c : ℕ) → list_any (is_restart q c) M.script ≡ false
  never c =
      clear (list_any (is_restart q c) M.script)
      (λ is. sym (restarts_within M q c M.script
      (both (nat_le (length M.script) 1024) (list_all (is_fault M) M.script) mission.script).1 is) ∙ outside)

  starts_down : (past : Past) → mode_after M past q ≡ down → start M L past q low ≡ down
  starts_down past was =
      start-is M L past q low
      ∙ ap (λ m. mode_at_start (list_any (is_restart q (length past)) M.script) m) was
      ∙ ap (λ b. mode_at_start b down) (never (length past))

  down_in : (past : Past) → mode_after M past q ≡ down → (slot : Slot) → on_bus slot ≡ true →
      mode_in (next_cycle M L past) q slot ≡ down
  down_in past was slot on =
      slot_mode M L past q low slot on
      ∙ stays_down (list_any (is_crash_by q (length past) slot) M.script) (start M L past q low)
      (starts_down past was)

  down_after : (n : ℕ) → mode_after M (cycles_before M L n) q ≡ down
  down_after zero =
      ap (λ b. cond b up down) (clear (has (channels_of M) q)
      (λ there. sym (lt-ltb q M.rules.channels (active_within M L zero q there)) ∙ outside))
  down_after (suc n) =
      let past = cycles_before M L n in
      let e = next_cycle M L past in
      ap (mode_at_end M.return_after (has (active_set M (e ∷ past)) q) (is_whole q (e ∷ past)))
      (down_in past (down_after n) Switch refl)

  pub is_down_in : (n : ℕ) (slot : Slot) → on_bus slot ≡ true → mode_in (cycle_at M L n) q slot ≡ down
  is_down_in n slot on = down_in (cycles_before M L n) (down_after n) slot on
