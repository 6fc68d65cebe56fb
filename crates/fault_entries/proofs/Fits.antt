-- The entries of a script that breaks no rule fit the mission.
use Rattle.std.proofs.Common.{◌≡◌, ℕ, ◌+◌, Bool, true, false, List, [], ◌∷◌, ◌&&◌, refl}
use Rattle.std.specs.Prelude.{Option, Some, None, nat_le, nat_lt, length, if◌then◌else◌}
use Rattle.std.specs.List.{list_all}
use Rattle.guards_model.specs.Slots.{on_bus}
use Rattle.guards_model.specs.Words.{is_word}
use Rattle.guards_model.specs.Faults.{FaultValue, crash, restart, damage, bus}
use Rattle.guards_model.specs.Missions.{MissionValue, is_fault, is_receiver, is_act}
use Rattle.guards_model.specs.ScriptFaults.{ScriptFaultValue, RuleOfEntry, too_many_entries, wrong_cycle, wrong_channel, wrong_block, wrong_word, wrong_receiver, long_piece, rules_of_entry, first_broken, or_later, entry_fault, script_fault}
use Rattle.guards_model.proofs.BoolTests.{both, and_true}
use Rattle.fault_entries.specs.Entries.{is_entry, FitsSizes}

one_holds : (holds : Bool) (fault : ScriptFaultValue) (rules : List RuleOfEntry) →
    first_broken ((holds, fault) ∷ rules) ≡ None → (holds ≡ true) × (first_broken rules ≡ None)
one_holds true fault rules none = (refl, none)
one_holds false fault rules none = absurd cc

two_hold : (a b : Bool) (f g : ScriptFaultValue) → first_broken ((a, f) ∷ (b, g) ∷ []) ≡ None → (a && b) ≡ true
two_hold a b f g none =
    let first = one_holds a f ((b, g) ∷ []) none in let second = one_holds b g [] first.1 in
    and_true a b first.0 second.0

four_hold : (a b c d : Bool) (f g h k : ScriptFaultValue) →
    first_broken ((a, f) ∷ (b, g) ∷ (c, h) ∷ (d, k) ∷ []) ≡ None → ((a && b) ≡ true) × (c ≡ true) × (d ≡ true)
four_hold a b c d f g h k none =
    let first = one_holds a f ((b, g) ∷ (c, h) ∷ (d, k) ∷ []) none in let second =
    one_holds b g ((c, h) ∷ (d, k) ∷ []) first.1 in
    let third = one_holds c h ((d, k) ∷ []) second.1 in let fourth = one_holds d k [] third.1 in
    (and_true a b first.0 second.0, third.0, fourth.0)

module _ (M : MissionValue) where
  fits_alone : (at : ℕ) (fault : FaultValue) → is_entry fault ≡ true →
      first_broken (rules_of_entry M.rules.channels M.cycles M.rules.blocks at fault) ≡ None → is_fault M fault ≡ true
  fits_alone at (crash q c slot) entry none =
      and_true (nat_lt c M.cycles && nat_lt q M.rules.channels) (on_bus slot)
      (two_hold (nat_lt c M.cycles) (nat_lt q M.rules.channels) (wrong_cycle at) (wrong_channel at) none) entry
  fits_alone at (restart q c) entry none =
      two_hold (nat_lt c M.cycles) (nat_lt q M.rules.channels) (wrong_cycle at) (wrong_channel at) none
  fits_alone at (damage q c block word value) entry none =
      let rules = four_hold (nat_lt c M.cycles) (nat_lt q M.rules.channels) (nat_lt block M.rules.blocks)
      (nat_lt word 8) (wrong_cycle at) (wrong_channel at) (wrong_block at) (wrong_word at) none in
      let place = nat_lt block M.rules.blocks && nat_lt word 8 in
      and_true (nat_lt c M.cycles && nat_lt q M.rules.channels) (place && is_word value) rules.0
      (and_true place (is_word value) (and_true (nat_lt block M.rules.blocks) (nat_lt word 8) rules.1 rules.2) entry)
  fits_alone at (bus rule) entry none =
      let rules = four_hold (nat_lt rule.cycle M.cycles) (nat_lt rule.from M.rules.channels)
      (is_receiver M.rules.channels rule.from rule.to) (is_act rule.act) (wrong_cycle at) (wrong_channel at)
      (wrong_receiver at) (long_piece at) none in
      and_true (nat_lt rule.cycle M.cycles && nat_lt rule.from M.rules.channels)
      (is_receiver M.rules.channels rule.from rule.to && is_act rule.act) rules.0
      (and_true (is_receiver M.rules.channels rule.from rule.to) (is_act rule.act) rules.1 rules.2)

  none_of : (one later : Option ScriptFaultValue) → or_later one later ≡ None → (one ≡ None) × (later ≡ None)
  none_of None later none = (refl, none)
  none_of (Some fault) later none = absurd cc

  each_fits : (at : ℕ) (faults : List FaultValue) → list_all is_entry faults ≡ true →
      entry_fault M.rules.channels M.cycles M.rules.blocks at faults ≡ None → list_all (is_fault M) faults ≡ true
  unfolding entry_fault
  each_fits at [] all none = refl
  each_fits at (fault ∷ faults) all none =
      let entries = both (is_entry fault) (list_all is_entry faults) all in
      let parts = none_of (first_broken (rules_of_entry M.rules.channels M.cycles M.rules.blocks at fault))
      (entry_fault M.rules.channels M.cycles M.rules.blocks (at + 1) faults) none in
      and_true (is_fault M fault) (list_all (is_fault M) faults) (fits_alone at fault entries.0 parts.0)
      (each_fits (at + 1) faults entries.1 parts.1)

  few_fit : (few : Bool) (faults : List FaultValue) → list_all is_entry faults ≡ true →
      (if few then entry_fault M.rules.channels M.cycles M.rules.blocks 0 faults else Some too_many_entries) ≡ None →
      (few && list_all (is_fault M) faults) ≡ true
  few_fit true faults all none = each_fits 0 faults all none
  few_fit false faults all none = absurd cc

  all_fit : (faults : List FaultValue) → list_all is_entry faults ≡ true →
      script_fault M.rules.channels M.cycles M.rules.blocks faults ≡ None →
      (nat_le (length faults) 1024 && list_all (is_fault M) faults) ≡ true
  unfolding script_fault
  all_fit faults all none = few_fit (nat_le (length faults) 1024) faults all none

pub script_fits : (channels cycles blocks : ℕ) (faults : List FaultValue) → list_all is_entry faults ≡ true →
    script_fault channels cycles blocks faults ≡ None → FitsSizes channels cycles blocks faults
script_fits channels cycles blocks faults all none M as_cycles as_channels as_blocks =
    all_fit M faults all (rw (as_cycles, as_channels, as_blocks) none)
