-- Where no entry of a script names a channel in some cycles, nothing befalls it in them.
use Rattle.std.proofs.Common.{◌≡◌, ℕ, ◌<◌, ◌≤◌, ◌==◌, Bool, true, false, cond, not, ◌&&◌, ◌||◌, List, [], ◌∷◌, length, Option, None, Some, refl, sym, ap, subst, ◌∙◌, arith, eq-eqb}
use Rattle.std.specs.Prelude.{nat_le, find, filter_map, bytes_eq}
use Rattle.std.specs.List.{list_any, AllByRecursion}
use Rattle.std.proofs.lemmas.Bool.{eqb-true, le-leb}
use Rattle.guards_model.specs.declared.Slot.{Slot}
use Rattle.guards_model.specs.declared.Slot.TheVariants.{Switch}
use Rattle.guards_model.specs.Slots.{up_to, same_slot}
use Rattle.guards_model.specs.BusRules.{RuleValue}
use Rattle.guards_model.specs.Channels.{Channel}
use Rattle.guards_model.specs.Damages.{is_damage}
use Rattle.guards_model.specs.Faults.{FaultValue, crash, restart, damage, bus}
use Rattle.guards_model.specs.Missions.{MissionValue, bus_rule}
use Rattle.guards_model.specs.Modes.{is_crash_by}
use Rattle.guards_model.specs.Network.{EntryValue, Log}
use Rattle.guards_model.specs.ScriptedBus.{IsScripted, fits_carry, fits_receiver, by_rule}
use Rattle.guards_model.proofs.BoolTests.{no_first, clear, clear_or, both, and_true}
use Rattle.guards_runs.specs.Disturbed.{is_charge, differs_from}
use Rattle.campaign_facts.specs.Facts.{names, named_channel, fault_cycle}

-- what follows from a test that none passes is passed by none
implied : {A : Type 0} (p r : A → Bool) → ((x : A) → r x ≡ true → p x ≡ true) → (xs : List A) → list_any p xs ≡ false → list_any r xs ≡ false
implied p r follows [] none = refl
implied p r follows (x ∷ xs) none =
    let parts = no_first (p x) (list_any p xs) none in
    clear_or (r x) (list_any r xs) (clear (r x) (λ is. sym (follows x is) ∙ parts.0)) (implied p r follows xs parts.1)

bytes_same : (xs : List ℕ) → bytes_eq xs xs ≡ true
bytes_same [] = refl
bytes_same (x ∷ xs) = and_true (x == x) (bytes_eq xs xs) (eq-eqb x x refl) (bytes_same xs)

module _ (q first last d : ℕ) (low : first ≤ d) (high : d ≤ last) where
  named_at : (entry : FaultValue) → (named_channel entry == q) ≡ true → fault_cycle entry ≡ d → names q first last entry ≡ true
  named_at entry channel cycle =
      and_true (named_channel entry == q) (nat_le first (fault_cycle entry) && nat_le (fault_cycle entry) last) channel
      (and_true (nat_le first (fault_cycle entry)) (nat_le (fault_cycle entry) last)
      (le-leb first (fault_cycle entry) (omega (arith, cycle, low))) (le-leb (fault_cycle entry) last (omega (arith, cycle, high))))

  crash_named : (slot : Slot) (entry : FaultValue) → is_crash_by q d slot entry ≡ true → names q first last entry ≡ true
  crash_named slot (crash p c at) is =
      let parts = both (p == q && c == d) (up_to at slot) is in
      let who = both (p == q) (c == d) parts.0 in
      named_at (crash p c at) who.0 (eqb-true c d who.1)
  crash_named slot (restart p c) is = absurd cc
  crash_named slot (damage p c block word value) is = absurd cc
  crash_named slot (bus rule) is = absurd cc

  damage_named : (entry : FaultValue) → is_damage q d entry ≡ true → names q first last entry ≡ true
  damage_named (damage p c block word value) is =
      let who = both (p == q) (c == d) is in
      named_at (damage p c block word value) who.0 (eqb-true c d who.1)
  damage_named (crash p c at) is = absurd cc
  damage_named (restart p c) is = absurd cc
  damage_named (bus rule) is = absurd cc

  rule_named : (rule : RuleValue) (slot : Slot) (to c from : ℕ) → c ≡ d → from ≡ q → fits_carry c slot from to rule ≡ true → names q first last (bus rule) ≡ true
  rule_named rule slot to c from cycle sender fits =
      let outer = both ((rule.cycle == c && same_slot rule.slot slot) && rule.from == from) (fits_receiver rule.to to) fits in
      let middle = both (rule.cycle == c && same_slot rule.slot slot) (rule.from == from) outer.0 in
      let inner = both (rule.cycle == c) (same_slot rule.slot slot) middle.0 in
      named_at (bus rule) (subst (λ (k : ℕ). (rule.from == k) ≡ true) sender middle.1) (eqb-true rule.cycle c inner.0 ∙ cycle)

  -- no rule fits a piece of the channel
  unfit : (c : ℕ) (slot : Slot) (from to : ℕ) → c ≡ d → from ≡ q → (script : List FaultValue) → list_any (names q first last) script ≡ false →
      find (fits_carry c slot from to) (filter_map bus_rule script) ≡ None
  unfit c slot from to cycle sender [] none = refl
  unfit c slot from to cycle sender (crash p k at ∷ script) none =
      unfit c slot from to cycle sender script (no_first (names q first last (crash p k at)) (list_any (names q first last) script) none).1
  unfit c slot from to cycle sender (restart p k ∷ script) none =
      unfit c slot from to cycle sender script (no_first (names q first last (restart p k)) (list_any (names q first last) script) none).1
  unfit c slot from to cycle sender (damage p k block word value ∷ script) none =
      unfit c slot from to cycle sender script (no_first (names q first last (damage p k block word value)) (list_any (names q first last) script) none).1
  unfit c slot from to cycle sender (bus rule ∷ script) none =
      let parts = no_first (names q first last (bus rule)) (list_any (names q first last) script) none in
      let other : fits_carry c slot from to rule ≡ false = clear (fits_carry c slot from to rule) (λ fits. sym (rule_named rule slot to c from cycle sender fits) ∙ parts.0) in
      ap (λ b. cond b (Some rule) (find (fits_carry c slot from to) (filter_map bus_rule script))) other ∙ unfit c slot from to cycle sender script parts.1

  module _ (script : List FaultValue) (none : list_any (names q first last) script ≡ false) where
    pub uncrashed_by : (slot : Slot) → list_any (is_crash_by q d slot) script ≡ false
    uncrashed_by slot = implied (names q first last) (is_crash_by q d slot) (crash_named slot) script none

    pub undamaged_by : list_any (is_damage q d) script ≡ false
    undamaged_by = implied (names q first last) (is_damage q d) damage_named script none

    no_charge : (x : EntryValue) → IsScripted (filter_map bus_rule script) x → is_charge d Switch q x ≡ false
    no_charge x scripted =
        clear (is_charge d Switch q x)
        (λ charged.
        let outer = both ((x.cycle == d && up_to x.slot Switch) && x.from == q) (differs_from x.sent x.delivered) charged in
        let middle = both (x.cycle == d && up_to x.slot Switch) (x.from == q) outer.0 in
        let inner = both (x.cycle == d) (up_to x.slot Switch) middle.0 in
        let unruled = unfit x.cycle x.slot x.from x.to (eqb-true x.cycle d inner.0) (eqb-true x.from q middle.1) script none in
        let same : x.delivered ≡ Some x.sent = scripted ∙ ap (by_rule x.sent) unruled in
        sym outer.1 ∙ ap (differs_from x.sent) same ∙ ap not (bytes_same x.sent))

    pub uncharged_by : (entries : Log) → AllByRecursion (IsScripted (filter_map bus_rule script)) entries → list_any (is_charge d Switch q) entries ≡ false
    uncharged_by [] all = refl
    uncharged_by (x ∷ entries) all = clear_or (is_charge d Switch q x) (list_any (is_charge d Switch q) entries) (no_charge x all.0) (uncharged_by entries all.1)
