-- As far as both came in a cycle, the same channels are disturbed in two runs over a bus that does what a script says
-- that forges no sweep frame: a sweep frame is delivered as it was sent or lost, wherever its copies fell.
use Rattle.std.proofs.Common.{◌≡◌, ℕ, ◌==◌, ◌*◌, Bool, true, false, cond, not, ◌&&◌, ◌||◌, List, [], ◌∷◌, length, Option, None, Some, refl, sym, ap, subst, ◌∙◌, eq-eqb}
use Rattle.std.specs.Prelude.{find, filter, is_some, nat_le}
use Rattle.std.specs.List.{list_any, AllByRecursion, AllZip}
use Rattle.std.proofs.Math.Path.{fun_ext}
use Rattle.std.proofs.lemmas.Bool.{eqb-true}
use Rattle.std.proofs.lemmas.Slice.Eq.{bytes_eq-Decides}
use Rattle.guards_model.specs.declared.Slot.{Slot}
use Rattle.guards_model.specs.declared.Slot.TheVariants.{Request, Round1, Round2, Round3, Tasks, Vote, Sweep, Final, Switch, Output}
use Rattle.guards_model.specs.Slots.{up_to, same_slot, slot_index}
use Rattle.guards_model.specs.Channels.{Channel, ChannelSet, has, place_or}
use Rattle.guards_model.specs.BusRules.{RuleValue, lose}
use Rattle.guards_model.specs.Missions.{MissionValue, bus_rules}
use Rattle.guards_model.specs.Modes.{down, is_up}
use Rattle.guards_model.specs.Network.{EntryValue, Log, is_carry}
use Rattle.guards_model.specs.ScriptedBus.{IsScripted, fits_carry, fits_receiver, by_rule, delivered_piece, delivered_by}
use Rattle.guards_runs.specs.Cycles.{Cycle, CycleStart, Past, next_cycle}
use Rattle.guards_runs.specs.Disturbed.{differs_from, is_charge, disturbed_channels, halts}
use Rattle.guards_runs.specs.Due.{Carry, IsDue, AtSomePlaces, owed, due_bytes, due_origin, carries_through}
use Rattle.guards_model.proofs.BoolTests.{both, and_true, differ}
use Rattle.guards_model.proofs.SlotTests.{same_slot-equal}
use Rattle.guards_model.proofs.Membership.{found-any}
use Rattle.script_laws.proofs.SamePast.{same_size}
use Rattle.script_laws.specs.Scripts.{ForgesNoSweep}
use Rattle.script_laws.proofs.CarriesDue.{is_sent, IsSentAt, carry, all_sent, found_if}
use Rattle.script_laws.proofs.SlotsAlike.{InBoth, AreBesides, all_of_find, bytes_same, same_start, sent_same, owed_same, earlier}

-- ---- what the script does to a piece

-- whether a scripted bus delivers something else than what was sent
abbrev is_changed : List RuleValue → ℕ → Slot → ℕ → ℕ → List ℕ → Bool
is_changed rules c slot from to sent = differs_from sent (delivered_by rules c slot from to sent)

changed_is : (rules : List RuleValue) (y : EntryValue) (c : ℕ) (slot : Slot) (from to : ℕ) (sent : List ℕ) →
    y.cycle ≡ c → y.slot ≡ slot → y.from ≡ from → y.to ≡ to → y.sent ≡ sent →
    IsScripted rules y → differs_from y.sent y.delivered ≡ is_changed rules c slot from to sent
changed_is rules y c slot from to sent p q r s t h =
    ap (differs_from y.sent) h
    ∙ ap (λ k. is_changed rules k y.slot y.from y.to y.sent) p
    ∙ ap (λ k. is_changed rules c k y.from y.to y.sent) q
    ∙ ap (λ k. is_changed rules c slot k y.to y.sent) r
    ∙ ap (λ k. is_changed rules c slot from k y.sent) s
    ∙ ap (is_changed rules c slot from to) t

-- a rule that fits a sweep frame loses it
module _ (rules : List RuleValue) (c from to : ℕ) where
  some_is : (x y : RuleValue) → Some x ≡ Some y → x ≡ y
  some_is x y h = cc

  loses : (all : List RuleValue) (rule : RuleValue) → ForgesNoSweep all →
      find (fits_carry c Sweep from to) all ≡ Some rule → rule.act ≡ lose
  loses [] rule none h = absurd cc
  loses (x ∷ all) rule none h = by_test (fits_carry c Sweep from to x) refl h (loses all rule none.1)
    where
      by_test : (b : Bool) → fits_carry c Sweep from to x ≡ b →
          cond b (Some x) (find (fits_carry c Sweep from to) all) ≡ Some rule →
          (find (fits_carry c Sweep from to) all ≡ Some rule → rule.act ≡ lose) → rule.act ≡ lose
      by_test true fits k later =
          let a = both ((x.cycle == c && same_slot x.slot Sweep) && x.from == from) (fits_receiver x.to to) fits in
          let b = both (x.cycle == c && same_slot x.slot Sweep) (x.from == from) a.0 in
          let s = both (x.cycle == c) (same_slot x.slot Sweep) b.0 in
          subst (λ (r : RuleValue). r.act ≡ lose) (some_is x rule k) (none.0 (same_slot-equal x.slot Sweep s.1))
      by_test false fits k later = later k

  -- so it is changed exactly where some rule fits it, whatever it says
  sweep_changed : ForgesNoSweep rules → (sent : List ℕ) →
      is_changed rules c Sweep from to sent ≡ is_some (find (fits_carry c Sweep from to) rules)
  sweep_changed none sent = by_rule_found (find (fits_carry c Sweep from to) rules) refl
    where
      by_rule_found : (found : Option RuleValue) → find (fits_carry c Sweep from to) rules ≡ found →
          differs_from sent (by_rule sent found) ≡ is_some found
      by_rule_found None h = ap not ((bytes_eq-Decides sent sent).1 refl)
      by_rule_found (Some rule) h = ap (λ act. differs_from sent (delivered_piece sent act)) (loses rules rule none h)

-- ---- one cycle of two runs

-- the bytes of a frame in whose slot no copies fall
plain_bytes : (M : MissionValue) (past : Past) (e : Cycle) (slot : Slot) (from to : ℕ) (y : EntryValue) →
    same_slot slot Sweep ≡ false → IsDue M past e (carry M past e slot from to) y →
    y.sent ≡ due_bytes M past e (carry M past e slot from to) []
plain_bytes M past e slot from to y plain due = by_slot slot plain due.sent
  where
    by_slot : (s : Slot) → same_slot s Sweep ≡ false →
        AtSomePlaces s (due_origin M past e from)
        (λ places. y.sent ≡ due_bytes M past e (carry M past e slot from to) places) →
        y.sent ≡ due_bytes M past e (carry M past e slot from to) []
    by_slot Request p sent = sent
    by_slot Round1 p sent = sent
    by_slot Round2 p sent = sent
    by_slot Round3 p sent = sent
    by_slot Tasks p sent = sent
    by_slot Vote p sent = sent
    by_slot Sweep p sent = absurd cc
    by_slot Final p sent = sent
    by_slot Switch p sent = sent
    by_slot Output p sent = sent

-- an entry for which a sender is charged, which is due and scripted
record Charged (M : MissionValue) (past : Past) (e : Cycle) (last : Slot) (q : Channel) : Type 0 where
  entry : EntryValue
  sent : is_sent e entry.slot q entry.to ≡ true
  soon : up_to entry.slot last ≡ true
  is_due : IsDue M past e (carry M past e entry.slot q entry.to) entry
  is_scripted : IsScripted (bus_rules M) entry
  changed : differs_from entry.sent entry.delivered ≡ true

-- the due entry of a carry of the running cycle
due_at : (M : MissionValue) (past : Past) (e : Cycle) (k : Carry) (y : EntryValue) (q : Channel) →
    y.cycle ≡ length past → y.from ≡ q → IsDue M past e k y → IsDue M past e (carry M past e y.slot q y.to) y
due_at M past e k y q cycle from due =
    let C : ℕ → Slot → ℕ → ℕ → Carry = λ c s f t. record { cycle = c; slot = s; from = f; to = t } in
    let same : k ≡ carry M past e y.slot q y.to =
    ap (λ c. C c k.slot k.from k.to) (sym due.cycle ∙ cycle) ∙ ap (λ s. C (length past) s k.from k.to) (sym due.slot)
    ∙ ap (λ f. C (length past) y.slot f k.to) (sym due.from ∙ from)
    ∙ ap (λ t. C (length past) y.slot q t) (sym due.to) in
    subst (λ c. IsDue M past e c y) same due

charged_entry : (M : MissionValue) (past : Past) (e : Cycle) (last : Slot) (q : Channel) (carries : List Carry)
    (now : Log) → AllZip (IsDue M past e) carries now → AllByRecursion (IsSentAt e) carries →
    AllByRecursion (IsScripted (bus_rules M)) now → list_any (is_charge (length past) last q) now ≡ true →
    Charged M past e last q
charged_entry M past e last q [] [] zip sent scripted h = absurd cc
charged_entry M past e last q [] (y ∷ now) zip sent scripted h = absurd zip
charged_entry M past e last q (k ∷ carries) [] zip sent scripted h = absurd zip
charged_entry M past e last q (k ∷ carries) (y ∷ now) zip sent scripted h =
    by_test (is_charge (length past) last q y) refl h
    (charged_entry M past e last q carries now zip.1 sent.1 scripted.1)
  where
    by_test : (b : Bool) → is_charge (length past) last q y ≡ b →
        (b || list_any (is_charge (length past) last q) now) ≡ true →
        (list_any (is_charge (length past) last q) now ≡ true → Charged M past e last q) → Charged M past e last q
    by_test true is more later =
        let a = both ((y.cycle == length past && up_to y.slot last) && y.from == q) (differs_from y.sent y.delivered)
        is in
        let b = both (y.cycle == length past && up_to y.slot last) (y.from == q) a.0 in
        let s = both (y.cycle == length past) (up_to y.slot last) b.0 in
        let due : IsDue M past e (carry M past e y.slot q y.to) y =
        due_at M past e k y q (eqb-true y.cycle (length past) s.0) (eqb-true y.from q b.1) zip.0 in
        record {
          entry = y;
          sent = ap (λ (s : Slot). is_sent e s q y.to) zip.0.slot
              ∙ ap (λ f. is_sent e k.slot f y.to) (sym (eqb-true y.from q b.1) ∙ zip.0.from)
              ∙ ap (is_sent e k.slot k.from) zip.0.to ∙ sent.0;
          soon = s.1;
          is_due = due;
          is_scripted = scripted.0;
          changed = a.1;
        }
    by_test false is more later = later more

-- what is found passes a test, so some element does
any_found : (p t : EntryValue → Bool) (xs : Log) (y : EntryValue) → find p xs ≡ Some y → t y ≡ true →
    list_any t xs ≡ true
any_found p t xs y h k = by_any (list_any t xs) refl
  where
    by_any : (b : Bool) → list_any t xs ≡ b → b ≡ true
    by_any true e = refl
    by_any false e = differ (sym k ∙ found-any p t xs y h e)

moved : (a b : Bool) → a ≡ b → a ≡ true → b ≡ true
moved a b h k = sym h ∙ k

module _ (M : MissionValue) (L K : Log) (P R : Past) (last other : Slot) (two : AreBesides M L K P R last other)
    (none : ForgesNoSweep (bus_rules M)) where
  -- the bus changes what one run sent on a carry where it changes what the other sent
  changed_same : (slot : Slot) → InBoth last other slot → (from to : ℕ) (y z : EntryValue) →
      IsDue M P (next_cycle M L P) (carry M P (next_cycle M L P) slot from to) y →
      IsDue M R (next_cycle M K R) (carry M R (next_cycle M K R) slot from to) z → IsScripted (bus_rules M) y →
      IsScripted (bus_rules M) z →
      differs_from y.sent y.delivered ≡ differs_from z.sent z.delivered
  changed_same slot h from to y z due_y due_z script_y script_z = by_kind (same_slot slot Sweep) refl
    where
      e : Cycle
      e = next_cycle M L P

      d : Cycle
      d = next_cycle M K R

      first : (sent : List ℕ) → y.sent ≡ sent →
          differs_from y.sent y.delivered ≡ is_changed (bus_rules M) (length P) slot from to sent
      first sent is = changed_is (bus_rules M) y (length P) slot from to sent due_y.cycle due_y.slot due_y.from due_y.to
          is script_y

      second : (sent : List ℕ) → z.sent ≡ sent →
          differs_from z.sent z.delivered ≡ is_changed (bus_rules M) (length R) slot from to sent
      second sent is = changed_is (bus_rules M) z (length R) slot from to sent due_z.cycle due_z.slot due_z.from
          due_z.to is script_z

      sweep_same : slot ≡ Sweep →
          is_changed (bus_rules M) (length P) slot from to y.sent
          ≡ is_changed (bus_rules M) (length R) slot from to z.sent
      sweep_same is =
          ap (λ (s : Slot). is_changed (bus_rules M) (length P) s from to y.sent) is
          ∙ sweep_changed (bus_rules M) (length P) from to none y.sent
          ∙ ap (λ c. is_some (find (fits_carry c Sweep from to) (bus_rules M))) (same_size P R two.same)
          ∙ sym (sweep_changed (bus_rules M) (length R) from to none z.sent)
          ∙ ap (λ (s : Slot). is_changed (bus_rules M) (length R) s from to z.sent) (sym is)

      by_kind : (b : Bool) → same_slot slot Sweep ≡ b →
          differs_from y.sent y.delivered ≡ differs_from z.sent z.delivered
      by_kind true is = first y.sent refl ∙ sweep_same (same_slot-equal slot Sweep is) ∙ sym (second z.sent refl)
      by_kind false plain =
          let bytes = bytes_same M L K P R last other two from (owed M P (next_cycle M L P) slot from to [])
          (owed M R (next_cycle M K R) slot from to []) (owed_same M L K P R last other two slot plain h from to) in
          first (due_bytes M P (next_cycle M L P) (carry M P (next_cycle M L P) slot from to) [])
          (plain_bytes M P (next_cycle M L P) slot from to y plain due_y)
          ∙ ap (λ c. is_changed (bus_rules M) c slot from to
          (due_bytes M P (next_cycle M L P) (carry M P (next_cycle M L P) slot from to) []))
          (same_size P R two.same)
          ∙ ap (is_changed (bus_rules M) (length R) slot from to) bytes
          ∙ sym (second (due_bytes M R (next_cycle M K R) (carry M R (next_cycle M K R) slot from to) [])
          (plain_bytes M R (next_cycle M K R) slot from to z plain due_z))

  -- who is charged in one run is charged in the other
  charged_too : (slot : Slot) → InBoth last other slot → (q : Channel) →
      list_any (is_charge (length P) slot q) (next_cycle M L P).entries ≡ true →
      list_any (is_charge (length R) slot q) (next_cycle M K R).entries ≡ true
  charged_too slot h q charged =
      let e = next_cycle M L P in
      let d = next_cycle M K R in
      let y = charged_entry M P e slot q (carries_through (length P) e last) e.entries two.due_first
      (all_sent (length P) e last) two.script_first charged in
      let here : InBoth last other y.entry.slot = earlier last other y.entry.slot slot y.soon h in
      let f = found_if M R d y.entry.slot q y.entry.to other two.due_second here.second
      (sym (sent_same M L K P R last other two y.entry.slot here q y.entry.to) ∙ y.sent) in
      let z : EntryValue = f.entry in
      let script : IsScripted (bus_rules M) z =
      all_of_find (IsScripted (bus_rules M)) (is_carry (length R) y.entry.slot q y.entry.to) d.entries z
      two.script_second f.is_first in
      let changed : differs_from z.sent z.delivered ≡ true =
      moved (differs_from y.entry.sent y.entry.delivered) (differs_from z.sent z.delivered)
      (changed_same y.entry.slot here q y.entry.to y.entry z y.is_due f.is_due y.is_scripted script) y.changed in
      any_found (is_carry (length R) y.entry.slot q y.entry.to) (is_charge (length R) slot q) d.entries z f.is_first
      (and_true ((z.cycle == length R && up_to z.slot slot) && z.from == q) (differs_from z.sent z.delivered)
      (and_true (z.cycle == length R && up_to z.slot slot) (z.from == q)
      (and_true (z.cycle == length R) (up_to z.slot slot) (eq-eqb z.cycle (length R) f.is_due.cycle)
      (ap (λ (s : Slot). up_to s slot) f.is_due.slot ∙ y.soon))
      (eq-eqb z.from q f.is_due.from))
      changed)

-- ---- both ways

pub swapped : (M : MissionValue) (L K : Log) (P R : Past) (last other : Slot) → AreBesides M L K P R last other →
    AreBesides M K L R P other last
swapped M L K P R last other two =
    record {
      same = sym two.same;
      due_first = two.due_second;
      due_second = two.due_first;
      script_first = two.script_second;
      script_second = two.script_first;
    }

same_bool : (a b : Bool) → (a ≡ true → b ≡ true) → (b ≡ true → a ≡ true) → a ≡ b
same_bool true b h k = sym (h refl)
same_bool false true h k = k refl
same_bool false false h k = refl

module _ (M : MissionValue) (L K : Log) (P R : Past) (last other : Slot) (two : AreBesides M L K P R last other)
    (none : ForgesNoSweep (bus_rules M)) where
  charges_same : (slot : Slot) → InBoth last other slot → (q : Channel) →
      list_any (is_charge (length P) slot q) (next_cycle M L P).entries
      ≡ list_any (is_charge (length R) slot q) (next_cycle M K R).entries
  charges_same slot h q =
      same_bool _ _ (charged_too M L K P R last other two none slot h q)
      (charged_too M K L R P other last (swapped M L K P R last other two) none slot
      (record { first = h.second; second = h.first }) q)

  pub disturbed_same : (slot : Slot) → InBoth last other slot →
      disturbed_channels (length P) (next_cycle M L P) slot ≡ disturbed_channels (length R) (next_cycle M K R) slot
  disturbed_same slot h =
      let D : CycleStart → (Channel → Bool) → ChannelSet =
      λ o charged. filter (λ q.
      (not (is_up (place_or (place_or o.modes (slot_index slot) []) q down))
      || (has o.damaged q && is_up (place_or (place_or o.modes (slot_index slot) []) q down))) || charged q)
      o.active in
      ap (λ o. D o (λ q. list_any (is_charge (length P) slot q) (next_cycle M L P).entries))
      (same_start M L K P R last other two)
      ∙ ap (D (next_cycle M K R).opening) (fun_ext (charges_same slot h))

  pub halts_same : (slot : Slot) → InBoth last other slot →
      halts (length P) (next_cycle M L P) slot ≡ halts (length R) (next_cycle M K R) slot
  halts_same slot h =
      ap (λ (o : CycleStart). nat_le (length o.active)
      (3 * length (disturbed_channels (length P) (next_cycle M L P) slot))) (same_start M L K P R last other two)
      ∙ ap (λ (set : ChannelSet). nat_le (length (next_cycle M K R).active) (3 * length set)) (disturbed_same slot h)
