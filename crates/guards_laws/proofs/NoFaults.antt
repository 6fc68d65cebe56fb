-- A run without faults stops nowhere: all channels stay up, nobody is judged, and nobody asks.
use Rattle.std.proofs.Common.{◌≡◌, ℕ, zero, suc, ◌-◌, ◌*◌, ◌<◌, ◌≤◌, ◌==◌, ◌⊎◌, inl, inr, Bool, true, false, cond, not, ◌&&◌, ◌||◌, List, [], ◌∷◌, ◌++◌, length, map, Option, None, Some, refl, sym, ap, subst, ◌∙◌, arith, eq-eqb}
use Rattle.std.specs.Prelude.{nat_lt, nat_le, filter, filter_map, find, flat_map, take, option_map, option_and_then}
use Rattle.std.specs.List.{list_all, list_any, AllByRecursion, AllZip}
use Rattle.std.proofs.lemmas.Bool.{lt-leb, le-leb, leb-true, leb-false, eqb-true, cases_lt, cases_eq}
use Rattle.std.proofs.lemmas.Slice.Eq.{bytes_eq-Decides}
use Rattle.guards_model.specs.declared.Slot.{Slot}
use Rattle.guards_model.specs.declared.Slot.TheVariants.{Request, Switch}
use Rattle.guards_model.specs.declared.Law.{Law}
use Rattle.guards_model.specs.declared.Law.TheVariants.{Multiply, Subtract}
use Rattle.guards_model.specs.Slots.{every_slot, on_bus, up_to}
use Rattle.guards_model.specs.Channels.{Channel, ChannelSet, has, place_or, by_channel, channels_where, numbers_below, without}
use Rattle.guards_model.specs.Faults.{FaultValue, crash, restart, damage, bus}
use Rattle.guards_model.specs.Missions.{MissionValue, IsMission, bus_rule, is_fault, format_of}
use Rattle.guards_model.specs.Frames.{SourceValue}
use Rattle.guards_model.specs.Network.{EntryValue, Log, is_carry, have_of}
use Rattle.guards_model.specs.ScriptedBus.{IsScripted}
use Rattle.guards_model.specs.Modes.{up, down, is_up, is_joining, is_crash_by, is_restart, mode_at_start, mode_at_end}
use Rattle.guards_model.specs.Damages.{is_damage}
use Rattle.guards_model.specs.Diagnosis.{count_step, asks, counts_of}
use Rattle.guards_model.specs.Transfers.{transfer_to, transfer_after}
use Rattle.guards_model.specs.Decisions.{joined_of, request_code}
use Rattle.guards_model.specs.Texts.{StopValue}
use Rattle.guards_runs.specs.Cycles.{Cycle, Past, mode_in, is_damaged, is_whole, active_set, base_counts, running_transfer, mode_after, was_damaged, heard_before, source_word, received_body, cycle_start_of, agreement_of, decision_of, work_of, cycle_from, next_cycle, cycles_before, entries_of}
use Rattle.guards_runs.specs.Disturbed.{is_charge, differs_from, disturbed_channels, halts, stop_in, stop_of, first_of_two}
use Rattle.guards_runs.specs.Due.{Carry, IsDue, is_sender, slot_carries, cycle_carries, carries_frames, receivers}
use Rattle.guards_runs.specs.Promises.{EachCycle, was_undisturbed_or_absent, HasRun, Agrees}
use Rattle.guards_runs.specs.Faultless.{is_harmless, IsFaultless, HasDue}
use Rattle.guards_model.proofs.BoolTests.{both, and_true}
use Rattle.guards_model.proofs.Tables.{at-by_channel, has-channels_where}
use Rattle.guards_model.proofs.Counting.{keep_true}
use Rattle.guards_model.proofs.AscendingLists.{member-channel, member_passes, below_under}
use Rattle.guards_model.proofs.NumbersBelow.{below_there}
use Rattle.guards_model.proofs.TagSteps.{filter_alike}
use Rattle.guards_model.proofs.Membership.{All-flat_map}
use Rattle.guards_model.proofs.SettledWords.{not_many_tell}
use Rattle.guards_laws.proofs.LogGrows.{length-cycles_before}
use Rattle.guards_laws.proofs.HeldIdeal.{start, start-is, slot_mode, damaged-is}
use Rattle.guards_laws.proofs.CycleParts.{active-is, heard-is}
use Rattle.guards_laws.proofs.Channelled.{past_table}
use Rattle.guards_laws.proofs.CarriedEntries.{fields, carried_whole}
use Rattle.guards_laws.proofs.DueEntries.{IsDueNow, each_due, entries_now}
use Rattle.guards_laws.proofs.Planned.{ranges}
use Rattle.guards_laws.proofs.StayActive.{three_active}
use Rattle.guards_laws.proofs.WithinChannels.{active_is_set}
use Rattle.guards_laws.proofs.RunFacts.{IsCycle}
use Rattle.guards_laws.proofs.AgreedWords.{settled_now}
use Rattle.guards_laws.proofs.Agreement.{agrees}

-- ---- the script

differ : false ≡ true → ⊥
differ h = cc

no_crash : (script : List FaultValue) (q c : ℕ) (slot : Slot) → list_all is_harmless script ≡ true →
    list_any (is_crash_by q c slot) script ≡ false
no_crash [] q c slot h = refl
no_crash (crash p d s ∷ script) q c slot h = absurd cc
no_crash (restart p d ∷ script) q c slot h = no_crash script q c slot h
no_crash (damage p d block word value ∷ script) q c slot h = absurd cc
no_crash (bus rule ∷ script) q c slot h = absurd cc

no_damage : (script : List FaultValue) (q c : ℕ) → list_all is_harmless script ≡ true →
    list_any (is_damage q c) script ≡ false
no_damage [] q c h = refl
no_damage (crash p d s ∷ script) q c h = absurd cc
no_damage (restart p d ∷ script) q c h = no_damage script q c h
no_damage (damage p d block word value ∷ script) q c h = absurd cc
no_damage (bus rule ∷ script) q c h = absurd cc

no_rules : (script : List FaultValue) → list_all is_harmless script ≡ true → filter_map bus_rule script ≡ []
no_rules [] h = refl
no_rules (crash p d s ∷ script) h = absurd cc
no_rules (restart p d ∷ script) h = no_rules script h
no_rules (damage p d block word value ∷ script) h = absurd cc
no_rules (bus rule ∷ script) h = absurd cc

-- a restart is of a channel that there is
no_restart : (M : MissionValue) (script : List FaultValue) (q c : ℕ) → list_all is_harmless script ≡ true →
    list_all (is_fault M) script ≡ true → M.rules.channels ≤ q → list_any (is_restart q c) script ≡ false
no_restart M [] q c h fits high = refl
no_restart M (crash p d s ∷ script) q c h fits high = absurd cc
no_restart M (restart p d ∷ script) q c h fits high =
    let parts = both (is_fault M (restart p d)) (list_all (is_fault M) script) fits in
    let low = (both (nat_lt d M.cycles) (nat_lt p M.rules.channels) parts.0).1 in
    ap (λ b. (b && d == c) || list_any (is_restart q c) script)
    (other (p == q) refl (leb-true (suc p) M.rules.channels low)) ∙ no_restart M script q c h parts.1 high
  where
    other : (b : Bool) → (p == q) ≡ b → p < M.rules.channels → b ≡ false
    other true e low = absurd (omega (arith, eqb-true p q e, low, high))
    other false e low = refl
no_restart M (damage p d block word value ∷ script) q c h fits high = absurd cc
no_restart M (bus rule ∷ script) q c h fits high = absurd cc

-- ---- the bus

as_sent : (e : EntryValue) → IsScripted [] e → differs_from e.sent e.delivered ≡ false
as_sent e h = ap (differs_from e.sent) h ∙ ap not ((bytes_eq-Decides e.sent e.sent).1 refl)

off : (a : Bool) → (a && false) ≡ false
off true = refl
off false = refl

none_charged : (L : Log) (c k : ℕ) (slot : Slot) (q : Channel) → AllByRecursion (IsScripted []) L →
    list_any (is_charge c slot q) (entries_of k L) ≡ false
none_charged [] c k slot q h = refl
none_charged (x ∷ L) c k slot q h = by_kept (x.cycle == k) (none_charged L c k slot q h.1)
  where
    fine : is_charge c slot q x ≡ false
    fine = ap (λ b. ((x.cycle == c && up_to x.slot slot) && x.from == q) && b) (as_sent x h.0)
        ∙ off ((x.cycle == c && up_to x.slot slot) && x.from == q)

    by_kept : (b : Bool) → list_any (is_charge c slot q) (entries_of k L) ≡ false →
        list_any (is_charge c slot q) (cond b (x ∷ entries_of k L) (entries_of k L)) ≡ false
    by_kept true rest = ap (λ b. b || list_any (is_charge c slot q) (entries_of k L)) fine ∙ rest
    by_kept false rest = rest

-- ---- who sends nothing

abbrev FromSender : Cycle → Carry → Type 0
FromSender e k = has (channels_where (is_sender e k.slot)) k.from ≡ true

from_row : (c : ℕ) (e : Cycle) (slot : Slot) (q : Channel) (targets : List ℕ) →
    has (channels_where (is_sender e slot)) q ≡ true →
    AllByRecursion (FromSender e) (map (λ (r : ℕ). record { cycle = c; slot = slot; from = q; to = r }) targets)
from_row c e slot q [] there = tt
from_row c e slot q (r ∷ targets) there = (there, from_row c e slot q targets there)

append_all : {A : Type 0} (P : A → Type 0) (xs ys : List A) → AllByRecursion P xs → AllByRecursion P ys →
    AllByRecursion P (xs ++ ys)
append_all P [] ys h k = k
append_all P (x ∷ xs) ys h k = (h.0, append_all P xs ys h.1 k)

from_rows : (c : ℕ) (e : Cycle) (slot : Slot) (senders : List ℕ) →
    ((q : ℕ) → has senders q ≡ true → has (channels_where (is_sender e slot)) q ≡ true) →
    AllByRecursion (FromSender e)
    (flat_map (λ q. map (λ (r : ℕ). record { cycle = c; slot = slot; from = q; to = r })
    (without (receivers e slot) (q ∷ []))) senders)
from_rows c e slot [] h = tt
from_rows c e slot (q ∷ senders) h =
    append_all (FromSender e)
    (map (λ (r : ℕ). record { cycle = c; slot = slot; from = q; to = r }) (without (receivers e slot) (q ∷ [])))
    (flat_map (λ q. map (λ (r : ℕ). record { cycle = c; slot = slot; from = q; to = r })
    (without (receivers e slot) (q ∷ []))) senders)
    (from_row c e slot q (without (receivers e slot) (q ∷ [])) (h q (ap (λ b. b || has senders q) (eq-eqb q q refl))))
    (from_rows c e slot senders (λ r k. h r (later (q == r) (has senders r) k)))
  where
    later : (a b : Bool) → b ≡ true → (a || b) ≡ true
    later true b k = refl
    later false b k = k

slot_senders : (c : ℕ) (e : Cycle) (slot : Slot) → AllByRecursion (FromSender e) (slot_carries c e slot)
slot_senders c e slot = if_carried (carries_frames e slot)
  where
    if_carried : (b : Bool) →
        AllByRecursion (FromSender e)
        (cond b (flat_map (λ q. map (λ (r : ℕ). record { cycle = c; slot = slot; from = q; to = r })
        (without (receivers e slot) (q ∷ []))) (channels_where (is_sender e slot))) [])
    if_carried true = from_rows c e slot (channels_where (is_sender e slot)) (λ q h. h)
    if_carried false = tt

from_senders : (c : ℕ) (e : Cycle) → AllByRecursion (FromSender e) (cycle_carries c e)
from_senders c e = All-flat_map (FromSender e) (slot_carries c e) every_slot (slot_senders c e)

module _ (M : MissionValue) (past : Past) (e : Cycle) (slot : Slot) (from to : ℕ)
    (silent : has (channels_where (is_sender e slot)) from ≡ false) where
  not_of : (k : Carry) (y : EntryValue) (b : Bool) → is_carry (length past) slot from to y ≡ b → IsDue M past e k y →
      FromSender e k → b ≡ false
  not_of k y true test due sends =
      let f = fields (record { cycle = length past; slot = slot; from = from; to = to }) y test in
      let same : has (channels_where (is_sender e k.slot)) k.from ≡ has (channels_where (is_sender e slot)) from =
      ap (λ (s : Slot). has (channels_where (is_sender e s)) k.from) (sym due.slot ∙ f.slot)
      ∙ ap (has (channels_where (is_sender e slot))) (sym due.from ∙ f.from) in
      absurd (differ (sym silent ∙ sym same ∙ sends))
  not_of k y false test due sends = refl

  none_sent : (carries : List Carry) (now : Log) → AllByRecursion (FromSender e) carries →
      AllZip (IsDue M past e) carries now → find (is_carry (length past) slot from to) now ≡ None
  none_sent [] [] all zip = refl
  none_sent [] (y ∷ now) all zip = absurd zip
  none_sent (k ∷ carries) [] all zip = absurd zip
  none_sent (k ∷ carries) (y ∷ now) all zip =
      ap (λ b. cond b (Some y) (find (is_carry (length past) slot from to) now))
      (not_of k y (is_carry (length past) slot from to y) refl zip.0 all.0)
      ∙ none_sent carries now all.1 zip.1

  nothing_heard : IsDueNow M past e → received_body M e.entries (length past) slot from to ≡ None
  nothing_heard due =
      ap (λ o. option_and_then (Rattle.guards_model.specs.Network.counting (format_of M) (length past) slot from to)
      (option_and_then Rattle.guards_model.specs.Fields.frame_in
      (option_and_then (λ (y : EntryValue). y.delivered) o)))
      (none_sent (cycle_carries (length past) e) e.entries (from_senders (length past) e) due)

-- ---- small facts

zero_step : (law : Law) (keep decrement : ℕ) → count_step law keep decrement false 0 ≡ 0
zero_step Multiply keep decrement = omega arith
zero_step Subtract keep decrement = omega arith

abbrev nobody : List ℕ
nobody = []

take_nil : (n : ℕ) → take n nobody ≡ nobody
take_nil zero = refl
take_nil (suc n) = refl

pub filter_none : (xs : List ℕ) → filter (λ q. false) xs ≡ []
filter_none [] = refl
filter_none (x ∷ xs) = filter_none xs

too_many : (n : ℕ) → 3 ≤ n → nat_le n 0 ≡ false
too_many n h = by (nat_le n 0) refl
  where
    by : (b : Bool) → nat_le n 0 ≡ b → b ≡ false
    by true e = absurd (omega (arith, leb-true n 0 e, h))
    by false e = refl

none_of : (p : Slot → Bool) (xs : List Slot) → list_all on_bus xs ≡ true →
    ((s : Slot) → on_bus s ≡ true → p s ≡ false) → find p xs ≡ None
none_of p [] all h = refl
none_of p (x ∷ xs) all h =
    let parts = both (on_bus x) (list_all on_bus xs) all in
    ap (λ b. cond b (Some x) (find p xs)) (h x parts.0) ∙ none_of p xs parts.1 h

not_joining : (b : Bool) → is_joining (cond b up down) ≡ false
not_joining true = refl
not_joining false = refl

ends_as : (k : ℕ) (b taken : Bool) → mode_at_end k b taken (cond b up down) ≡ cond b up down
ends_as k true taken = refl
ends_as k false taken = refl

starts_as : (b restarted : Bool) → (b ≡ false → restarted ≡ false) →
    mode_at_start restarted (cond b up down) ≡ cond b up down
starts_as true restarted h = refl
starts_as false restarted h = ap (λ r. mode_at_start r down) (h refl)

pub below_is : (n q : ℕ) → has (numbers_below n) q ≡ nat_lt q n
below_is n q = by (cases_lt q n)
  where
    not_there : (b : Bool) → has (numbers_below n) q ≡ b → n ≤ q → b ≡ false
    not_there true e high = absurd
        (omega (
          arith,
          leb-true (suc q) n
              (member_passes (λ y. nat_lt y n) (numbers_below n) q (below_under n n (omega arith)) e),
          high,
        ))
    not_there false e high = refl

    by : (q < n) ⊎ (n ≤ q) → has (numbers_below n) q ≡ nat_lt q n
    by (inl low) = below_there n q low ∙ sym (le-leb (suc q) n (omega (arith, low)))
    by (inr high) = not_there (has (numbers_below n) q) refl high ∙ sym (lt-leb (suc q) n (omega (arith, high)))

-- ---- a run without faults

module _ (M : MissionValue) (L : Log) (mission : IsMission M) (faultless : IsFaultless M L) where
  abbrev pub there : Channel → Bool
  there q = nat_lt q M.rules.channels

  pub record Calm (past : Past) : Type 0 where
    pub active : (q : Channel) → q < 7 → has (active_set M past) q ≡ there q
    pub modes : (q : Channel) → q < 7 → mode_after M past q ≡ cond (there q) up down
    pub sound : (q : Channel) → q < 7 → was_damaged past q ≡ false
    pub running : running_transfer past ≡ None
    pub counts : (q : Channel) → place_or (base_counts M past) q 0 ≡ 0
    pub codes : (j q : Channel) → place_or (heard_before past j) q 0 ≡ 0
    pub quiet : (q : Channel) → was_undisturbed_or_absent past q ≡ true

  at_table : (f : Channel → ℕ) (q : Channel) → ((p : Channel) → p < 7 → f p ≡ 0) → place_or (by_channel f) q 0 ≡ 0
  at_table f q h = by (cases_lt q 7)
    where
      by : (q < 7) ⊎ (7 ≤ q) → place_or (by_channel f) q 0 ≡ 0
      by (inl low) = at-by_channel f q 0 low ∙ h q low
      by (inr high) = past_table f q 0 high

  first_calm : Calm []
  first_calm =
      record {
        active = λ q low. below_is M.rules.channels q;
        modes = λ q low. ap (λ b. cond b up down) (below_is M.rules.channels q);
        sound = λ q low. refl;
        running = refl;
        counts = λ q. at_table (λ p. 0) q (λ p low. refl);
        codes = λ j q. at_table (λ p. 0) q (λ p low. refl);
        quiet = λ q. refl;
      }

  rules_none : AllByRecursion (IsScripted []) L
  rules_none = subst (λ rules. AllByRecursion (IsScripted rules) L) (no_rules M.script faultless.harmless)
      faultless.scripted

  script_fits : list_all (is_fault M) M.script ≡ true
  script_fits = (both (nat_le (length M.script) 1024) (list_all (is_fault M) M.script) mission.script).1

  module _ (n : ℕ) (calm : Calm (cycles_before M L n)) where
    abbrev past : Past
    past = cycles_before M L n

    abbrev c : ℕ
    c = length (cycles_before M L n)

    abbrev e : Cycle
    e = next_cycle M L (cycles_before M L n)

    start_here : (q : Channel) (low : q < 7) → start M L past q low ≡ cond (there q) up down
    start_here q low =
        start-is M L past q low
        ∙ ap (mode_at_start (list_any (is_restart q c) M.script)) (calm.modes q low)
        ∙ starts_as (there q) (list_any (is_restart q c) M.script)
        (λ absent. no_restart M M.script q c faultless.harmless script_fits (above absent))
      where
        above : nat_lt q M.rules.channels ≡ false → M.rules.channels ≤ q
        above h = omega (arith, leb-false (suc q) M.rules.channels h)

    pub mode_here : (q : Channel) (low : q < 7) (slot : Slot) → on_bus slot ≡ true →
        mode_in e q slot ≡ cond (there q) up down
    mode_here q low slot on =
        slot_mode M L past q low slot on
        ∙ ap (λ b. cond b down (start M L past q low)) (no_crash M.script q c slot faultless.harmless)
        ∙ start_here q low

    undamaged : (q : Channel) → q < 7 → has e.damaged q ≡ false
    undamaged q low =
        damaged-is M L past q low
        ∙ ap (λ b. is_up (start M L past q low) && (b || was_damaged past q))
        (no_damage M.script q c faultless.harmless)
        ∙ ap (λ b. is_up (start M L past q low) && b) (calm.sound q low)
        ∙ off (is_up (start M L past q low))

    pub active_set_is : Rattle.guards_model.specs.Frames.is_set e.active ≡ true
    active_set_is = ap Rattle.guards_model.specs.Frames.is_set (active-is M L past) ∙ active_is_set M past mission

    pub active_here : (q : Channel) → q < 7 → has e.active q ≡ there q
    active_here q low = ap (λ s. has s q) (active-is M L past) ∙ calm.active q low

    calm_in : (slot : Slot) → on_bus slot ≡ true → (q : Channel) → has e.active q ≡ true →
        ((not (is_up (mode_in e q slot)) || is_damaged e q slot) || list_any (is_charge c slot q) e.entries) ≡ false
    calm_in slot on q member =
        let low : q < 7 = member-channel e.active q active_set_is member in
        let here : there q ≡ true = sym (active_here q low) ∙ member in
        ap (λ m. (not (is_up m) || (has e.damaged q && is_up m)) || list_any (is_charge c slot q) e.entries)
        (mode_here q low slot on ∙ ap (λ b. cond b up down) here)
        ∙ ap (λ b. (false || (b && true)) || list_any (is_charge c slot q) e.entries) (undamaged q low)
        ∙ ap (list_any (is_charge c slot q)) (entries_now M L past)
        ∙ none_charged L c c slot q rules_none

    pub undisturbed : (slot : Slot) → on_bus slot ≡ true → disturbed_channels c e slot ≡ []
    undisturbed slot on =
        filter_alike (λ q. (not (is_up (mode_in e q slot)) || is_damaged e q slot)
        || list_any (is_charge c slot q) e.entries) (λ q. false) e.active (calm_in slot on) ∙ filter_none e.active

    many : 3 ≤ length e.active
    many = subst (λ s. 3 ≤ length s) (sym (active-is M L past)) (three_active M L mission n)

    goes_on : (slot : Slot) → on_bus slot ≡ true → halts c e slot ≡ false
    goes_on slot on = ap (λ (D : ChannelSet). nat_le (length e.active) (3 * length D)) (undisturbed slot on)
        ∙ too_many (length e.active) many

    no_stop : stop_in c e ≡ None
    no_stop =
        ap (option_map (λ slot. record {
          cycle = c;
          slot = slot;
          set = disturbed_channels c e slot;
          active = e.active;
        })) (none_of (halts c e) every_slot refl goes_on)

    -- ---- the decision, where the entries of the cycle are the due ones

    module _ (due : IsDueNow M past e) (early : n < M.cycles) (earlier : (m : ℕ) → m < n → IsCycle M L m) where
      pub run : IsCycle M L n
      run =
          record {
            mission = mission;
            early = early;
            over = refl;
            due = carried_whole M past e Switch due;
            few = subst (λ (D : ChannelSet). 3 * length D < length e.active) (sym (undisturbed Switch refl))
                (omega (arith, many));
          }

      pub agreed_on : Agrees M past e
      agreed_on = agrees M L n run (λ m same. earlier m (omega (arith, same)))

      pub unjudged : (q : Channel) → has e.active q ≡ true → has e.judged q ≡ false
      unjudged q member =
          agreed_on.innocent q (and_true (has e.active q) (not (has (disturbed_channels c e Switch) q)) member
          (ap (λ s. not (has s q)) (undisturbed Switch refl))) (calm.quiet q)

      pub counts_are : e.counts
          ≡ counts_of M.rules.law M.rules.keep M.rules.decrement e.active e.judged (base_counts M past)
      unfolding cycle_from decision_of cycle_start_of
      counts_are = refl

      pub uncounted : (q : Channel) → place_or e.counts q 0 ≡ 0
      uncounted q =
          ap (λ t. place_or t q 0) counts_are
          ∙ at_table (λ p. cond (has e.active p)
          (count_step M.rules.law M.rules.keep M.rules.decrement (has e.judged p)
          (place_or (base_counts M past) p 0)) 0) q
          (λ p low. by_member p (has e.active p) refl)
        where
          by_member : (p : Channel) (b : Bool) → has e.active p ≡ b →
              cond b (count_step M.rules.law M.rules.keep M.rules.decrement (has e.judged p)
              (place_or (base_counts M past) p 0)) 0 ≡ 0
          by_member p true member =
              ap (λ j. count_step M.rules.law M.rules.keep M.rules.decrement j (place_or (base_counts M past) p 0))
              (unjudged p member)
              ∙ ap (count_step M.rules.law M.rules.keep M.rules.decrement false) (calm.counts p)
              ∙ zero_step M.rules.law M.rules.keep M.rules.decrement
          by_member p false member = refl

      unasked : (q : Channel) → asks e.active e.fresh e.agreed q ≡ false
      unasked q =
          ap (λ b. b && not (has e.fresh q))
          (not_many_tell e.active (disturbed_channels c e Switch) (source_word M past) e.agreed
          (settled_now M L n Switch run) (λ (w : SourceValue). nat_le 1 (place_or w.heard q 0))
          (λ j member good. ap (nat_le 1) (calm.codes j q)))

      none_asks : (xs : List ℕ) → filter (asks e.active e.fresh e.agreed) xs ≡ []
      none_asks xs = filter_alike (asks e.active e.fresh e.agreed) (λ q. false) xs (λ q member. unasked q)
          ∙ filter_none xs

      removed_are : e.removed ≡ take (length e.active - 3)
          (filter (λ q. nat_le M.rules.threshold (place_or e.counts q 0) || asks e.active e.fresh e.agreed q) e.active)
      unfolding cycle_from decision_of cycle_start_of agreement_of
      removed_are = refl

      few_counts : (q : Channel) →
          (nat_le M.rules.threshold (place_or e.counts q 0) || asks e.active e.fresh e.agreed q) ≡ false
      few_counts q =
          ap (λ k. nat_le M.rules.threshold k || asks e.active e.fresh e.agreed q) (uncounted q)
          ∙ ap (λ b. b || asks e.active e.fresh e.agreed q)
          (too_many M.rules.threshold (omega (arith, (ranges M mission).threshold)))
          ∙ unasked q

      pub unremoved : e.removed ≡ []
      unremoved =
          removed_are
          ∙ ap (take (length e.active - 3))
          (filter_alike (λ q. nat_le M.rules.threshold (place_or e.counts q 0) || asks e.active e.fresh e.agreed q)
          (λ q. false) e.active (λ q member. few_counts q) ∙ filter_none e.active)
          ∙ take_nil (length e.active - 3)

      transfer_is : e.transfer ≡ transfer_after M.rules.channels M.rules.returning e.active e.fresh e.agreed c
          (running_transfer past)
      unfolding cycle_from decision_of cycle_start_of agreement_of
      transfer_is = refl

      pub untransferred : e.transfer ≡ None
      untransferred =
          transfer_is
          ∙ ap (transfer_after M.rules.channels M.rules.returning e.active e.fresh e.agreed c) calm.running
          ∙ ap (λ xs. transfer_to (take M.rules.returning xs) c)
          (none_asks (without (numbers_below M.rules.channels) e.active))
          ∙ ap (λ xs. transfer_to xs c) (take_nil M.rules.returning)

      joined_are : e.joined ≡ joined_of M.rules.last e.transfer e.remaining
      unfolding cycle_from work_of
      joined_are = refl

      pub unjoined : e.joined ≡ []
      unjoined = joined_are ∙ ap (λ o. joined_of M.rules.last o e.remaining) untransferred

      -- ---- the next cycle

      active_next : (q : Channel) → q < 7 → has (active_set M (e ∷ past)) q ≡ there q
      active_next q low =
          has-channels_where (λ p. has (without e.active e.removed) p || has e.joined p) q low
          ∙ ap (λ r. has (without e.active r) q || has e.joined q) unremoved
          ∙ ap (λ j. has (without e.active []) q || has j q) unjoined
          ∙ or_false (has (without e.active []) q)
          ∙ ap (λ s. has s q) (keep_true e.active)
          ∙ active_here q low
        where
          or_false : (b : Bool) → (b || false) ≡ b
          or_false true = refl
          or_false false = refl

      silent : (q : Channel) → q < 7 → has (channels_where (is_sender e Request)) q ≡ false
      silent q low = has-channels_where (is_sender e Request) q low ∙ ap is_joining (mode_here q low Request refl)
          ∙ not_joining (there q)

      codes_past : (j : Channel) → 7 ≤ j → place_or e.request_codes j [] ≡ []
      unfolding cycle_from work_of
      codes_past j high = past_table
          (λ p. by_channel (λ q. request_code e.running q (have_of (received_body M e.entries c Request q p)))) j []
          high

      codes_by : (j q : Channel) → (j < 7) ⊎ (7 ≤ j) → place_or (place_or e.request_codes j []) q 0 ≡ 0
      codes_by j q (inl low) =
          ap (λ t. place_or t q 0) (heard-is M L past j low)
          ∙ at_table (λ p. request_code e.running p (have_of (received_body M e.entries c Request p j))) q
          (λ p small. ap (λ o. request_code e.running p (have_of o))
          (nothing_heard M past e Request p j (silent p small) due))
      codes_by j q (inr high) = ap (λ t. place_or t q 0) (codes_past j high)

      next_calm : Calm (e ∷ past)
      next_calm =
          record {
            active = active_next;
            modes = λ q low.
                ap (λ b. mode_at_end M.return_after b (is_whole q (e ∷ past)) (mode_in e q Switch)) (active_next q low)
                ∙ ap (mode_at_end M.return_after (there q) (is_whole q (e ∷ past))) (mode_here q low Switch refl)
                ∙ ends_as M.return_after (there q) (is_whole q (e ∷ past));
            sound = undamaged;
            running = ap (λ j. Rattle.guards_model.specs.Decisions.if_empty j e.transfer) unjoined ∙ untransferred;
            counts = λ q. at_table (λ p.
                cond (has (active_set M (e ∷ past)) p && not (has e.joined p)) (place_or e.counts p 0) 0) q
                (λ p low. either_zero (has (active_set M (e ∷ past)) p && not (has e.joined p)) (place_or e.counts p 0)
                (uncounted p));
            codes = λ j q. ap (λ s. place_or (cond (has s j) (by_channel (λ p. 0)) (place_or e.request_codes j [])) q 0)
                unjoined ∙ codes_by j q (cases_lt j 7);
            quiet = λ q. ap (λ s. not (has e.active q) || (has e.active q && not (has s q))) (undisturbed Switch refl)
                ∙ either_way (has e.active q);
          }
        where
          either_zero : (b : Bool) (k : ℕ) → k ≡ 0 → cond b k 0 ≡ 0
          either_zero true k h = h
          either_zero false k h = refl

          either_way : (b : Bool) → (not b || (b && true)) ≡ true
          either_way true = refl
          either_way false = refl

  -- ---- all cycles

  pub record CalmRun (n : ℕ) : Type 0 where
    pub calm : Calm (cycles_before M L n)
    pub unstopped : stop_of (cycles_before M L n) ≡ None
    pub cycles : (m : ℕ) → m < n → IsCycle M L m

  none_of_two : (a b : Option StopValue) → a ≡ None → b ≡ None → first_of_two a b ≡ None
  none_of_two a b h k = ap (λ o. first_of_two o b) h ∙ k

  pub calm_run : (n : ℕ) → n ≤ M.cycles → EachCycle (IsDueNow M) (cycles_before M L n) → CalmRun n
  calm_run zero early due =
      record { calm = first_calm; unstopped = refl; cycles = λ m low. absurd (omega (arith, low)) }
  calm_run (suc n) early due =
      let before = calm_run n (omega arith) due.1 in
      record {
        calm = next_calm n before.calm due.0 (omega arith) before.cycles;
        unstopped = none_of_two (stop_of (cycles_before M L n))
            (stop_in (length (cycles_before M L n)) (next_cycle M L (cycles_before M L n))) before.unstopped
            (no_stop n before.calm);
        cycles = λ m low. elim (cases_eq n m) [
          | inl same ↦ subst (λ k. IsCycle M L k) same (run n before.calm due.0 (omega arith) before.cycles)
          | inr other ↦ before.cycles m (omega (arith, low, other))
        ];
      }

pub each_is_due : (M : MissionValue) (L : Log) (n : ℕ) → HasDue M L n → EachCycle (IsDueNow M) (cycles_before M L n)
each_is_due M L n has_due =
    each_due M L n has_due.before has_due.later has_due.entries
    (subst (λ k. Rattle.guards_model.specs.Network.AreFrom k has_due.later) (sym (length-cycles_before M L n))
    has_due.after) has_due.due

-- a run without faults goes on
pub faultless_run : (M : MissionValue) (L : Log) (n : ℕ) → IsMission M → n ≤ M.cycles → IsFaultless M L → HasDue M L n →
    HasRun M L n
faultless_run M L n mission early faultless has_due =
    let r = calm_run M L mission faultless n early (each_is_due M L n has_due) in
    record {
      before = has_due.before;
      later = has_due.later;
      entries = has_due.entries;
      after = has_due.after;
      due = has_due.due;
      unstopped = r.unstopped;
    }

-- and no slot of its next cycle stops it
pub faultless_slots : (M : MissionValue) (L : Log) (n : ℕ) (slot : Slot) → IsMission M → n ≤ M.cycles →
    IsFaultless M L → HasDue M L n → on_bus slot ≡ true →
    halts (length (cycles_before M L n)) (next_cycle M L (cycles_before M L n)) slot ≡ false
faultless_slots M L n slot mission early faultless has_due on =
    let r = calm_run M L mission faultless n early (each_is_due M L n has_due) in
    goes_on M L mission faultless n r.calm slot on
