-- What a log without its output entries tells is what the log tells.
use Rattle.std.proofs.Common.{◌≡◌, ℕ, zero, suc, ◌*◌, ◌==◌, Bool, true, false, cond, not, ◌&&◌, ◌||◌, List, [], ◌∷◌, length, map, Option, Some, None, refl, sym, ap, subst, ◌∙◌, arith}
use Rattle.std.specs.Prelude.{nat_le, filter, find, option_map, option_and_then}
use Rattle.std.specs.List.{list_any}
use Rattle.std.proofs.Math.Path.{fun_ext}
use Rattle.std.proofs.lemmas.Bool.{eqb-true, leb-true}
use Rattle.guards_model.specs.declared.Slot.{Slot}
use Rattle.guards_model.specs.declared.Slot.TheVariants.{Request, Round1, Round2, Round3, Tasks, Vote, Sweep, Final, Switch, Output}
use Rattle.guards_model.specs.Slots.{slot_index, same_slot, up_to, on_bus, every_slot}
use Rattle.guards_model.specs.Channels.{Channel, ChannelSet}
use Rattle.guards_model.specs.Missions.{MissionValue, format_of}
use Rattle.guards_model.specs.Fields.{frame_in}
use Rattle.guards_model.specs.Network.{EntryValue, Log, is_carry, counting, without_outputs}
use Rattle.guards_model.specs.Modes.{is_up}
use Rattle.guards_model.specs.Texts.{StopValue}
use Rattle.guards_runs.specs.Cycles.{Cycle, Past, mode_in, is_damaged, received_body, entries_of, cycle_from, next_cycle, extended, cycles_before, cycle_at}
use Rattle.guards_runs.specs.Disturbed.{differs_from, is_charge, disturbed_channels, halts, stop_in, stop_of, first_of_two}
use Rattle.guards_runs.specs.SameFacts.{without_entries, HaveSameFacts}
use Rattle.guards_model.proofs.BoolTests.{both, differ, second_false}
use Rattle.guards_model.proofs.SlotTests.{same_slot-equal, on_bus-before}
use Rattle.guards_laws.proofs.LogGrows.{length-cycles_before}
use Rattle.script_laws.proofs.SamePast.{same_size}
use Rattle.script_laws.proofs.FactsAlike.{cycle_alike}

-- ---- lists

-- a test that passes only what is kept finds the same in what is kept
pub find_kept : (keep test : EntryValue → Bool) → ((y : EntryValue) → test y ≡ true → keep y ≡ true) → (L : Log) →
    find test (filter keep L) ≡ find test L
find_kept keep test within [] = refl
find_kept keep test within (y ∷ L) = by (keep y) (test y) refl refl (find_kept keep test within L)
  where
    by : (k t : Bool) → keep y ≡ k → test y ≡ t → find test (filter keep L) ≡ find test L →
        find test (cond k (y ∷ filter keep L) (filter keep L)) ≡ cond t (Some y) (find test L)
    by true t e h rest = ap (λ b. cond b (Some y) (find test (filter keep L))) h ∙ ap (cond t (Some y)) rest
    by false true e h rest = differ (sym (within y h) ∙ e)
    by false false e h rest = rest

pub any_kept : (keep test : EntryValue → Bool) → ((y : EntryValue) → test y ≡ true → keep y ≡ true) → (L : Log) →
    list_any test (filter keep L) ≡ list_any test L
any_kept keep test within [] = refl
any_kept keep test within (y ∷ L) = by (keep y) (test y) refl refl (any_kept keep test within L)
  where
    by : (k t : Bool) → keep y ≡ k → test y ≡ t → list_any test (filter keep L) ≡ list_any test L →
        list_any test (cond k (y ∷ filter keep L) (filter keep L)) ≡ (t || list_any test L)
    by true t e h rest = ap (λ b. b || list_any test (filter keep L)) h ∙ ap (λ b. t || b) rest
    by false true e h rest = differ (sym (within y h) ∙ e)
    by false false e h rest = rest

pub filters_commute : (p q : EntryValue → Bool) (L : Log) → filter p (filter q L) ≡ filter q (filter p L)
filters_commute p q [] = refl
filters_commute p q (y ∷ L) = by (p y) (q y) refl refl (filters_commute p q L)
  where
    by : (a b : Bool) → p y ≡ a → q y ≡ b → filter p (filter q L) ≡ filter q (filter p L) →
        filter p (cond b (y ∷ filter q L) (filter q L)) ≡ filter q (cond a (y ∷ filter p L) (filter p L))
    by true true e h rest =
        ap (λ a. cond a (y ∷ filter p (filter q L)) (filter p (filter q L))) e ∙ ap (λ ys. y ∷ ys) rest
        ∙ sym (ap (λ b. cond b (y ∷ filter q (filter p L)) (filter q (filter p L))) h)
    by true false e h rest = rest ∙ sym (ap (λ b. cond b (y ∷ filter q (filter p L)) (filter q (filter p L))) h)
    by false true e h rest = ap (λ a. cond a (y ∷ filter p (filter q L)) (filter p (filter q L))) e ∙ rest
    by false false e h rest = rest

-- ---- what is received

carry_on_bus : (c : ℕ) (slot : Slot) (from to : ℕ) → on_bus slot ≡ true → (y : EntryValue) →
    is_carry c slot from to y ≡ true → on_bus y.slot ≡ true
carry_on_bus c slot from to on y h =
    let outer = both ((y.cycle == c && same_slot y.slot slot) && y.from == from) (y.to == to) h in
    let inner = both (y.cycle == c) (same_slot y.slot slot)
    (both (y.cycle == c && same_slot y.slot slot) (y.from == from) outer.0).0 in
    ap on_bus (same_slot-equal y.slot slot inner.1) ∙ on

pub received_apart : (M : MissionValue) (L : Log) (c : ℕ) (slot : Slot) → on_bus slot ≡ true → (from to : ℕ) →
    received_body M L c slot from to ≡ received_body M (without_outputs L) c slot from to
received_apart M L c slot on from to =
    ap (λ o. option_and_then (counting (format_of M) c slot from to)
    (option_and_then frame_in (option_and_then (λ (e : EntryValue). e.delivered) o)))
    (sym (find_kept (λ (e : EntryValue). on_bus e.slot) (is_carry c slot from to) (carry_on_bus c slot from to on) L))

-- ---- the facts

pub entries_apart : (c : ℕ) (L : Log) → entries_of c (without_outputs L) ≡ without_outputs (entries_of c L)
entries_apart c L = filters_commute (λ (e : EntryValue). e.cycle == c) (λ (e : EntryValue). on_bus e.slot) L

pub next_apart : (M : MissionValue) (L : Log) (P R : Past) → HaveSameFacts P R →
    without_entries (next_cycle M L P) ≡ without_entries (next_cycle M (without_outputs L) R)
next_apart M L P R same =
    let c : ℕ = length P in
    let E : Log = entries_of c L in
    cycle_alike M E (without_outputs E) P R same
    (λ slot on from to. received_apart M E c slot on from to
    ∙ ap (λ k. received_body M (without_outputs E) k slot from to) (same_size P R same))
    ∙ ap (λ D. without_entries (cycle_from M D R))
    (sym (entries_apart c L) ∙ ap (λ k. entries_of k (without_outputs L)) (same_size P R same))

pub facts_apart : (M : MissionValue) (L : Log) (n : ℕ) →
    HaveSameFacts (cycles_before M L n) (cycles_before M (without_outputs L) n)
facts_apart M L zero = refl
facts_apart M L (suc n) =
    let P = cycles_before M L n in
    let R = cycles_before M (without_outputs L) n in
    let before = facts_apart M L n in
    ap (λ e. e ∷ map without_entries P) (next_apart M L P R before)
    ∙ ap (λ rest. without_entries (next_cycle M (without_outputs L) R) ∷ rest) before

pub cycle_apart : (M : MissionValue) (L : Log) (n : ℕ) →
    without_entries (cycle_at M L n) ≡ without_entries (cycle_at M (without_outputs L) n)
cycle_apart M L n = next_apart M L (cycles_before M L n) (cycles_before M (without_outputs L) n) (facts_apart M L n)

-- ---- stops

charge_on_bus : (c : ℕ) (slot : Slot) (q : Channel) → on_bus slot ≡ true → (y : EntryValue) →
    is_charge c slot q y ≡ true → on_bus y.slot ≡ true
charge_on_bus c slot q on y h =
    let outer = both ((y.cycle == c && up_to y.slot slot) && y.from == q) (differs_from y.sent y.delivered) h in
    let inner = both (y.cycle == c) (up_to y.slot slot)
    (both (y.cycle == c && up_to y.slot slot) (y.from == q) outer.0).0 in
    on_bus-before y.slot slot inner.1 on

-- two cycles with the same facts, of which one has the entries of the other without those of the output slot
pub record AreApart (e d : Cycle) : Type 0 where
  pub facts : without_entries e ≡ without_entries d
  pub entries : d.entries ≡ without_outputs e.entries

abbrev disturbed_with : ℕ → Cycle → Slot → (Channel → Bool) → ChannelSet
disturbed_with c e slot charged =
    filter (λ q. (not (is_up (mode_in e q slot)) || is_damaged e q slot) || charged q) e.active

disturbed_apart : (c : ℕ) (e d : Cycle) (slot : Slot) → on_bus slot ≡ true → AreApart e d →
    disturbed_channels c e slot ≡ disturbed_channels c d slot
disturbed_apart c e d slot on two =
    ap (λ (x : Cycle). disturbed_with c x slot (λ q. list_any (is_charge c slot q) e.entries)) two.facts
    ∙ ap (disturbed_with c d slot)
    (fun_ext (λ q. sym (any_kept (λ (y : EntryValue). on_bus y.slot) (is_charge c slot q)
    (charge_on_bus c slot q on) e.entries) ∙ ap (list_any (is_charge c slot q)) (sym two.entries)))

abbrev stop_with : ℕ → Cycle → (Slot → ChannelSet) → Option StopValue
stop_with c e sets =
    option_map (λ slot. record { cycle = c; slot = slot; set = sets slot; active = e.active })
    (find (λ slot. nat_le (length e.active) (3 * length (sets slot))) every_slot)

-- the sets of the nine slots alone make the stop
all_on : List Slot → Bool
all_on [] = true
all_on (s ∷ ss) = on_bus s && all_on ss

abbrev stop_at : ℕ → Cycle → (Slot → ChannelSet) → Slot → StopValue
stop_at c e sets slot = record { cycle = c; slot = slot; set = sets slot; active = e.active }

abbrev is_third : Cycle → ChannelSet → Bool
is_third e set = nat_le (length e.active) (3 * length set)

stop_through : (c : ℕ) (e : Cycle) (f g : Slot → ChannelSet) → ((slot : Slot) → on_bus slot ≡ true → f slot ≡ g slot) →
    (ss : List Slot) → all_on ss ≡ true →
    option_map (stop_at c e f) (find (λ slot. is_third e (f slot)) ss)
    ≡ option_map (stop_at c e g) (find (λ slot. is_third e (g slot)) ss)
unfolding all_on
stop_through c e f g h [] on = refl
stop_through c e f g h (s ∷ ss) on =
    ap (λ set. option_map (stop_at c e f) (cond (is_third e set) (Some s) (find (λ slot. is_third e (f slot)) ss)))
    (h s (both (on_bus s) (all_on ss) on).0)
    ∙ step (is_third e (g s)) (stop_through c e f g h ss (both (on_bus s) (all_on ss) on).1)
  where
    step : (x : Bool) → option_map (stop_at c e f) (find (λ slot. is_third e (f slot)) ss)
        ≡ option_map (stop_at c e g) (find (λ slot. is_third e (g slot)) ss) →
        option_map (stop_at c e f) (cond x (Some s) (find (λ slot. is_third e (f slot)) ss))
        ≡ option_map (stop_at c e g) (cond x (Some s) (find (λ slot. is_third e (g slot)) ss))
    step true rest = ap (λ set. Some (record { cycle = c; slot = s; set = set; active = e.active }))
        (h s (both (on_bus s) (all_on ss) on).0)
    step false rest = rest

stop_alike : (c : ℕ) (e : Cycle) (f g : Slot → ChannelSet) → ((slot : Slot) → on_bus slot ≡ true → f slot ≡ g slot) →
    stop_with c e f ≡ stop_with c e g
unfolding all_on
stop_alike c e f g h = stop_through c e f g h every_slot refl

pub stop_apart : (c : ℕ) (e d : Cycle) → AreApart e d → stop_in c e ≡ stop_in c d
stop_apart c e d two =
    stop_alike c e (disturbed_channels c e) (disturbed_channels c d) (λ slot on. disturbed_apart c e d slot on two)
    ∙ ap (λ (x : Cycle). stop_with c x (disturbed_channels c d)) two.facts

entries_is : (M : MissionValue) (E : Log) (P : Past) → (cycle_from M E P).entries ≡ E
unfolding cycle_from
entries_is M E P = refl

pub at_apart : (M : MissionValue) (L : Log) (n : ℕ) → AreApart (cycle_at M L n) (cycle_at M (without_outputs L) n)
at_apart M L n =
    let P = cycles_before M L n in
    let R = cycles_before M (without_outputs L) n in
    record {
      facts = cycle_apart M L n;
      entries = entries_is M (entries_of (length R) (without_outputs L)) R
          ∙ entries_apart (length R) L
          ∙ ap (λ k. without_outputs (entries_of k L)) (sym (same_size P R (facts_apart M L n)))
          ∙ ap without_outputs (sym (entries_is M (entries_of (length P) L) P));
    }

pub stop_at_apart : (M : MissionValue) (L : Log) (n : ℕ) →
    stop_in n (cycle_at M L n) ≡ stop_in n (cycle_at M (without_outputs L) n)
stop_at_apart M L n = stop_apart n (cycle_at M L n) (cycle_at M (without_outputs L) n) (at_apart M L n)

pub stops_apart : (M : MissionValue) (L : Log) (n : ℕ) →
    stop_of (cycles_before M L n) ≡ stop_of (cycles_before M (without_outputs L) n)
stops_apart M L zero = refl
stops_apart M L (suc n) =
    let P = cycles_before M L n in
    let R = cycles_before M (without_outputs L) n in
    ap (λ s. first_of_two s (stop_in (length P) (cycle_at M L n))) (stops_apart M L n)
    ∙ ap (first_of_two (stop_of R))
    (stop_apart (length P) (cycle_at M L n) (cycle_at M (without_outputs L) n) (at_apart M L n)
    ∙ ap (λ k. stop_in k (cycle_at M (without_outputs L) n)) (same_size P R (facts_apart M L n)))
