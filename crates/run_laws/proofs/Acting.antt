-- A cycle of the world, and its exchange with the actuator, go on with a run.
use Rattle.std.proofs.Common.{◌≡◌, ℕ, zero, suc, ◌+◌, ◌*◌, ◌<◌, ◌≤◌, ◌==◌, Bool, true, false, cond, not, ◌&&◌, ◌||◌, List, [], ◌∷◌, ◌++◌, length, map, take, Option, Some, None, ℤ, refl, sym, ap, subst, ◌∙◌, arith, append_assoc}
use Rattle.std.specs.Prelude.{filter, find, nat_le, count_by, bytes_eq, option_map, if◌then◌else◌}
use Rattle.std.proofs.lemmas.Slice.Eq.{bytes_eq-Decides}
use Rattle.guards_model.proofs.Numbers.{sublists, every_set}
use Rattle.std.specs.List.{AllZip, AllByRecursion, list_all, list_any}
use Rattle.std.proofs.Math.Path.{fun_ext}
use Rattle.std.proofs.lemmas.Bool.{leb-false, lt-leb, eqb-true}
use Rattle.std.proofs.lemmas.List.{append-nil, length-map}
use Rattle.guards_model.specs.declared.Slot.{Slot}
use Rattle.guards_model.specs.declared.Slot.TheVariants.{Request, Round1, Round2, Round3, Tasks, Vote, Sweep, Final, Switch, Output}
use Rattle.guards_model.specs.Slots.{same_slot, on_bus, every_slot}
use Rattle.guards_model.specs.BusRules.{RuleValue}
use Rattle.guards_model.specs.Channels.{Channel, ChannelSet, has, channels_where, every_channel, place_or}
use Rattle.guards_model.specs.Contexts.{context_word, word_of}
use Rattle.guards_model.specs.Frames.{is_set, spelling}
use Rattle.guards_model.specs.Missions.{MissionValue, IsMission, output_words, ActuatorValue}
use Rattle.guards_model.specs.Network.{EntryValue, Log, AreFrom, without_outputs, BusValue}
use Rattle.guards_model.specs.Records.{shown, shown_line}
use Rattle.guards_model.specs.Rounds.{Steps, Histories, steps_of}
use Rattle.guards_model.specs.Texts.{LineValue, RecordValue, StopValue}
use Rattle.guards_model.specs.Voting.{present}
use Rattle.guards_model.proofs.BoolTests.{both, and_true, differ, second_false}
use Rattle.guards_model.proofs.SlotTests.{same_slot-equal}
use Rattle.guards_model.proofs.Tables.{has-filter}
use Rattle.guards_model.specs.Modes.{is_up}
use Rattle.guards_model.proofs.Counting.{one_if_true, one_if_false, count-cons, count_le}
use Rattle.guards_model.proofs.Presence.{all_members}
use Rattle.guards_laws.proofs.CycleParts.{active-is}
use Rattle.guards_laws.proofs.WithinChannels.{active_is_set}
use Rattle.guards_laws.proofs.DueEntries.{all_of_cycle}
use Rattle.guards_laws.proofs.RunIsSound.{main_theorem}
use Rattle.guards_laws.proofs.LogGrows.{length-cycles_before, cycles_before-append, next_cycle-append}
use Rattle.guards_world.specs.Worlds.{WorldValue}
use Rattle.guards_world.specs.WorldCycle.{AreFull}
use Rattle.run_laws.specs.Runs.{AreDueBy, HasCarried, HasRunCycles, IsBetween}
use Rattle.run_laws.proofs.RunPassed.{ran_cycles, outputs_leave, all_on_bus}
use Rattle.run_laws.proofs.RunContinues.{each_due, due_by}
use Rattle.guards_runs.specs.Cycles.{Cycle, Past, mode_in, is_damaged, cycles_before, cycle_at, next_cycle}
use Rattle.guards_runs.specs.Disturbed.{differs_from, is_charge, disturbed_channels, stop_in, halts, stop_of, first_of_two, settled_of}
use Rattle.guards_runs.specs.Due.{Carry, IsDue, IsMadeBy, AreMadeBy, cycle_carries, carries_through}
use Rattle.guards_runs.specs.Promises.{Agrees}
use Rattle.guards_runs.specs.Soundness.{IsSound}
use Rattle.world_laws.specs.Fronts.{IsUpToStop}
use Rattle.guards_runs.specs.Report.{line_of, channels_running_in, cycle_record}
use Rattle.guards_model.specs.Actuators.{voted_words, output_frame, words_moved, words_towards, moved, wanted_at}
use Rattle.guards_runs.specs.Outputs.{IsOutputDue, AreOutputsDue, is_output_charge, output_disturbed, output_halts, output_stop, acted_stop, outputs_after, words_after, ballots_taken, ideal_outputs}
use Rattle.output_gate.specs.Gates.{GateValue}
use Rattle.output_gate.specs.Sending.{IsLineDue, AreLinesSent, line_words, disturbed_with}
use Rattle.output_gate.specs.Exchanging.{VoteFor, Moves, is_third}
use Rattle.output_gate.proofs.WordsSettled.{voted_words_are}
use Rattle.output_gate.proofs.Gathered.{range_length}
use Rattle.run_laws.proofs.MayExchange.{channels_are, lines_are, filtered, votes_for}
use Rattle.run_laws.specs.Acting.{AreActedBy, ActedToStop, ActedPart, IsActing}
use Rattle.run_laws.proofs.Local.{is_apart, words_stay, ballots_between, charged_between, charged_before, later_apart}

-- ---- the entries of the output slot

present_some : (words : List ℤ) → present (map (λ w. Some w) words) ≡ words
present_some [] = refl
present_some (w ∷ words) = ap (λ ws. w ∷ ws) (present_some words)

-- the entries of the lines are those that the channels owe
outputs_due_by : (M : MissionValue) (e : Cycle) (version c : ℕ) (words : List ℤ) (qs : List Channel)
    (lines : List LineValue) (outs : Log) →
    map (shown_line M.rules.channels M.width (length M.outputs)) lines ≡ map (line_of M e) qs → VoteFor words lines →
    ((q : Channel) → has e.active q ≡ true → place_or e.voted q [] ≡ map (λ w. Some w) words) →
    list_all (has e.active) qs ≡ true → AllZip (IsLineDue version (length words) c) lines outs →
    AllZip (λ q entry. IsOutputDue version c q (voted_words (place_or e.voted q [])) entry) qs outs
outputs_due_by M e version c words [] [] [] h votes voted active due = tt
outputs_due_by M e version c words [] [] (y ∷ outs) h votes voted active due = absurd due
outputs_due_by M e version c words [] (l ∷ lines) outs h votes voted active due = absurd cc
outputs_due_by M e version c words (q ∷ qs) [] outs h votes voted active due = absurd cc
outputs_due_by M e version c words (q ∷ qs) (l ∷ lines) [] h votes voted active due = absurd due
outputs_due_by M e version c words (q ∷ qs) (l ∷ lines) (y ∷ outs) h votes voted active due =
    let parts = both (has e.active q) (list_all (has e.active) qs) active in
    let head : shown_line M.rules.channels M.width (length M.outputs) l ≡ line_of M e q = cc in
    let tail : map (shown_line M.rules.channels M.width (length M.outputs)) lines ≡ map (line_of M e) qs = cc in
    let at : l.channel ≡ q = ap (λ (x : LineValue). x.channel) head in
    let these : line_words (length words) l ≡ voted_words (place_or e.voted q []) =
    voted_words_are words l.votes votes.0 ∙ sym (present_some words) ∙ ap present (sym (voted q parts.0)) in (
      record {
        cycle = due.0.cycle;
        slot = due.0.slot;
        from = due.0.from ∙ at;
        to = due.0.to;
        sent = due.0.sent ∙ ap (λ p. spelling (output_frame version c p (line_words (length words) l))) at
            ∙ ap (λ ws. spelling (output_frame version c q ws)) these;
      },
      outputs_due_by M e version c words qs lines outs tail votes.1 voted parts.1 due.1,
    )

lines_off_bus : (version outputs c : ℕ) (lines : List LineValue) (outs : Log) →
    AllZip (IsLineDue version outputs c) lines outs → without_outputs outs ≡ []
lines_off_bus version outputs c [] [] due = refl
lines_off_bus version outputs c [] (y ∷ outs) due = absurd due
lines_off_bus version outputs c (l ∷ lines) [] due = absurd due
lines_off_bus version outputs c (l ∷ lines) (y ∷ outs) due =
    ap (λ b. cond b (y ∷ without_outputs outs) (without_outputs outs)) (ap on_bus due.0.slot)
    ∙ lines_off_bus version outputs c lines outs due.1

lines_of_cycle : (version outputs c n : ℕ) → c ≡ n → (lines : List LineValue) (outs : Log) →
    AllZip (IsLineDue version outputs c) lines outs → AllByRecursion (λ (y : EntryValue). y.cycle ≡ n) outs
lines_of_cycle version outputs c n same [] [] due = tt
lines_of_cycle version outputs c n same [] (y ∷ outs) due = absurd due
lines_of_cycle version outputs c n same (l ∷ lines) [] due = absurd due
lines_of_cycle version outputs c n same (l ∷ lines) (y ∷ outs) due =
    (due.0.cycle ∙ same, lines_of_cycle version outputs c n same lines outs due.1)

-- ---- entries of other cycles

earlier_apart : (n : ℕ) (F : Log) → AllByRecursion (λ (e : EntryValue). e.cycle < n) F → AllByRecursion (is_apart n) F
earlier_apart n [] h = tt
earlier_apart n (y ∷ F) h =
    let other : (y.cycle == n) ≡ false = grind (arith, h.0) in
    (ap (λ b. b && same_slot y.slot Output) other, earlier_apart n F h.1)

off_output : (n : ℕ) (y : EntryValue) → on_bus y.slot ≡ true → is_apart n y
off_output n y on = by (same_slot y.slot Output) refl
  where
    by : (b : Bool) → same_slot y.slot Output ≡ b → (y.cycle == n && same_slot y.slot Output) ≡ false
    by true e = differ (sym (sym (ap on_bus (same_slot-equal y.slot Output e)) ∙ on))
    by false e = ap (λ b. y.cycle == n && b) e ∙ second_false (y.cycle == n) false refl

-- the entries that histories make in a cycle are of its nine slots
module _ (M : MissionValue) (steps : Steps) (past : Past) (e : Cycle) (n : ℕ) where
  pub made_apart : (carries : List Carry) (now : Log) →
      AllZip (λ carry entry. IsMadeBy M past e (steps_of steps carry.from) carry entry) carries now →
      list_all (λ (k : Carry). on_bus k.slot) carries ≡ true → AllByRecursion (is_apart n) now
  made_apart [] [] made on = tt
  made_apart [] (y ∷ now) made on = absurd made
  made_apart (k ∷ carries) [] made on = absurd made
  made_apart (k ∷ carries) (y ∷ now) made on =
      let parts = both (on_bus k.slot) (list_all (λ (k : Carry). on_bus k.slot) carries) on in
      (off_output n y (ap on_bus made.0.slot ∙ parts.0), made_apart carries now made.1 parts.1)

  pub made_now : (carries : List Carry) (now : Log) →
      AllZip (λ carry entry. IsMadeBy M past e (steps_of steps carry.from) carry entry) carries now →
      list_all (λ (k : Carry). k.cycle == n) carries ≡ true → AllByRecursion (λ (y : EntryValue). y.cycle ≡ n) now
  made_now [] [] made on = tt
  made_now [] (y ∷ now) made on = absurd made
  made_now (k ∷ carries) [] made on = absurd made
  made_now (k ∷ carries) (y ∷ now) made on =
      let parts = both (k.cycle == n) (list_all (λ (k : Carry). k.cycle == n) carries) on in
      (made.0.cycle ∙ eqb-true k.cycle n parts.0, made_now carries now made.1 parts.1)

all_both : (P : EntryValue → Type 0) (xs ys : Log) → AllByRecursion P xs → AllByRecursion P ys →
    AllByRecursion P (xs ++ ys)
all_both P [] ys h k = k
all_both P (x ∷ xs) ys h k = (h.0, all_both P xs ys h.1 k)

all_weaken : (P Q : EntryValue → Type 0) (f : (y : EntryValue) → P y → Q y) (xs : Log) → AllByRecursion P xs →
    AllByRecursion Q xs
all_weaken P Q f [] h = tt
all_weaken P Q f (x ∷ xs) h = (f x h.0, all_weaken P Q f xs h.1)

from_now_on : (n : ℕ) (X : Log) → AllByRecursion (λ (y : EntryValue). y.cycle ≡ n) X → AreFrom n X
from_now_on n [] h = tt
from_now_on n (y ∷ X) h = (omega (arith, h.0), from_now_on n X h.1)

-- ---- stops

-- those who are disturbed with these charges
abbrev disturbed_if : ℕ → Cycle → (Channel → Bool) → ChannelSet
disturbed_if c e charged = filter (λ q. has (disturbed_channels c e Switch) q || charged q) e.active

-- entries of another cycle charge nobody
stop_stays : (c : ℕ) (e : Cycle) (F X : Log) → AllByRecursion (is_apart c) X →
    output_stop c e (F ++ X) ≡ output_stop c e F
stop_stays c e F X h =
    let S : ChannelSet → Option StopValue =
    λ set. if nat_le (length e.active) (3 * length set)
    then Some (record { cycle = c; slot = Output; set = set; active = e.active }) else None in
    ap (λ (charged : Channel → Bool). S (disturbed_if c e charged)) (fun_ext (λ q. charged_before c q F X h))

pub at_least : (n m : ℕ) (X : Log) → m ≤ n → AreFrom n X → AreFrom m X
at_least n m [] low h = tt
at_least n m (y ∷ X) low h = (omega (arith, low, h.0), at_least n m X low h.1)

pub stops_stay : (F X : Log) (n : ℕ) (P : Past) → length P ≤ n → AreFrom n X → acted_stop (F ++ X) P ≡ acted_stop F P
stops_stay F X n [] low from = refl
stops_stay F X n (e ∷ P) low from =
    ap (λ s. first_of_two s (first_of_two (stop_in (length P) e) (output_stop (length P) e (F ++ X))))
    (stops_stay F X n P (omega (arith, low)) from)
    ∙ ap (λ s. first_of_two (acted_stop F P) (first_of_two (stop_in (length P) e) s))
    (stop_stays (length P) e F X (later_apart (length P) X (at_least n (suc (length P)) X low from)))

second_none : (a b : Option StopValue) → first_of_two a b ≡ None → b ≡ None
second_none None b h = h
second_none (Some s) b h = absurd cc

-- fewer than a third of the channels are not a third of the active ones
length_kept : (p : ℕ → Bool) (xs : List ℕ) → length (filter p xs) ≡ count_by p xs
length_kept p [] = refl
length_kept p (x ∷ xs) = by (p x) refl (length_kept p xs)
  where
    by : (b : Bool) → p x ≡ b → length (filter p xs) ≡ count_by p xs →
        length (cond (p x) (x ∷ filter p xs) (filter p xs)) ≡ count_by p (x ∷ xs)
    by true e rest = ap (λ b. length (cond b (x ∷ filter p xs) (filter p xs))) e
        ∙ omega (arith, rest, count-cons p x xs, one_if_true (p x) e)
    by false e rest = ap (λ b. length (cond b (x ∷ filter p xs) (filter p xs))) e
        ∙ omega (arith, rest, count-cons p x xs, one_if_false (p x) e)

still_few : (active : ChannelSet) (test : Channel → Bool) → is_set active ≡ true →
    is_third active (channels_where test) ≡ false → nat_le (length active) (3 * length (filter test active)) ≡ false
unfolding channels_where
still_few active test set few =
    let all : length (channels_where test) ≡ count_by test every_channel = length_kept test every_channel in
    let some : length (filter test active) ≡ count_by test active = length_kept test active in
    let within : count_by test active ≤ count_by (λ j. has active j && test j) every_channel =
    all_members active test set in
    let without_it : count_by (λ j. has active j && test j) every_channel ≤ count_by test every_channel =
    count_le (λ j. has active j && test j) test every_channel (λ j there h. (both (has active j) (test j) h).1) in
    let fewer = leb-false (length active) (3 * length (channels_where test)) few in
    lt-leb (length active) (3 * length (filter test active)) (omega (arith, all, some, within, without_it, fewer))

each_again : list_all (λ (s : List ℕ). bytes_eq (channels_where (has s)) s) (sublists every_channel) ≡ true
unfolding channels_where
each_again = refl

set_members : (set : ChannelSet) → is_set set ≡ true → channels_where (has set) ≡ set
set_members set h = (bytes_eq-Decides (channels_where (has set)) set).0
    (every_set (λ s. bytes_eq (channels_where (has s)) s) each_again set h)

filter_within : (p t : ℕ → Bool) → ((q : ℕ) → t q ≡ true → p q ≡ true) → (xs : List ℕ) →
    filter t (filter p xs) ≡ filter t xs
filter_within p t only [] = refl
filter_within p t only (x ∷ xs) = by (p x) (t x) refl refl (filter_within p t only xs)
  where
    by : (a b : Bool) → p x ≡ a → t x ≡ b → filter t (filter p xs) ≡ filter t xs →
        filter t (cond (p x) (x ∷ filter p xs) (filter p xs)) ≡ cond (t x) (x ∷ filter t xs) (filter t xs)
    by true b e h rest = ap (λ c. filter t (cond c (x ∷ filter p xs) (filter p xs))) e
        ∙ ap (λ ys. cond (t x) (x ∷ ys) ys) rest
    by false true e h rest = differ (sym (only x h) ∙ e)
    by false false e h rest =
        ap (λ c. filter t (cond c (x ∷ filter p xs) (filter p xs))) e ∙ rest
        ∙ sym (ap (λ c. cond c (x ∷ filter t xs) (filter t xs)) h)

-- the members of a set that pass a test that only members pass are those who pass it
kept_members : (active : ChannelSet) (test : Channel → Bool) → is_set active ≡ true →
    ((q : Channel) → test q ≡ true → has active q ≡ true) → filter test active ≡ channels_where test
unfolding channels_where
kept_members active test set only =
    ap (filter test) (sym (set_members active set)) ∙ filter_within (has active) test only every_channel

-- ---- one more cycle

pub words_count : (version : ℕ) (steps start : List ℤ) (F : Log) (n : ℕ) →
    length (outputs_after version steps start F n) ≡ length start
words_count version steps start F zero = refl
words_count version steps start F (suc n) =
    range_length (λ k. moved (word_of steps k) (word_of (outputs_after version steps start F n) k)
    (wanted_at (ballots_taken version (length start) F n) k)) 0 (length (outputs_after version steps start F n))
    ∙ words_count version steps start F n

pub ideal_stays : (M : MissionValue) (steps start : List ℤ) (K X : Log) (n : ℕ) → AreFrom n X →
    ideal_outputs M steps start (K ++ X) n ≡ ideal_outputs M steps start K n
ideal_stays M steps start K X zero h = refl
ideal_stays M steps start K X (suc n) h =
    let past : Past = cycles_before M K n in
    let cycle : cycle_at M (K ++ X) n ≡ cycle_at M K n =
    ap (next_cycle M (K ++ X)) (cycles_before-append M K X n (at_least (suc n) n X (omega arith) h))
    ∙ next_cycle-append M K X past (subst (λ k. AreFrom (suc k) X) (sym (length-cycles_before M K n)) h) in
    ap (λ (e : Cycle). words_towards steps (ideal_outputs M steps start (K ++ X) n) (output_words M e.ideal_context))
    cycle
    ∙ ap (λ last. words_towards steps last (output_words M (cycle_at M K n).ideal_context))
    (ideal_stays M steps start K X n (at_least (suc n) n X (omega arith) h))

-- ---- numbers

below_or_at : (P : ℕ → Type 0) (n : ℕ) → ((c : ℕ) → c ≤ n → P c) → P (suc n) → (c : ℕ) → c ≤ suc n → P c
below_or_at P n below here c low = by (c == suc n) refl
  where
    by : (b : Bool) → (c == suc n) ≡ b → P c
    by true e = subst P (sym (eqb-true c (suc n) e)) here
    by false e = below c (grind (arith, low, e))

-- the first few of a list that goes along with another
few_taken : {A B : Type 0} (R : A → B → Type 0) (few : ℕ) (xs : List A) (ys : List B) → AllZip R (take few xs) ys →
    AllZip R (take (length ys) xs) ys
few_taken R zero xs [] h = tt
few_taken R zero xs (y ∷ ys) h = absurd h
few_taken R (suc few) [] [] h = tt
few_taken R (suc few) [] (y ∷ ys) h = absurd h
few_taken R (suc few) (x ∷ xs) [] h = absurd h
few_taken R (suc few) (x ∷ xs) (y ∷ ys) h = (h.0, few_taken R few xs ys h.1)

take_map : {A B : Type 0} (f : A → B) (few : ℕ) (xs : List A) → map f (take few xs) ≡ take few (map f xs)
take_map f zero xs = refl
take_map f (suc few) [] = refl
take_map f (suc few) (x ∷ xs) = ap (λ ys. f x ∷ ys) (take_map f few xs)

pub all_of_few : {A : Type 0} (p : A → Bool) (few : ℕ) (xs : List A) → list_all p xs ≡ true →
    list_all p (take few xs) ≡ true
all_of_few p zero xs h = refl
all_of_few p (suc few) [] h = refl
all_of_few p (suc few) (x ∷ xs) h =
    let parts = both (p x) (list_all p xs) h in
    and_true (p x) (list_all p (take few xs)) parts.0 (all_of_few p few xs parts.1)

votes_of_few : (words : List ℤ) (few : ℕ) (lines : List LineValue) → VoteFor words lines →
    VoteFor words (take few lines)
votes_of_few words zero lines h = tt
votes_of_few words (suc few) [] h = tt
votes_of_few words (suc few) (l ∷ lines) h = (h.0, votes_of_few words few lines h.1)

pub take_all : {A : Type 0} (xs : List A) → take (length xs) xs ≡ xs
take_all [] = refl
take_all (x ∷ xs) = ap (λ ys. x ∷ ys) (take_all xs)

pub zip_length : {A B : Type 0} (R : A → B → Type 0) (xs : List A) (ys : List B) → AllZip R xs ys →
    length ys ≡ length xs
zip_length R [] [] h = refl
zip_length R [] (y ∷ ys) h = absurd h
zip_length R (x ∷ xs) [] h = absurd h
zip_length R (x ∷ xs) (y ∷ ys) h = ap suc (zip_length R xs ys h.1)

-- ---- a cycle that stopped in no slot

not_found : (p : Slot → Bool) (slots : List Slot) (slot : Slot) → list_any (same_slot slot) slots ≡ true →
    find p slots ≡ None → p slot ≡ false
not_found p [] slot there none = absurd cc
not_found p (x ∷ slots) slot there none = by (p x) (same_slot slot x) refl refl there none (not_found p slots slot)
  where
    by : (b s : Bool) → p x ≡ b → same_slot slot x ≡ s → (s || list_any (same_slot slot) slots) ≡ true →
        cond b (Some x) (find p slots) ≡ None →
        (list_any (same_slot slot) slots ≡ true → find p slots ≡ None → p slot ≡ false) → p slot ≡ false
    by true s e h there none more = absurd cc
    by false true e h there none more = ap p (same_slot-equal slot x h) ∙ e
    by false false e h there none more = more there none

every_one : (slot : Slot) → on_bus slot ≡ true → list_any (same_slot slot) every_slot ≡ true
every_one Request on = refl
every_one Round1 on = refl
every_one Round2 on = refl
every_one Round3 on = refl
every_one Tasks on = refl
every_one Vote on = refl
every_one Sweep on = refl
every_one Final on = refl
every_one Switch on = refl
every_one Output on = absurd cc

halts_nowhere : (n : ℕ) (e : Cycle) → stop_in n e ≡ None → (slot : Slot) → on_bus slot ≡ true → halts n e slot ≡ false
halts_nowhere n e none slot on = by (find (halts n e) every_slot) refl none
  where
    told : Slot → StopValue
    told s = record { cycle = n; slot = s; set = disturbed_channels n e s; active = e.active }

    by : (found : Option Slot) → find (halts n e) every_slot ≡ found → option_map told found ≡ None →
        halts n e slot ≡ false
    by (Some s) is h = absurd cc
    by None is h = not_found (halts n e) every_slot slot (every_one slot on) is

module _ (may : List RuleValue → EntryValue → Type 0) (M : MissionValue) (a : ActuatorValue)
    (start bus mid after : BusValue) (w new : WorldValue) (gate gate_after : GateValue) (F K : Log)
    (histories : Histories)
    (part : RecordValue) (at : IsActing may M a start w bus gate F K histories) (current : Log) (steps : Steps)
    (between : IsBetween may M start new mid (F ++ current) (K ++ current) (steps ∷ histories))
    (done : new.done ≡ suc w.done)
    (made : AreMadeBy M steps (cycles_before M (K ++ current) w.done) (cycle_at M (K ++ current) w.done) current)
    (full : AreFull M (cycles_before M (K ++ current) w.done) (cycle_at M (K ++ current) w.done) steps)
    (stay : cycles_before M (K ++ current) w.done ≡ cycles_before M K w.done)
    (record_is : shown M.rules.channels M.width (length M.outputs) part
    ≡ cycle_record M steps w.done (cycle_at M (K ++ current) w.done))
    (lines : List LineValue) (outs : Log)
    (sent : AreLinesSent may mid.script mid.log after.log M.rules.version (length gate.words) part.cycle lines outs)
    (script : after.script ≡ mid.script) where
  abbrev n : ℕ
  n = w.done

  abbrev past : Past
  past = cycles_before M (K ++ current) n

  abbrev e : Cycle
  e = cycle_at M (K ++ current) n

  abbrev grown : Log
  grown = (F ++ current) ++ outs

  abbrev words : List ℤ
  words = output_words M e.ideal_context

  size : length past ≡ n
  size = length-cycles_before M (K ++ current) n

  mission : IsMission M
  mission = subst IsMission between.mission between.stands.mission

  set : is_set e.active ≡ true
  set = ap is_set (active-is M (K ++ current) past) ∙ active_is_set M past mission

  ran : HasRunCycles M (suc n) (K ++ current) (steps ∷ histories)
  ran = subst (λ k. HasRunCycles M k (K ++ current) (steps ∷ histories)) done
      (ran_cycles may start mid new (F ++ current) (K ++ current) (steps ∷ histories) M between)

  agrees : Agrees M past e
  agrees = ran.sound.cycles.0.agrees

  same : shown M.rules.channels M.width (length M.outputs) part ≡ cycle_record M steps (length past) e
  same = record_is ∙ ap (λ k. cycle_record M steps k e) (sym size)

  cycle_is : part.cycle ≡ n
  cycle_is = ap (λ (r : RecordValue). r.cycle) record_is

  count : length words ≡ length M.outputs
  count = length-map M.outputs (λ o. context_word e.ideal_context o.0 o.1)

  gate_words : gate.words ≡ words_after M a F n
  gate_words = ap (λ (g : GateValue). g.words) at.gate_is

  gate_count : length gate.words ≡ length a.start
  gate_count = ap (λ (ws : List ℤ). length ws) gate_words ∙ words_count M.rules.version a.steps a.start F n

  due_lines : AllZip (IsLineDue M.rules.version (length words) part.cycle) lines outs
  due_lines = subst (λ k. AllZip (IsLineDue M.rules.version k part.cycle) lines outs)
      (gate_count ∙ at.sizes ∙ sym count) sent.due

  off : without_outputs outs ≡ []
  off = lines_off_bus M.rules.version (length words) part.cycle lines outs due_lines

  outs_now : AllByRecursion (λ (y : EntryValue). y.cycle ≡ n) outs
  outs_now = lines_of_cycle M.rules.version (length words) part.cycle n cycle_is lines outs due_lines

  now_now : AllByRecursion (λ (y : EntryValue). y.cycle ≡ n) current
  now_now = made_now M steps past e n (cycle_carries n e) current
      (subst (λ c. AllZip (λ carry entry. IsMadeBy M past e (steps_of steps carry.from) carry entry) (cycle_carries c e)
      current) size made) (all_of_cycle n e)

  now_apart : AllByRecursion (is_apart n) current
  now_apart = made_apart M steps past e n (cycle_carries (length past) e) current made (all_on_bus (length past) e)

  before_apart : AllByRecursion (is_apart n) (F ++ current)
  before_apart = all_both _ F current (earlier_apart n F at.earlier) now_apart

  pub fresh : AreFrom n (current ++ outs)
  fresh = from_now_on n (current ++ outs) (all_both _ current outs now_now outs_now)

  left : IsBetween may M start new after grown (K ++ current) (steps ∷ histories)
  left = outputs_leave may M start new mid after (F ++ current) (K ++ current) outs (steps ∷ histories) between
      (record { log = sent.grew; script = script; each = sent.allowed }) off

  pub apart : without_outputs grown ≡ K ++ current
  apart = left.apart

  pub grew : HasCarried may M start after grown
  grew = left.ran

  acted_before : AreActedBy M histories past F
  acted_before = subst (λ P. AreActedBy M histories P F) (sym stay) at.acted

  before : acted_stop grown past ≡ None
  before = ap (λ (earlier : Log). acted_stop earlier past) (append_assoc F current outs)
      ∙ stops_stay F (current ++ outs) n past (omega (arith, size)) fresh ∙ ap (acted_stop F) stay ∙ at.unstopped

  nine : stop_in (length past) e ≡ None
  nine = second_none (stop_of past) (stop_in (length past) e) ran.unstopped

  nine_now : stop_in n e ≡ None
  nine_now = subst (λ k. stop_in k e ≡ None) size nine

  words_then : (c : ℕ) → c ≤ n → words_after M a grown c ≡ words_after M a F c
  words_then c low = ap (λ (earlier : Log). words_after M a earlier c) (append_assoc F current outs)
      ∙ words_stay M.rules.version a.steps a.start F (current ++ outs) c (at_least n c (current ++ outs) low fresh)

  ideal_then : (c : ℕ) → c ≤ n → words_after M a grown c ≡ ideal_outputs M a.steps a.start (K ++ current) c
  ideal_then c low = words_then c low ∙ at.ideal c low
      ∙ sym (ideal_stays M a.steps a.start K current c (at_least n c current low (from_now_on n current now_now)))

  active_lines : list_all (has e.active) (channels_running_in Switch e) ≡ true
  active_lines = filtered M steps past e part mission set agrees same (λ p. is_up (mode_in e p Switch)) e.active
      e.active (λ q there. there)

  made_n : AllZip (λ carry entry. IsMadeBy M past e (steps_of steps carry.from) carry entry) (cycle_carries n e) current
  made_n = subst (λ c. AllZip (λ carry entry. IsMadeBy M past e (steps_of steps carry.from) carry entry)
      (cycle_carries c e) current) size made

  sound_n : IsSound M (K ++ current) n
  sound_n =
      main_theorem M (K ++ current) n mission (omega (arith, ran.within))
      (record {
        before = K;
        later = current;
        entries = refl;
        after = from_now_on n current now_now;
        due = due_by M histories past K (subst (λ P. AreDueBy M histories P K) (sym stay) at.between.due);
        unstopped = ap stop_of stay ∙ (ran_cycles may start bus w F K histories M at.between).unstopped;
      })

  -- no more was carried of the nine slots than up to any that stops the run: none does
  goes_no_further : (slot : Slot) → length current ≡ length (cycle_carries n e) → halts n e slot ≡ true →
      length current ≤ length (carries_through n e slot)
  goes_no_further slot all stops = by slot (on_bus slot) refl stops
    where
      by : (s : Slot) (b : Bool) → on_bus s ≡ b → halts n e s ≡ true → length current ≤ length (carries_through n e s)
      by s true on halted = differ (sym halted ∙ halts_nowhere n e nine_now s on)
      by Output false on halted = omega (arith, all)
      by Request false on halted = absurd cc
      by Round1 false on halted = absurd cc
      by Round2 false on halted = absurd cc
      by Round3 false on halted = absurd cc
      by Tasks false on halted = absurd cc
      by Vote false on halted = absurd cc
      by Sweep false on halted = absurd cc
      by Final false on halted = absurd cc
      by Switch false on halted = absurd cc

  -- the exchange was broken off: the first few of the lines were sent
  pub broken_here : (few : ℕ) → lines ≡ take few part.lines → ActedPart M a n grown (K ++ current) histories
  broken_here few these =
      let some : AllZip (λ q entry.
      IsOutputDue M.rules.version part.cycle q (voted_words (place_or e.voted q [])) entry)
      (take few (channels_running_in Switch e)) outs =
      outputs_due_by M e M.rules.version part.cycle words (take few (channels_running_in Switch e))
      (take few part.lines) outs
      (take_map (shown_line M.rules.channels M.width (length M.outputs)) few part.lines
      ∙ ap (take few) (lines_are M steps past e part mission set agrees same)
      ∙ sym (take_map (line_of M e) few (channels_running_in Switch e)))
      (votes_of_few words few part.lines (votes_for M steps past e part mission set agrees same)) agrees.votes
      (all_of_few (has e.active) few (channels_running_in Switch e) active_lines)
      (subst (λ ls. AllZip (IsLineDue M.rules.version (length words) part.cycle) ls outs) these due_lines) in
      let count_now : length current ≡ length (cycle_carries n e) =
      zip_length (λ carry entry. IsMadeBy M past e (steps_of steps carry.from) carry entry) (cycle_carries n e)
      current made_n in
      let due : AllZip (IsDue M past e) (cycle_carries n e) current =
      each_due M past e steps (cycle_carries n e) current made_n in
      let whole : take (length current) (cycle_carries n e) ≡ cycle_carries n e =
      ap (λ k. take k (cycle_carries n e)) count_now ∙ take_all (cycle_carries n e) in
      record {
        within = omega (arith, ran.within);
        beside = at.between.beside;
        before = F;
        now = current;
        outs = outs;
        entries = append_assoc F current outs;
        acted = acted_before;
        due_now = subst (λ carries. AllZip (IsDue M past e) carries current) (sym whole) due;
        due_outs = few_taken _ few (channels_running_in Switch e) outs
            (subst (λ c. AllZip (λ q entry. IsOutputDue M.rules.version c q (voted_words (place_or e.voted q [])) entry)
            (take few (channels_running_in Switch e)) outs) cycle_is some);
        behind = λ _. count_now;
        passed = λ _. nine_now;
        left = λ _. omega (arith, ran.within);
        up_to_stop = subst (λ earlier. IsUpToStop M earlier current n) (sym at.between.apart)
            (λ slot stops. goes_no_further slot count_now stops);
        unstopped = before;
        sound = sound_n;
        ideal = ideal_then;
      }

  module _ (all : lines ≡ part.lines) where
    due_all : AllZip (IsLineDue M.rules.version (length words) part.cycle) part.lines outs
    due_all = subst (λ ls. AllZip (IsLineDue M.rules.version (length words) part.cycle) ls outs) all due_lines

    outs_due : AreOutputsDue M.rules.version (length past) e outs
    outs_due =
        subst (λ c. AreOutputsDue M.rules.version c e outs) (cycle_is ∙ sym size)
        (outputs_due_by M e M.rules.version part.cycle words (channels_running_in Switch e) part.lines outs
        (lines_are M steps past e part mission set agrees same)
        (votes_for M steps past e part mission set agrees same) agrees.votes
        active_lines due_all)

    acted_now : AreActedBy M (steps ∷ histories) (cycles_before M (K ++ current) (suc n)) grown
    acted_now = (F, current, outs, append_assoc F current outs, acted_before, made, full, outs_due)

    charged : (q : Channel) → list_any (is_output_charge n q) grown ≡ list_any (is_output_charge n q) outs
    charged q = charged_between n q (F ++ current) outs before_apart

    -- the stop of the run, where these channels are disturbed at the end of the output slot
    stop_by : acted_stop grown (cycles_before M (K ++ current) (suc n)) ≡ output_stop n e grown
    stop_by =
        ap (λ s. first_of_two s (first_of_two (stop_in (length past) e) (output_stop (length past) e grown))) before
        ∙ ap (λ s. first_of_two s (output_stop (length past) e grown)) nine
        ∙ ap (λ k. output_stop k e grown) size

    no_stop : is_third part.active (disturbed_with (disturbed_channels n e Switch) part.cycle outs) ≡ false →
        acted_stop grown (cycles_before M (K ++ current) (suc n)) ≡ None
    no_stop fewer =
        let few : is_third e.active (disturbed_with (disturbed_channels n e Switch) n outs) ≡ false =
        sym (ap (λ (r : RecordValue). is_third r.active (disturbed_with (disturbed_channels n e Switch) r.cycle outs))
        record_is) ∙ fewer in
        let tenth : output_halts n e grown ≡ false =
        ap (λ (charges : Channel → Bool). nat_le (length e.active) (3 * length (disturbed_if n e charges)))
        (fun_ext charged)
        ∙ still_few e.active (λ q. has (disturbed_channels n e Switch) q || list_any (is_output_charge n q) outs) set
        few in
        stop_by ∙ ap (λ b. if b then Some
        (record { cycle = n; slot = Output; set = output_disturbed n e grown; active = e.active }) else None) tenth

    ballots_now : ballots_taken M.rules.version (length a.start) grown n
        ≡ ballots_taken M.rules.version (length gate.words) outs part.cycle
    ballots_now =
        ap (λ (earlier : Log). ballots_taken M.rules.version (length a.start) earlier n) (sym (append-nil grown))
        ∙ ballots_between M.rules.version (length a.start) n (F ++ current) outs [] before_apart tt
        ∙ ap (λ k. ballots_taken M.rules.version k outs n) (sym gate_count)
        ∙ ap (ballots_taken M.rules.version (length gate.words) outs) (sym cycle_is)

    gate_now : gate_after ≡ record gate {
      words =
          words_moved gate.steps gate.words (ballots_taken M.rules.version (length gate.words) outs part.cycle);
    } →
        gate_after ≡ record { steps = a.steps; words = words_after M a grown (suc n) }
    gate_now moved_by =
        let G : List ℤ → List ℤ → GateValue = λ s ws. record { steps = s; words = ws } in
        moved_by
        ∙ ap (λ (g : GateValue). G g.steps
        (words_moved g.steps g.words (ballots_taken M.rules.version (length gate.words) outs part.cycle)))
        at.gate_is
        ∙ ap (λ ws. G a.steps (words_moved a.steps ws
        (ballots_taken M.rules.version (length gate.words) outs part.cycle))) (sym (words_then n (omega arith)))
        ∙ ap (λ bs. G a.steps (words_moved a.steps (words_after M a grown n) bs)) (sym ballots_now)

    ideal_now : Moves may mid.script M.rules.version part (settled_of n e) mid.log after.log gate gate_after →
        gate_after ≡ record { steps = a.steps; words = words_after M a grown (suc n) } →
        words_after M a grown (suc n) ≡ ideal_outputs M a.steps a.start (K ++ current) (suc n)
    ideal_now moves gate_is =
        let towards : gate_after ≡ record gate { words = words_towards gate.steps gate.words words } =
        moves.towards words (count ∙ sym at.sizes ∙ sym gate_count)
        (votes_for M steps past e part mission set agrees same) in
        ap (λ (g : GateValue). g.words) (sym gate_is ∙ towards)
        ∙ ap (λ (g : GateValue). words_towards g.steps g.words words) at.gate_is
        ∙ ap (λ ws. words_towards a.steps ws words)
        (at.ideal n (omega arith) ∙ sym (ideal_stays M a.steps a.start K current n (from_now_on n current now_now)))

    -- the run goes on by the cycle and its exchange
    pub goes_on : (moves : Moves may mid.script M.rules.version part (settled_of n e) mid.log after.log gate
        gate_after) → outs ≡ moves.now →
        IsActing may M a start new after gate_after grown (K ++ current) (steps ∷ histories)
    goes_on moves these =
        let few = ap (λ (x : Log). is_third part.active (disturbed_with (disturbed_channels n e Switch) part.cycle x))
        these ∙ moves.few in
        let gate_was = gate_now (moves.moved
        ∙ ap (λ (x : Log). record gate {
          words =
              words_moved gate.steps gate.words (ballots_taken M.rules.version (length gate.words) x part.cycle);
        })
        (sym these)) in
        let ideal_all : (c : ℕ) → c ≤ suc n →
        words_after M a grown c ≡ ideal_outputs M a.steps a.start (K ++ current) c =
        below_or_at (λ c. words_after M a grown c ≡ ideal_outputs M a.steps a.start (K ++ current) c) n ideal_then
        (ideal_now moves gate_was) in
        record {
          sizes = at.sizes;
          between = left;
          acted = subst (λ k. AreActedBy M (steps ∷ histories) (cycles_before M (K ++ current) k) grown) (sym done)
              acted_now;
          earlier = subst (λ k. AllByRecursion (λ (y : EntryValue). y.cycle < k) grown) (sym done)
              (all_both _ (F ++ current) outs
              (all_both _ F current (all_weaken _ _ (λ y h. omega (arith, h)) F at.earlier)
              (all_weaken _ _ (λ y h. omega (arith, h)) current now_now))
              (all_weaken _ _ (λ y h. omega (arith, h)) outs outs_now));
          unstopped = subst (λ k. acted_stop grown (cycles_before M (K ++ current) k) ≡ None) (sym done) (no_stop few);
          gate_is = gate_was ∙ ap (λ k. record { steps = a.steps; words = words_after M a grown k }) (sym done);
          ideal = subst (λ k. (c : ℕ) → c ≤ k →
              words_after M a grown c ≡ ideal_outputs M a.steps a.start (K ++ current) c) (sym done) ideal_all;
        }

    -- ---- the stop of the output slot

    there_only : (lines : List LineValue) (ys : Log) (version : ℕ) →
        AllZip (IsLineDue version (length words) part.cycle) lines ys →
        list_all (has e.active) (map (λ (l : LineValue). l.channel) lines) ≡ true → (q : Channel) →
        list_any (is_output_charge n q) ys ≡ true → has e.active q ≡ true
    there_only [] [] version due active q some = absurd cc
    there_only [] (y ∷ ys) version due active q some = absurd due
    there_only (l ∷ lines) [] version due active q some = absurd due
    there_only (l ∷ lines) (y ∷ ys) version due active q some =
        let parts = both (has e.active l.channel) (list_all (has e.active) (map (λ (l : LineValue). l.channel) lines))
        active in
        by (is_output_charge n q y) refl some (there_only lines ys version due.1 parts.1 q)
      where
        by : (b : Bool) → is_output_charge n q y ≡ b → (b || list_any (is_output_charge n q) ys) ≡ true →
            (list_any (is_output_charge n q) ys ≡ true → has e.active q ≡ true) → has e.active q ≡ true
        by true h k more =
            let parts = both (has e.active l.channel)
            (list_all (has e.active) (map (λ (l : LineValue). l.channel) lines)) active in
            let from : (y.from == q) ≡ true =
            (both (y.cycle == n && same_slot y.slot Output) (y.from == q)
            (both ((y.cycle == n && same_slot y.slot Output) && y.from == q) (differs_from y.sent y.delivered)
            h).0).1 in
            ap (has e.active) (sym (sym due.0.from ∙ eqb-true y.from q from)) ∙ parts.0
        by false h k more = more k

    -- who is disturbed, by the rule, is whom the exchange tells
    set_is : output_disturbed n e grown ≡ disturbed_with (disturbed_channels n e Switch) n outs
    set_is =
        let test : Channel → Bool =
        λ q. has (disturbed_channels n e Switch) q || list_any (is_output_charge n q) outs in
        ap (λ (charges : Channel → Bool). disturbed_if n e charges) (fun_ext charged)
        ∙ kept_members e.active test set
        (λ q h. inside q (has (disturbed_channels n e Switch) q) refl h)
      where
        active_parts : list_all (has e.active) (map (λ (l : LineValue). l.channel) part.lines) ≡ true
        active_parts = ap (list_all (has e.active)) (channels_are M steps past e part mission set agrees same)
            ∙ active_lines

        inside : (q : Channel) (b : Bool) → has (disturbed_channels n e Switch) q ≡ b →
            (has (disturbed_channels n e Switch) q || list_any (is_output_charge n q) outs) ≡ true →
            has e.active q ≡ true
        inside q true h k =
            (both ((not (is_up (mode_in e q Switch)) || is_damaged e q Switch)
            || list_any (is_charge n Switch q) e.entries) (has e.active q)
            (sym (has-filter (λ q. (not (is_up (mode_in e q Switch)) || is_damaged e q Switch)
            || list_any (is_charge n Switch q) e.entries) e.active q) ∙ h)).1
        inside q false h k =
            there_only part.lines outs M.rules.version due_all active_parts q
            (sym (ap (λ b. b || list_any (is_output_charge n q) outs) h) ∙ k)

    -- where a third of the active channels or more are disturbed, the run stops in the output slot, with just this set
    stops_here : (told : ChannelSet) → told ≡ disturbed_with (disturbed_channels n e Switch) part.cycle outs →
        is_third part.active told ≡ true →
        output_stop n e grown ≡ Some (record { cycle = n; slot = Output; set = told; active = e.active })
    stops_here told is many =
        let is_n : told ≡ disturbed_with (disturbed_channels n e Switch) n outs =
        is ∙ ap (λ k. disturbed_with (disturbed_channels n e Switch) k outs) cycle_is in
        let rule : output_disturbed n e grown ≡ told = set_is ∙ sym is_n in
        let halts : output_halts n e grown ≡ true =
        ap (λ (s : ChannelSet). nat_le (length e.active) (3 * length s)) rule
        ∙ ap (λ (r : RecordValue). is_third r.active told) (sym record_is) ∙ many in
        ap (λ b. if b then Some (record {
          cycle = n;
          slot = Output;
          set = output_disturbed n e grown;
          active = e.active;
        }) else None) halts
        ∙ ap (λ (s : ChannelSet). Some (record { cycle = n; slot = Output; set = s; active = e.active })) rule

    pub stopped_here : (told : ChannelSet) → told ≡ disturbed_with (disturbed_channels n e Switch) part.cycle outs →
        is_third part.active told ≡ true →
        ActedToStop M a n (record { cycle = part.cycle; slot = Output; set = told; active = part.active }) grown
        (K ++ current) histories
    stopped_here told is many =
        let T : RecordValue → Type 0 =
        λ r. ActedToStop M a n (record { cycle = r.cycle; slot = Output; set = told; active = r.active }) grown
        (K ++ current) histories in
        subst T (sym record_is)
        (record {
          within = omega (arith, ran.within);
          beside = at.between.beside;
          before = F;
          now = current;
          outs = outs;
          entries = append_assoc F current outs;
          acted = acted_before;
          steps = steps;
          due_now = made_n;
          due_outs = subst (λ k. AreOutputsDue M.rules.version k e outs) size outs_due;
          full = λ _. full;
          unstopped = before;
          stopped = ap (λ s. first_of_two s (output_stop n e grown)) nine_now ∙ stops_here told is many;
          sound = sound_n;
          ideal = ideal_then;
        })
