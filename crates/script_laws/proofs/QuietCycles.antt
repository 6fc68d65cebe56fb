-- What a report tells of a cycle without faults.
use Rattle.std.proofs.Common.{◌≡◌, ℕ, zero, suc, ◌<◌, ◌≤◌, ℤ, Bool, true, false, cond, not, ◌||◌, List, [], ◌∷◌, length, map, take, replicate, Option, None, Some, refl, sym, ap, ◌∙◌, arith, eq-eqb}
use Rattle.std.specs.Prelude.{nat_lt, filter, filter_map, option_map, bytes_eq}
use Rattle.std.specs.List.{list_all}
use Rattle.std.proofs.lemmas.List.{take-replicate}
use Rattle.std.proofs.lemmas.Simd.{map-map}
use Rattle.std.proofs.lemmas.Slice.Eq.{bytes_eq-Decides}
use Rattle.guards_model.specs.declared.Slot.TheVariants.{Switch}
use Rattle.guards_model.specs.Channels.{Channel, ChannelSet, by_channel, every_channel, has, place_or, channels_where, numbers_below, tolerated_faults}
use Rattle.guards_model.specs.Contexts.{word_of}
use Rattle.guards_model.specs.Diagnosis.{Agreed, count_step}
use Rattle.guards_model.specs.Frames.{SourceValue, is_set}
use Rattle.guards_model.specs.Missions.{MissionValue, IsMission, output_words, sensor}
use Rattle.guards_model.specs.Modes.{is_up, up, down}
use Rattle.guards_model.specs.Network.{Log}
use Rattle.guards_model.specs.OralMessages.{resolved_value}
use Rattle.guards_model.specs.Tasks.{whole}
use Rattle.guards_model.specs.Texts.{LineValue}
use Rattle.guards_model.specs.Voting.{inputs_of, lower_median, present}
use Rattle.guards_runs.specs.Cycles.{Cycle, Past, mode_in, first_up, source_word, received_items, items_in, ideal_after, next_cycle, cycles_before, base_counts}
use Rattle.guards_runs.specs.Disturbed.{disturbed_channels}
use Rattle.guards_runs.specs.Faultless.{IsFaultless}
use Rattle.guards_runs.specs.Report.{line_of, channels_running_in}
use Rattle.guards_model.proofs.AscendingLists.{member-channel, every_is_set}
use Rattle.guards_model.proofs.BoolTests.{both, and_true}
use Rattle.guards_model.proofs.Counting.{map_same}
use Rattle.guards_model.proofs.Numbers.{sublists, every_set}
use Rattle.guards_model.proofs.Tables.{at-by_channel, has-filter}
use Rattle.guards_model.proofs.TagSteps.{filter_alike}
use Rattle.guards_laws.proofs.CycleParts.{agreed-is, inputs-is, judged-is, ideal-is, by_channel-same}
use Rattle.guards_laws.proofs.DueEntries.{IsDueNow}
use Rattle.guards_laws.proofs.LogGrows.{length-cycles_before}
use Rattle.guards_laws.proofs.WithinChannels.{channels_few}
use Rattle.guards_runs.specs.IdealMachine.{ideal, ideal_inputs, sensed, sensed_at, sensed_word}
use Rattle.guards_runs.specs.IdealReport.{ideal_line}
use Rattle.guards_laws.proofs.NoFaults.{CalmRun, mode_here, active_set_is, active_here, undisturbed, agreed_on, unjudged, counts_are, uncounted}

-- ---- lists

no_member : (xs : List ℕ) → ((q : ℕ) → has xs q ≡ false) → xs ≡ []
no_member [] h = refl
no_member (y ∷ ys) h = absurd (differ (sym (h y) ∙ ap (λ b. b || has ys y) (eq-eqb y y refl)))
  where
    differ : false ≡ true → ⊥
    differ k = cc

filter_all : (xs : List ℕ) → filter (λ q. true) xs ≡ xs
filter_all [] = refl
filter_all (x ∷ xs) = ap (λ ys. x ∷ ys) (filter_all xs)

each_by_members : list_all (λ s. bytes_eq s (channels_where (has s))) (sublists every_channel) ≡ true
unfolding channels_where
each_by_members = refl

by_members : (s : ChannelSet) → is_set s ≡ true → s ≡ channels_where (has s)
by_members s set = (bytes_eq-Decides s (channels_where (has s))).0
    (every_set (λ s. bytes_eq s (channels_where (has s))) each_by_members s set)

below_by_test : (n : ℕ) → n ≤ 7 → channels_where (λ q. nat_lt q n) ≡ numbers_below n
unfolding channels_where
below_by_test zero few = refl
below_by_test (suc zero) few = refl
below_by_test (suc (suc zero)) few = refl
below_by_test (suc (suc (suc zero))) few = refl
below_by_test (suc (suc (suc (suc zero)))) few = refl
below_by_test (suc (suc (suc (suc (suc zero))))) few = refl
below_by_test (suc (suc (suc (suc (suc (suc zero)))))) few = refl
below_by_test (suc (suc (suc (suc (suc (suc (suc zero))))))) few = refl
below_by_test (suc (suc (suc (suc (suc (suc (suc (suc n)))))))) few = absurd (omega (arith, few))

words_of : SourceValue → List ℤ
words_of w = w.words

words_present : (xs : Agreed) → map words_of (present xs) ≡ filter_map (λ x. x) (map (option_map words_of) xs)
words_present [] = refl
words_present (None ∷ xs) = words_present xs
words_present (Some w ∷ xs) = ap (λ ys. words_of w ∷ ys) (words_present xs)

input_at : List (List ℤ) → ℕ → ℤ
input_at words k = lower_median (map (λ ws. word_of ws k) words)

inputs_by_words : (width : ℕ) (a : Agreed) →
    inputs_of width a ≡ map (input_at (map words_of (present a))) (numbers_below width)
unfolding words_of input_at
inputs_by_words width a =
    map_same (λ k. lower_median (map (λ (w : SourceValue). word_of w.words k) (present a)))
    (input_at (map words_of (present a))) (numbers_below width)
    (λ k there. ap lower_median (sym (map-map (λ ws. word_of ws k) words_of (present a))))

same_inputs : (width : ℕ) (a b : Agreed) → map (option_map words_of) a ≡ map (option_map words_of) b →
    inputs_of width a ≡ inputs_of width b
same_inputs width a b same =
    let words : map words_of (present a) ≡ map words_of (present b) =
    words_present a ∙ ap (filter_map (λ x. x)) same ∙ sym (words_present b) in
    inputs_by_words width a ∙ ap (λ ws. map (input_at ws) (numbers_below width)) words ∙ sym (inputs_by_words width b)

map_by_channel : {A B : Type 0} (h : A → B) (f : Channel → A) → map h (by_channel f) ≡ by_channel (λ q. h (f q))
unfolding by_channel
map_by_channel h f = refl

zeros : by_channel (λ q. let none : ℕ = 0 in none) ≡ replicate 7 0
unfolding by_channel
zeros = refl

-- ---- a cycle without faults

module _ (M : MissionValue) (L : Log) (mission : IsMission M) (faultless : IsFaultless M L) (n : ℕ)
    (run : CalmRun M L mission faultless n)
    (due : IsDueNow M (cycles_before M L n) (next_cycle M L (cycles_before M L n))) (early : n < M.cycles) where
  abbrev past : Past
  past = cycles_before M L n

  abbrev e : Cycle
  e = next_cycle M L (cycles_before M L n)

  now : length past ≡ n
  now = length-cycles_before M L n

  few : M.rules.channels ≤ 7
  few = channels_few M mission

  pub active_all : e.active ≡ numbers_below M.rules.channels
  unfolding channels_where
  active_all =
      by_members e.active (active_set_is M L mission faultless n run.calm)
      ∙ filter_alike (has e.active) (λ q. nat_lt q M.rules.channels) every_channel
      (λ q there. active_here M L mission faultless n run.calm q
      (member-channel every_channel q every_is_set there))
      ∙ below_by_test M.rules.channels few

  member_low : (q : Channel) → has e.active q ≡ true → q < 7
  member_low q there = member-channel e.active q (active_set_is M L mission faultless n run.calm) there

  up_there : (q : Channel) → has e.active q ≡ true → is_up (mode_in e q Switch) ≡ true
  up_there q there =
      let low = member_low q there in
      ap is_up (mode_here M L mission faultless n run.calm q low Switch refl)
      ∙ ap (λ b. is_up (cond b up down)) (sym (active_here M L mission faultless n run.calm q low) ∙ there)

  running_all : channels_running_in Switch e ≡ numbers_below M.rules.channels
  running_all = filter_alike (λ p. is_up (mode_in e p Switch)) (λ p. true) e.active up_there ∙ filter_all e.active
      ∙ active_all

  -- the agreed words

  settled : (q : Channel) → Option SourceValue
  settled q = resolved_value e.active M.width (first_up e.modes e.active)
      (source_word M past (first_up e.modes e.active))
      (items_in (received_items M e.entries (length past) (first_up e.modes e.active))) (tolerated_faults e.active)
      (q ∷ [])

  agreed_table : e.agreed ≡ by_channel (λ q. cond (has e.active q) (settled q) None)
  unfolding settled
  agreed_table = agreed-is M L past

  told : (q : Channel) → q < 7 →
      option_map words_of (cond (has e.active q) (settled q) None) ≡ option_map words_of (sensed_at M n q)
  unfolding words_of
  told q low =
      ap (option_map words_of) (sym (at-by_channel (λ q. cond (has e.active q) (settled q) None) q None low)
      ∙ ap (λ t. place_or t q None) (sym agreed_table))
      ∙ by (nat_lt q M.rules.channels) refl
    where
      by : (b : Bool) → nat_lt q M.rules.channels ≡ b →
          option_map words_of (place_or e.agreed q None) ≡ option_map words_of (cond b (Some (sensed_word M n q)) None)
      by true there =
          let member : has e.active q ≡ true = active_here M L mission faultless n run.calm q low ∙ there in
          ap (option_map words_of) ((agreed_on M L mission faultless n run.calm due early run.cycles).sent q
          (and_true (has e.active q) (not (has (disturbed_channels (length past) e Switch) q)) member
          (ap (λ s. not (has s q)) (undisturbed M L mission faultless n run.calm Switch refl))))
          ∙ ap (λ c. Some (sensor M q c)) now
      by false there =
          ap (λ t. option_map words_of (place_or t q None)) agreed_table
          ∙ ap (option_map words_of) (at-by_channel (λ q. cond (has e.active q) (settled q) None) q None low)
          ∙ ap (λ b. option_map words_of (cond b (settled q) None))
          (active_here M L mission faultless n run.calm q low ∙ there)

  pub inputs_are : e.inputs ≡ ideal_inputs M n
  unfolding ideal_inputs
  inputs_are =
      inputs-is M L past
      ∙ same_inputs M.width e.agreed (sensed M n)
      (ap (map (option_map words_of)) agreed_table
      ∙ map_by_channel (option_map words_of) (λ q. cond (has e.active q) (settled q) None)
      ∙ by_channel-same (λ q. option_map words_of (cond (has e.active q) (settled q) None))
      (λ q. option_map words_of (sensed_at M n q)) told
      ∙ sym (map_by_channel (option_map words_of) (sensed_at M n)))

  pub ideal_is : ideal_after M past ≡ ideal M n → e.ideal_context ≡ ideal M (suc n)
  ideal_is before =
      ideal-is M L past
      ∙ ap (λ c. whole (Rattle.guards_model.specs.Missions.cycle_writes M c) (ideal_after M past) c e.inputs) now
      ∙ ap (λ ctx. whole (Rattle.guards_model.specs.Missions.cycle_writes M n) ctx n e.inputs) before
      ∙ ap (whole (Rattle.guards_model.specs.Missions.cycle_writes M n) (ideal M n) n) inputs_are

  -- judgement and counts

  judged_none : e.judged ≡ []
  judged_none = no_member e.judged none
    where
      differ : true ≡ false → ⊥
      differ k = cc

      by_member : (q : Channel) (b j : Bool) → has e.active q ≡ b → has e.judged q ≡ j → j ≡ false
      by_member q b false there h = refl
      by_member q true true there h =
          absurd (differ (sym h ∙ unjudged M L mission faultless n run.calm due early run.cycles q there))
      by_member q false true there h =
          absurd (differ (sym (both _ (has e.active q)
          (sym (has-filter _ e.active q) ∙ ap (λ s. has s q) (sym (judged-is M L past)) ∙ h)).1 ∙ there))

      none : (q : Channel) → has e.judged q ≡ false
      none q = by_member q (has e.active q) (has e.judged q) refl refl

  counts_zero : e.counts ≡ replicate 7 0
  counts_zero =
      let step : Channel → ℕ = λ q.
      cond (has e.active q) (count_step M.rules.law M.rules.keep M.rules.decrement (has e.judged q)
      (place_or (base_counts M past) q 0)) 0 in
      let table : e.counts ≡ by_channel step = counts_are M L mission faultless n run.calm due early run.cycles in
      table
      ∙ by_channel-same step (λ q. 0)
      (λ q low. sym (at-by_channel step q 0 low) ∙ ap (λ t. place_or t q 0) (sym table)
      ∙ uncounted M L mission faultless n run.calm due early run.cycles q)
      ∙ zeros

  -- the lines

  pub lines_are : ideal_after M past ≡ ideal M n →
      map (line_of M e) (channels_running_in Switch e)
      ≡ map (ideal_line M.rules.channels (ideal_inputs M n) (output_words M (ideal M (suc n))))
      (numbers_below M.rules.channels)
  unfolding ideal_line
  lines_are before =
      let outputs = output_words M (ideal M (suc n)) in
      let line : Channel → List ℤ → List (Option ℤ) → ChannelSet → List ℕ →
      LineValue = λ q ins votes judged counts.
      record { channel = q; inputs = ins; votes = votes; judged = judged; counts = take M.rules.channels counts } in
      ap (map (line_of M e)) running_all
      ∙ map_same (line_of M e) (ideal_line M.rules.channels (ideal_inputs M n) outputs) (numbers_below M.rules.channels)
      (λ q there.
      let member : has e.active q ≡ true = ap (λ s. has s q) active_all ∙ there in
      ap (λ ins. line q ins (place_or e.voted q []) e.judged e.counts) inputs_are
      ∙ ap (λ votes. line q (ideal_inputs M n) votes e.judged e.counts)
      ((agreed_on M L mission faultless n run.calm due early run.cycles).votes q member
      ∙ ap (λ ctx. map (λ w. Some w) (output_words M ctx)) (ideal_is before))
      ∙ ap (λ judged. line q (ideal_inputs M n) (map (λ w. Some w) outputs) judged e.counts) judged_none
      ∙ ap (λ counts. line q (ideal_inputs M n) (map (λ w. Some w) outputs) [] counts) counts_zero
      ∙ ap (λ (counts : List ℕ).
      record {
        channel = q;
        inputs = ideal_inputs M n;
        votes = map (λ w. Some w) outputs;
        judged = [];
        counts = counts;
      }) (take-replicate M.rules.channels 7 0 few))
