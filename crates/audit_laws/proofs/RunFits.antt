-- The record of a cycle of a run that went on fits what the records of the earlier cycles tell.
use Rattle.std.proofs.Common.{◌≡◌, ℕ, zero, suc, ◌+◌, ◌-◌, ◌==◌, ◌<◌, ◌≤◌, Bool, true, false, not, ◌&&◌, ◌||◌, List, [], ◌∷◌, length, map, Option, None, Some, refl, sym, ap, subst, ◌∙◌, arith, eq-eqb}
use Rattle.std.specs.Prelude.{nat_le, nat_lt, filter, take, count_by, option_map, IsTrue}
use Rattle.std.specs.List.{list_all, list_any}
use Rattle.std.specs.Str.{bytes_eq}
use Rattle.std.proofs.lemmas.Bool.{leb-true, le-leb}
use Rattle.std.proofs.lemmas.List.{length-take, length-map}
use Rattle.std.proofs.lemmas.List.FromFn.{length-range_with_len}
use Rattle.guards_model.specs.declared.Slot.TheVariants.{Tasks, Switch}
use Rattle.guards_model.specs.Words.{is_word}
use Rattle.guards_model.specs.Channels.{Channel, ChannelSet, has, place_or, without, numbers_below, by_channel}
use Rattle.guards_model.specs.Contexts.{context_word}
use Rattle.guards_model.specs.Transfers.{TransferValue, remains}
use Rattle.guards_model.specs.Tasks.{whole}
use Rattle.guards_model.specs.Missions.{MissionValue, IsMission, cycle_writes, written_blocks, output_words, within}
use Rattle.guards_model.specs.Frames.{is_set, is_channel, ascends}
use Rattle.guards_model.specs.Modes.{is_up}
use Rattle.guards_model.specs.Diagnosis.{asks, counts_of}
use Rattle.guards_model.specs.Decisions.{joined_of}
use Rattle.guards_model.specs.Network.{Log}
use Rattle.guards_model.specs.Rounds.{Steps, Histories, is_task, is_sweep, steps_of}
use Rattle.guards_model.specs.Texts.{LineValue, RecordValue}
use Rattle.guards_runs.specs.Cycles.{Cycle, Past, mode_in, is_damaged, swept_since, remaining_of, base_counts, cycle_start_of, agreement_of, decision_of, work_of, cycle_from, next_cycle, cycles_before}
use Rattle.guards_runs.specs.Disturbed.{disturbed_channels, is_charge}
use Rattle.guards_runs.specs.Promises.{EachCycle, Agrees, is_undisturbed}
use Rattle.guards_runs.specs.Report.{cycle_record, line_of, channels_running_in, remaining_in}
use Rattle.guards_world.specs.WorldCycle.{AreFull}
use Rattle.guards_audit.specs.Lines.{cycle_told, channel_told, end_told, is_empty, some_that, is_small, is_cast, if_there, is_transfer, is_form}
use Rattle.guards_audit.specs.Told.{Told, next_cycle_number, first_line, active_told, counts_told, context_told, plan_told}
use Rattle.guards_audit.specs.Tests.{cycle_fits, transfer_fits, counts_fit, votes_fit, removed_fits, stays_rightly}
use Rattle.guards_model.proofs.BoolTests.{both, and_true, or_left, first_false, no_first, not_false}
use Rattle.guards_model.proofs.Tables.{has-filter}
use Rattle.guards_model.proofs.Counting.{count-split, count-all, map_same}
use Rattle.guards_model.proofs.AscendingLists.{member_passes, member-channel, set_parts, set-filter, set-take, set-distinct, ascends-filter}
use Rattle.guards_laws.proofs.CycleParts.{active-is, judged-is, inputs-is, ideal-is, up_in_slot}
use Rattle.guards_laws.proofs.IdealWords.{inputs_words, ideal_whole}
use Rattle.guards_laws.proofs.StayActive.{three_active, three_left}
use Rattle.guards_laws.proofs.WithinChannels.{active_is_set, active_within}
use Rattle.audit_laws.proofs.SameLists.{number_same, bytes_alike, votes_alike}
use Rattle.audit_laws.proofs.GoodCycle.{IsFit, line_for}
use Rattle.audit_laws.proofs.RunRecords.{records, length-records, active-records, HasLine, first-is, context-records, counts-records, plan-records, rest-records, number-records, remaining-is}
use Rattle.audit_laws.proofs.RunTransfers.{from_members, length-kept, transfer_records}
use Rattle.audit_laws.proofs.RunRanges.{small-is, not_empty, counts_small}
use Rattle.guards_laws.proofs.Planned.{ranges, targets_set, joined_set}
use Rattle.guards_laws.proofs.EachFollowed.{starts_by}
use Rattle.guards_model.proofs.ValueWords.{word_at_in}
use Rattle.guards_model.proofs.ListTests.{all-take}

-- ---- removal

-- where a member of an ascending list is not among the first k, these are k, and below it
record IsPast (k : ℕ) (xs : List ℕ) (q : ℕ) : Type 0 where
  many : length (take k xs) ≡ k
  below : list_all (λ p. nat_lt p q) (take k xs) ≡ true

past_one : (k x q : ℕ) (xs : List ℕ) → nat_lt x q ≡ true → IsPast k xs q → IsPast (suc k) (x ∷ xs) q
past_one k x q xs h more =
    record {
      many = ap suc more.many;
      below = and_true (nat_lt x q) (list_all (λ p. nat_lt p q) (take k xs)) h more.below;
    }

past_by : (k x q : ℕ) (xs : List ℕ) (b : Bool) → (x == q) ≡ b → list_all (λ y. nat_lt x y) xs ≡ true →
    (b || has xs q) ≡ true → (b || has (take k xs) q) ≡ false →
    (has xs q ≡ true → has (take k xs) q ≡ false → IsPast k xs q) → IsPast (suc k) (x ∷ xs) q
past_by k x q xs true e low there h more = absurd cc
past_by k x q xs false e low there h more =
    past_one k x q xs (member_passes (λ y. nat_lt x y) xs q low there) (more there h)

is_past : (k : ℕ) (xs : List ℕ) (q : ℕ) → ascends xs ≡ true → has xs q ≡ true → has (take k xs) q ≡ false →
    IsPast k xs q
is_past zero xs q order there h = record { many = refl; below = refl }
is_past (suc k) [] q order there h = absurd cc
is_past (suc k) (x ∷ xs) q order there h =
    let parts = both (list_all (λ y. nat_lt x y) xs) (ascends xs) order in
    past_by k x q xs (x == q) refl parts.0 there h (is_past k xs q parts.1)

in_take : (n : ℕ) (xs : List ℕ) (q : ℕ) → has (take n xs) q ≡ true → has xs q ≡ true
in_take zero xs q h = absurd cc
in_take (suc n) [] q h = absurd cc
in_take (suc n) (x ∷ xs) q h = by_first (x == q) (has (take n xs) q) (has xs q) (in_take n xs q) h
  where
    by_first : (b taken there : Bool) → (taken ≡ true → there ≡ true) → (b || taken) ≡ true → (b || there) ≡ true
    by_first true taken there f k = refl
    by_first false taken there f k = f k

module _ (M : MissionValue) (active : ChannelSet) (test : ℕ → Bool) (set : is_set active ≡ true)
    (many : 3 ≤ length active) where
  abbrev gone : ChannelSet
  gone = take (length active - 3) (filter test active)

  gone_set : is_set gone ≡ true
  gone_set = set-take (length active - 3) (filter test active) (set-filter test active set)

  gone_inside : list_all (has active) gone ≡ true
  gone_inside = from_members (has active) gone
      (λ q there. (both (test q) (has active q)
      (sym (has-filter test active q) ∙ in_take (length active - 3) (filter test active) q there)).1)

  split : length (without active gone) + length gone ≡ length active
  split = omega (
    arith,
    count-split (λ q. true) active gone (set-distinct active set) (set-distinct gone gone_set)
        gone_inside,
    count-all (without active gone),
    count-all gone,
    count-all active,
  )

  stays_by : (q : Channel) (count : ℕ) (reached taken : Bool) → nat_le M.rules.threshold count ≡ reached →
      has gone q ≡ taken → has active q ≡ true → (reached ≡ true → test q ≡ true) →
      ((not reached || taken) || (length (without active gone) == 3 && list_all (λ p. nat_lt p q) gone)) ≡ true
  stays_by q count false taken e f there h = refl
  stays_by q count true true e f there h = refl
  stays_by q count true false e f there h =
      let past = is_past (length active - 3) (filter test active) q
      (ascends-filter test active (set_parts active set).1)
      (has-filter test active q ∙ and_true (test q) (has active q) (h refl) there) f in
      and_true (length (without active gone) == 3) (list_all (λ p. nat_lt p q) gone)
      (eq-eqb (length (without active gone)) 3 (omega (arith, split, past.many, many))) past.below

  stays : (counts : List ℕ) (q : Channel) → has active q ≡ true →
      (nat_le M.rules.threshold (place_or counts q 0) ≡ true → test q ≡ true) →
      ((not (nat_le M.rules.threshold (place_or counts q 0)) || has gone q)
      || (length (without active gone) == 3 && list_all (λ p. nat_lt p q) gone)) ≡ true
  stays counts q there h = stays_by q (place_or counts q 0) (nat_le M.rules.threshold (place_or counts q 0))
      (has gone q) refl refl there h

-- ---- who has a line

line_by : (ps : ChannelSet) (q : Channel) (e : Cycle) → channels_running_in Switch e ≡ ps → has ps q ≡ true → HasLine e
line_by [] q e h there = absurd cc
line_by (p ∷ ps) q e h there = record { first = p; others = ps; run = h }

-- a channel that is undisturbed is up at the end
undisturbed_up : (c : ℕ) (e : Cycle) (q : Channel) → IsTrue (is_undisturbed c e q) →
    (has e.active q ≡ true) × (is_up (mode_in e q Switch) ≡ true)
undisturbed_up c e q h =
    let t : ℕ → Bool = λ p. (not (is_up (mode_in e p Switch)) || is_damaged e p Switch)
    || list_any (is_charge c Switch p) e.entries in
    let parts = both (has e.active q) (not (has (disturbed_channels c e Switch) q)) h in
    let quiet : t q ≡ false =
    first_false (t q) (has e.active q)
    (sym (has-filter t e.active q) ∙ not_true_false (has (filter t e.active) q) parts.1) parts.0 in
    let up = no_first (not (is_up (mode_in e q Switch))) (is_damaged e q Switch)
    (no_first (not (is_up (mode_in e q Switch)) || is_damaged e q Switch)
    (list_any (is_charge c Switch q) e.entries) quiet).0 in
    (parts.0, not_false (is_up (mode_in e q Switch)) up.0)
  where
    not_true_false : (b : Bool) → not b ≡ true → b ≡ false
    not_true_false true k = absurd cc
    not_true_false false k = refl

pub has_line : (M : MissionValue) (past : Past) (e : Cycle) → IsMission M → Agrees M past e → HasLine e
has_line M past e mission a =
    let w = both (nat_le 1 M.width) (nat_le M.width 4) mission.width in
    let q = a.least 0 (leb-true 1 M.width w.0) in
    let up = undisturbed_up (length past) e q.0 q.1 in
    line_by (channels_running_in Switch e) q.0 e refl
    (has-filter (λ p. is_up (mode_in e p Switch)) e.active q.0
    ∙ and_true (is_up (mode_in e q.0 Switch)) (has e.active q.0) up.1 up.0)

-- ---- the record of a cycle

place-take : (n : ℕ) (xs : List ℕ) (q : ℕ) → q < n → place_or (take n xs) q 0 ≡ place_or xs q 0
place-take zero xs q h = absurd (omega arith)
place-take (suc n) [] q h = refl
place-take (suc n) (x ∷ xs) zero h = refl
place-take (suc n) (x ∷ xs) (suc q) h = place-take n xs q (omega arith)

pub length-cycles : (M : MissionValue) (L : Log) (n : ℕ) → length (cycles_before M L n) ≡ n
length-cycles M L zero = refl
length-cycles M L (suc n) = ap suc (length-cycles M L n)

module _ (M : MissionValue) (L : Log) (mission : IsMission M) (histories : Histories) (n : ℕ) (early : n < M.cycles)
    (lines : EachCycle (λ past e. HasLine e) (cycles_before M L n)) where
  abbrev past : Past
  past = cycles_before M L n

  abbrev e : Cycle
  e = next_cycle M L past

  abbrev told : Told
  told = records M histories past

  size : length told ≡ length past
  size = length-records M histories past

  abbrev candidate : ℕ → Bool
  candidate q = nat_le M.rules.threshold (place_or e.counts q 0) || asks e.active e.fresh e.agreed q

  removed_is : e.removed ≡ take (length e.active - 3) (filter candidate e.active)
  unfolding cycle_from decision_of cycle_start_of agreement_of
  removed_is = refl

  counts_are : e.counts ≡ counts_of M.rules.law M.rules.keep M.rules.decrement e.active e.judged (base_counts M past)
  unfolding cycle_from decision_of cycle_start_of agreement_of
  counts_are = refl

  joined_are : e.joined ≡ joined_of M.rules.last e.transfer e.remaining
  unfolding cycle_from work_of
  joined_are = refl

  active_set_now : is_set e.active ≡ true
  active_set_now = ap is_set (active-is M L past) ∙ active_is_set M past mission

  three : 3 ≤ length e.active
  three = subst (λ s. 3 ≤ length s) (sym (active-is M L past)) (three_active M L mission n)

  below : (q : Channel) → has e.active q ≡ true → q < M.rules.channels
  below q there = active_within M L n q (sym (ap (λ s. has s q) (active-is M L past)) ∙ there)

  abbrev base : LineValue
  base = record {
    channel = 0;
    inputs = e.inputs;
    votes = map (λ w. Some w) (output_words M e.ideal_context);
    judged = e.judged;
    counts = take M.rules.channels e.counts;
  }

  opens : cycle_fits M told (length past) e.active e.transfer ≡ true
  opens =
      and_true (nat_lt (length past) M.cycles && length past == next_cycle_number told) _
      (and_true (nat_lt (length past) M.cycles) (length past == next_cycle_number told)
      (le-leb (suc (length past)) M.cycles (omega (arith, length-cycles M L n, early)))
      (ap (λ k. length past == k) size ∙ number_same (length past)))
      (and_true (bytes_eq e.active (active_told M told)) (transfer_fits M told e.active e.transfer)
      (bytes_alike e.active (active_told M told) (active-is M L past ∙ sym (active-records M histories past)))
      (transfer_records M L mission histories n e.active (active-is M L past)))

  inputs_many : length e.inputs ≡ M.width
  inputs_many = ap length (inputs-is M L past) ∙ length-map (numbers_below M.width) _ ∙ length-range_with_len 0 M.width

  judged_fit : (is_set e.judged && list_all (has e.active) e.judged) ≡ true
  judged_fit =
      subst (λ j. (is_set j && list_all (has e.active) j) ≡ true) (sym (judged-is M L past)) (filtered _)
    where
      filtered : (t : ℕ → Bool) → (is_set (filter t e.active) && list_all (has e.active) (filter t e.active)) ≡ true
      filtered t =
          and_true (is_set (filter t e.active)) (list_all (has e.active) (filter t e.active))
          (set-filter t e.active active_set_now)
          (from_members (has e.active) (filter t e.active)
          (λ q there. (both (t q) (has e.active q) (sym (has-filter t e.active q) ∙ there)).1))

  counts_do : bytes_eq (take M.rules.channels e.counts)
      (take M.rules.channels (counts_of M.rules.law M.rules.keep M.rules.decrement e.active e.judged
      (counts_told M told))) ≡ true
  counts_do =
      bytes_alike _ _ (ap (take M.rules.channels)
      (counts_are ∙ ap (counts_of M.rules.law M.rules.keep M.rules.decrement e.active e.judged)
      (sym (counts-records M L histories n lines))))

  votes_do : votes_fit M told base ≡ true
  votes_do =
      votes_alike _ _ (ap (λ ctx. map (λ w. Some w) (output_words M ctx))
      (ideal-is M L past
      ∙ ap (λ ctx. whole (cycle_writes M (length past)) ctx (length past) e.inputs)
      (sym (context-records M L histories n lines))
      ∙ ap (λ c. whole (cycle_writes M c) (context_told M told) c e.inputs) (sym size)))

  -- ---- the ranges of its lines

  short : (k : ℕ) → k ≤ n → is_small k ≡ true
  short k h = small-is k (omega (arith, h, early, (ranges M mission).cycles))

  transfer_formed : (o : Option TransferValue) → e.transfer ≡ o → if_there is_transfer o ≡ true
  transfer_formed None h = refl
  transfer_formed (Some t) h =
      and_true (is_set t.targets) (is_small t.start) (targets_set M L mission n t h)
      (short t.start (omega (arith, starts_by M L n t h, length-cycles M L n)))

  cycle_formed : is_form (cycle_told (length past) e.active e.transfer) ≡ true
  cycle_formed =
      and_true (is_small (length past)) _ (short (length past) (omega (arith, length-cycles M L n)))
      (and_true (is_set e.active) (if_there is_transfer e.transfer) active_set_now (transfer_formed e.transfer refl))

  outputs_cast : (os : List (ℕ × ℕ)) →
      list_all is_cast (map (λ w. Some w) (map (λ (o : ℕ × ℕ). context_word e.ideal_context o.0 o.1) os)) ≡ true
  outputs_cast [] = refl
  outputs_cast (o ∷ os) =
      and_true (is_word (context_word e.ideal_context o.0 o.1))
      (list_all is_cast (map (λ w. Some w) (map (λ (o : ℕ × ℕ). context_word e.ideal_context o.0 o.1) os)))
      (word_at_in e.ideal_context o.0 o.1 (ideal_whole M L (suc n) mission early)) (outputs_cast os)

  outputs_some : some_that is_cast (map (λ w. Some w) (output_words M e.ideal_context)) ≡ true
  outputs_some =
      let many = both (within 1 8 (length M.outputs))
      (list_all (λ (o : ℕ × ℕ). nat_lt o.0 M.rules.blocks && nat_lt o.1 8) M.outputs) mission.outputs in
      and_true (not (is_empty (map (λ w. Some w) (output_words M e.ideal_context)))) _
      (not_empty (map (λ w. Some w) (output_words M e.ideal_context))
      (omega (
        arith,
        length-map (output_words M e.ideal_context) (λ w. Some w),
        length-map M.outputs (λ (o : ℕ × ℕ). context_word e.ideal_context o.0 o.1),
        leb-true 1 (length M.outputs) (both (nat_le 1 (length M.outputs)) (nat_le (length M.outputs) 8) many.0).0,
      )))
      (outputs_cast M.outputs)

  inputs_some : some_that is_word e.inputs ≡ true
  inputs_some =
      and_true (not (is_empty e.inputs)) (list_all is_word e.inputs)
      (not_empty e.inputs (omega
      (arith, inputs_many, leb-true 1 M.width (both (nat_le 1 M.width) (nat_le M.width 4) mission.width).0)))
      (inputs_words M L n mission)

  counts_many : length e.counts ≡ 7
  unfolding cycle_from decision_of by_channel
  counts_many = refl

  counts_some : some_that is_small (take M.rules.channels e.counts) ≡ true
  counts_some =
      and_true (not (is_empty (take M.rules.channels e.counts))) (list_all is_small (take M.rules.channels e.counts))
      (not_empty (take M.rules.channels e.counts)
      (omega (arith, length-take M.rules.channels e.counts, counts_many, (ranges M mission).channels)))
      (all-take is_small M.rules.channels e.counts (counts_small M L mission n))

  line_formed : (p : Channel) → has e.active p ≡ true → is_form (channel_told (line_for base p)) ≡ true
  line_formed p there =
      and_true (is_channel p) _ (le-leb (suc p) 7 (member-channel e.active p active_set_now there))
      (and_true (some_that is_word e.inputs && some_that is_cast base.votes) _
      (and_true (some_that is_word e.inputs) (some_that is_cast base.votes) inputs_some outputs_some)
      (and_true (is_set e.judged) (some_that is_small (take M.rules.channels e.counts))
      (both (is_set e.judged) (list_all (has e.active) e.judged) judged_fit).0 counts_some))

  rest_small : (o : Option TransferValue) → length e.remaining ≤ 256 →
      if_there is_small (option_map (λ (t : TransferValue). length e.remaining) o) ≡ true
  rest_small None h = refl
  rest_small (Some t) h = small-is (length e.remaining) (omega arith)

  few_remain : (o : Option TransferValue) (planned : List ℕ) → length (remaining_of M past o planned) ≤ M.rules.blocks
  few_remain None planned = omega arith
  few_remain (Some t) planned =
      omega (
        arith,
        length-kept
            (remains (record { planned = planned; written = written_blocks M (length past) }
            ∷ swept_since M t.start past)) (numbers_below M.rules.blocks),
        length-range_with_len 0 M.rules.blocks,
      )

  removed_set : is_set e.removed ≡ true
  removed_set = ap is_set removed_is ∙ gone_set M e.active candidate active_set_now three

  end_formed : is_form (end_told e.removed e.joined (remaining_in e)) ≡ true
  end_formed =
      and_true (is_set e.removed) _ removed_set
      (and_true (is_set e.joined) (if_there is_small (remaining_in e)) (joined_set M L mission n)
      (rest_small e.transfer (omega (
        arith,
        ap (λ (bs : List ℕ). length bs) (remaining-is M L n histories),
        few_remain e.transfer e.planned,
        (ranges M mission).blocks,
      ))))

  module _ (a : Agrees M past e) (steps : Steps) (full : AreFull M past e steps) where
    abbrev r : RecordValue
    r = cycle_record M steps (length past) e

    some : HasLine e
    some = has_line M past e mission a

    abbrev runners : List Channel
    runners = some.first ∷ some.others

    in_active : (ps : List Channel) (t : ℕ → Bool) → filter t e.active ≡ ps → list_all (has e.active) ps ≡ true
    in_active ps t h =
        subst (λ xs. list_all (has e.active) xs ≡ true) h
        (from_members (has e.active) (filter t e.active)
        (λ q there. (both (t q) (has e.active q) (sym (has-filter t e.active q) ∙ there)).1))

    lines_are : r.lines ≡ map (line_for base) runners
    lines_are =
        map_same (line_of M e) (line_for base) (channels_running_in Switch e)
        (λ p there. let votes = a.votes p
        (both (is_up (mode_in e p Switch)) (has e.active p)
        (sym (has-filter (λ q. is_up (mode_in e q Switch)) e.active p) ∙ there)).1 in
        λ i. record {
          channel = p;
          inputs = e.inputs;
          votes = votes i;
          judged = e.judged;
          counts = take M.rules.channels e.counts;
        })
        ∙ ap (map (line_for base)) some.run

    first_counts : (first_line r).counts ≡ take M.rules.channels e.counts
    first_counts = ap (λ (l : LineValue). l.counts) (first-is M steps (length past) e some)

    reached : (q : Channel) → has e.active q ≡ true →
        nat_le M.rules.threshold (place_or (first_line r).counts q 0) ≡ true → candidate q ≡ true
    reached q there h =
        or_left (nat_le M.rules.threshold (place_or e.counts q 0)) (asks e.active e.fresh e.agreed q)
        (ap (nat_le M.rules.threshold)
        (sym (place-take M.rules.channels e.counts q (below q there))
        ∙ sym (ap (λ cs. place_or cs q 0) first_counts)) ∙ h)

    removed_do : removed_fits M r e.removed ≡ true
    removed_do =
        let gone : ChannelSet = take (length e.active - 3) (filter candidate e.active) in
        subst (λ (xs : ChannelSet). removed_fits M r xs ≡ true) (sym removed_is)
        (and_true (list_all (has e.active) gone) _ (gone_inside M e.active candidate active_set_now three)
        (and_true (nat_le 3 (length (without e.active gone))) (list_all (stays_rightly M r gone) e.active)
        (le-leb 3 (length (without e.active gone)) (three_left e.active candidate active_set_now three))
        (from_members (stays_rightly M r gone) e.active
        (λ q there. stays M e.active candidate active_set_now three (first_line r).counts q there
        (reached q there)))))

    traced_all : list_all (has (channels_running_in Tasks e)) runners ≡ true
    traced_all =
        subst (λ ps. list_all (has (channels_running_in Tasks e)) ps ≡ true) some.run
        (from_members (has (channels_running_in Tasks e)) (channels_running_in Switch e) (λ q there.
        let parts = both (is_up (mode_in e q Switch)) (has e.active q)
        (sym (has-filter (λ p. is_up (mode_in e p Switch)) e.active q) ∙ there) in
        has-filter (λ p. is_up (mode_in e p Tasks)) e.active q
        ∙ and_true (is_up (mode_in e q Tasks)) (has e.active q)
        (up_in_slot M L past q Tasks Switch (member-channel e.active q active_set_now parts.1) refl parts.0)
        parts.1))

    full_all : list_all (λ p. count_by is_task (steps_of steps p) == length (cycle_writes M (next_cycle_number told))
        && count_by is_sweep (steps_of steps p) == length (plan_told M told e.transfer)) (channels_running_in Tasks e)
        ≡ true
    full_all =
        from_members _ (channels_running_in Tasks e) (λ p there. let f = full p there in
        and_true _ _
        (eq-eqb (count_by is_task (steps_of steps p)) (length (cycle_writes M (length told)))
        (f.tasks ∙ ap (λ c. length (cycle_writes M c)) (sym size)))
        (eq-eqb (count_by is_sweep (steps_of steps p)) (length (plan_told M told e.transfer))
        (f.sweeps ∙ ap (λ (bs : List ℕ). length bs) (sym (plan-records M L n histories)))))

    pub cycle_fit : IsFit M told r
    cycle_fit =
        record {
          base = base;
          first = some.first;
          others = some.others;
          workers = channels_running_in Tasks e;
          steps = steps_of steps;
          lines = lines_are;
          traces = refl;
          opens = opens;
          ascending = subst (λ ps. ascends ps ≡ true) some.run
              (ascends-filter (λ p. is_up (mode_in e p Switch)) e.active (set_parts e.active active_set_now).1);
          active = in_active runners (λ p. is_up (mode_in e p Switch)) some.run;
          says = and_true (length e.inputs == M.width && list_all (has e.active) e.judged) _
              (and_true (length e.inputs == M.width) _ (eq-eqb (length e.inputs) M.width inputs_many)
              (both (is_set e.judged) (list_all (has e.active) e.judged) judged_fit).1)
              (and_true (counts_fit M told r base) (votes_fit M told base) counts_do votes_do);
          working = ascends-filter (λ p. is_up (mode_in e p Tasks)) e.active (set_parts e.active active_set_now).1;
          workers_active = in_active (channels_running_in Tasks e) (λ p. is_up (mode_in e p Tasks)) refl;
          full = full_all;
          traced = traced_all;
          removed = removed_do;
          remaining = sym (number-records M L n histories);
          joined = joined_are ∙ ap (joined_of M.rules.last e.transfer) (sym (rest-records M L n histories));
          cycle_form = cycle_formed;
          line_form = from_members (λ p. is_form (channel_told (line_for base p))) runners
              (λ p there. line_formed p
              (member_passes (has e.active) runners p (in_active runners (λ q. is_up (mode_in e q Switch)) some.run)
              there));
          steps_form = (set_parts (channels_running_in Tasks e)
              (set-filter (λ p. is_up (mode_in e p Tasks)) e.active active_set_now)).0;
          end_form = end_formed;
        }
