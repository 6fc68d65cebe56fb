-- What comes in the next cycle of a ballot that is wrong.
use Rattle.std.proofs.Common.{◌≡◌, ℕ, suc, ◌<◌, ◌≤◌, ◌==◌, ◌⊎◌, inl, inr, Bool, true, false, cond, not, ◌&&◌, ◌||◌, List, [], ◌∷◌, length, map, Option, None, Some, ℤ, refl, sym, ap, subst, ◌∙◌, arith}
use Rattle.std.specs.Prelude.{is_none, nat_lt, count_by, option_map}
use Rattle.std.specs.List.{list_any}
use Rattle.std.proofs.lemmas.Bool.{eqb-true, le-leb}
use Rattle.guards_model.specs.declared.Slot.TheVariants.{Vote, Switch}
use Rattle.guards_model.specs.Channels.{Channel, ChannelSet, has, place_or, tolerated_faults, every_channel}
use Rattle.guards_model.specs.Missions.{MissionValue, IsMission, output_words}
use Rattle.guards_model.specs.Frames.{SourceValue, is_distinct}
use Rattle.guards_model.specs.Network.{Log, ballot_of}
use Rattle.guards_model.specs.Exchanges.{AreSettled}
use Rattle.guards_model.specs.Diagnosis.{Agreed, enough_tell}
use Rattle.guards_model.specs.Voting.{is_wrong, accused_of, present}
use Rattle.guards_model.specs.Damages.{is_damage}
use Rattle.guards_model.specs.Modes.{down, is_up, is_crash_by}
use Rattle.guards_runs.specs.Cycles.{Past, Cycle, mode_in, is_damaged, source_word, accused_before, received_body, cycles_before, next_cycle}
use Rattle.guards_runs.specs.Disturbed.{disturbed_channels, is_charge}
use Rattle.guards_runs.specs.Promises.{HasRun, is_undisturbed}
use Rattle.guards_model.proofs.BoolTests.{differ, both, and_true, or_true, or_left, not_true, second_false}
use Rattle.guards_model.proofs.Counting.{one_if, one_if_true, one_if_false, count-cons, count-all, count_le, has-head}
use Rattle.guards_model.proofs.Presence.{table_again, only_members, all_members}
use Rattle.guards_model.proofs.Tables.{at-by_channel, has-filter}
use Rattle.guards_model.proofs.AscendingLists.{set-distinct, member-channel, every_is_set}
use Rattle.guards_laws.proofs.Agreement.{run_cycles}
use Rattle.guards_laws.proofs.AgreedWords.{settled_now}
use Rattle.guards_laws.proofs.CycleParts.{active-is, judged-is, ballots, ballots-is, accused-is}
use Rattle.guards_laws.proofs.HeldIdeal.{start, slot_mode, damaged-is}
use Rattle.guards_laws.proofs.LogGrows.{length-cycles_before}
use Rattle.guards_laws.proofs.StayActive.{joined_passive}
use Rattle.guards_laws.proofs.Votes.{voted_ideal}
use Rattle.recovery_laws.specs.WrongVotes.{VotesWrong, ballot_had, finds_wrong, word_accuses, counts_against, IsJudgedByVote}
use Rattle.recovery_laws.proofs.JudgedCounts.{low_now}
use Rattle.recovery_laws.proofs.ActiveBefore.{active_if_old}
use Rattle.recovery_laws.proofs.FewJoin.{few_members, count_without, old, old_many, new_few, set_next, three_next}

-- ---- counting the agreed words that tell

words_step : (q : Channel) (f : ℕ → Option SourceValue) (x : ℕ) (xs : List ℕ) (o : Option SourceValue) → f x ≡ o →
    count_by (λ (w : SourceValue). has w.accuse q) (present (map f xs)) ≡ count_by (λ j. word_accuses q (f j)) xs →
    count_by (λ (w : SourceValue). has w.accuse q) (present (o ∷ map f xs))
    ≡ count_by (λ j. word_accuses q (f j)) (x ∷ xs)
words_step q f x xs None e rest =
    omega (
      arith,
      rest,
      count-cons (λ j. word_accuses q (f j)) x xs,
      ap (λ o. one_if (word_accuses q o)) e,
      one_if_false false refl,
    )
words_step q f x xs (Some w) e rest =
    omega (
      arith,
      rest,
      count-cons (λ (w : SourceValue). has w.accuse q) w (present (map f xs)),
      count-cons (λ j. word_accuses q (f j)) x xs,
      ap (λ o. one_if (word_accuses q o)) e,
    )

-- those that are there and tell, counted by their places
count_words : (q : Channel) (f : ℕ → Option SourceValue) (xs : List ℕ) →
    count_by (λ (w : SourceValue). has w.accuse q) (present (map f xs)) ≡ count_by (λ j. word_accuses q (f j)) xs
count_words q f [] = refl
count_words q f (x ∷ xs) = words_step q f x xs (f x) refl (count_words q f xs)

no_word : (q : Channel) (o : Option SourceValue) → o ≡ None → word_accuses q o ≡ false
no_word q None e = refl
no_word q (Some w) e = absurd (inner e)
  where
    inner : Some w ≡ None → ⊥
    inner h = cc

module _ (active D : ChannelSet) (own : Channel → SourceValue) (agreed : Agreed)
    (settled : AreSettled active D own agreed) (q : Channel) where
  abbrev tells : ℕ → Bool
  tells j = word_accuses q (place_or agreed j None)

  only_active : (j : Channel) → has every_channel j ≡ true → tells j ≡ true → (has active j && tells j) ≡ true
  only_active j there t = by (has active j) refl
    where
      by : (b : Bool) → has active j ≡ b → (b && tells j) ≡ true
      by true e = t
      by false e = differ (sym t
          ∙ no_word q (place_or agreed j None)
          (settled.passive j (member-channel every_channel j every_is_set there) e))

  pub told_count : count_by (λ (w : SourceValue). has w.accuse q) (present agreed) ≡ count_by tells active
  told_count =
      let table : agreed ≡ map (λ s. place_or agreed s None) every_channel =
      subst (λ a. a ≡ map (λ s. place_or a s None) every_channel) (sym settled.table)
      (table_again (λ s. place_or agreed s None) None) in
      let words : count_by (λ (w : SourceValue). has w.accuse q) (present agreed) ≡ count_by tells every_channel =
      ap (λ a. count_by (λ (w : SourceValue). has w.accuse q) (present a)) table
      ∙ count_words q (λ s. place_or agreed s None) every_channel in
      omega (
        arith,
        words,
        only_members active tells settled.set,
        all_members active tells settled.set,
        count_le tells (λ j. has active j && tells j) every_channel only_active,
        count_le (λ j. has active j && tells j) tells every_channel (λ j there h. (both (has active j) (tells j) h).1),
      )

  pub told_exactly : enough_tell active agreed (λ (w : SourceValue). has w.accuse q)
      ≡ nat_lt (tolerated_faults active) (count_by tells active)
  told_exactly = ap (nat_lt (tolerated_faults active)) told_count

-- two tests that agree on the members count alike
count_alike : (f g : ℕ → Bool) (xs : List ℕ) → ((j : ℕ) → has xs j ≡ true → f j ≡ g j) → count_by f xs ≡ count_by g xs
count_alike f g [] h = refl
count_alike f g (x ∷ xs) h =
    omega (
      arith,
      count-cons f x xs,
      count-cons g x xs,
      ap one_if (h x (has-head x xs)),
      count_alike f g xs (λ j there. h j (or_true (x == j) (has xs j) there)),
    )

member_step : (p : ℕ → Bool) (x : ℕ) (xs : List ℕ) (q : ℕ) (b : Bool) → (x == q) ≡ b → (b || has xs q) ≡ true →
    p q ≡ true → (has xs q ≡ true → 1 ≤ count_by p xs) → 1 ≤ count_by p (x ∷ xs)
member_step p x xs q true e h passes rest =
    omega (arith, count-cons p x xs, one_if_true (p x) (ap p (eqb-true x q e) ∙ passes))
member_step p x xs q false e h passes rest = omega (arith, count-cons p x xs, rest h)

-- a member that passes is counted
counted_member : (p : ℕ → Bool) (xs : List ℕ) (q : ℕ) → has xs q ≡ true → p q ≡ true → 1 ≤ count_by p xs
counted_member p [] q there passes = absurd cc
counted_member p (x ∷ xs) q there passes =
    member_step p x xs q (x == q) refl there passes (λ h. counted_member p xs q h passes)

-- one at most of a list without repetition is this one
once : (q : ℕ) (xs : List ℕ) → is_distinct xs ≡ true → count_by (λ j. q == j) xs ≤ 1
unfolding is_distinct
once q xs d =
    omega (
      arith,
      count_le (λ j. q == j) (has (q ∷ [])) xs (λ j there e. or_first (q == j) e),
      few_members (q ∷ []) xs refl d,
    )
  where
    or_first : (a : Bool) → a ≡ true → (a || false) ≡ true
    or_first true h = refl
    or_first false h = absurd cc

module _ (M : MissionValue) (L : Log) (n : ℕ) (mission : IsMission M) (early : n ≤ M.cycles) (run : HasRun M L n)
    (c : ℕ) (soon : suc c < n) (q : Channel) where
  abbrev past : ℕ → Past
  past m = cycles_before M L m

  abbrev now : ℕ → Cycle
  now m = next_cycle M L (cycles_before M L m)

  abbrev D : ChannelSet
  D = disturbed_channels (length (cycles_before M L (suc c))) (next_cycle M L (cycles_before M L (suc c))) Switch

  abbrev ideal : List (Option ℤ)
  ideal = map (λ w. Some w) (output_words M (next_cycle M L (cycles_before M L c)).ideal_context)

  settled : AreSettled (now (suc c)).active D (source_word M (past (suc c))) (now (suc c)).agreed
  settled = settled_now M L (suc c) Switch (run_cycles M L n mission early run (suc c) soon)

  -- ---- what an undisturbed channel tells is what it found

  ballot : q < 7 → (j : Channel) → has (now c).active j ≡ true →
      place_or (ballots M L (past c) j) q None ≡ ballot_had M (past c) (now c) q j
  ballot low j there =
      ap (λ bs. place_or bs q None) (ballots-is M L (past c) j there)
      ∙ at-by_channel (λ i. cond (i == j) (option_map (output_words M) (place_or (now c).contexts_after j None))
      (ballot_of (received_body M (now c).entries (length (past c)) Vote i j))) q None low

  accused : (j : Channel) → has (now c).active j ≡ true →
      has (place_or (now c).accusations j []) q
      ≡ (is_wrong ideal (ballot_had M (past c) (now c) q j) && has (now c).active q)
  accused j there =
      ap (λ s. has s q) (accused-is M L (past c) j (low_now M L mission c j there))
      ∙ ap (λ votes. has (accused_of (now c).active (ballots M L (past c) j) votes) q)
      (voted_ideal M L c Switch (run_cycles M L n mission early run c (omega (arith, soon))) refl j there)
      ∙ has-filter (λ i. is_wrong ideal (place_or (ballots M L (past c) j) i None)) (now c).active q
      ∙ by (has (now c).active q) refl
    where
      by : (b : Bool) → has (now c).active q ≡ b →
          (is_wrong ideal (place_or (ballots M L (past c) j) q None) && b)
          ≡ (is_wrong ideal (ballot_had M (past c) (now c) q j) && b)
      by true e = ap (λ o. is_wrong ideal o && true) (ballot (low_now M L mission c q e) j there)
      by false e =
          second_false (is_wrong ideal (place_or (ballots M L (past c) j) q None)) false refl
          ∙ sym (second_false (is_wrong ideal (ballot_had M (past c) (now c) q j)) false refl)

  found : (j : Channel) → has (now (suc c)).active j ≡ true →
      has (accused_before (past (suc c)) j) q ≡ finds_wrong M (past c) (now c) q j
  found j member = by (has (now c).joined j) refl
    where
      by : (b : Bool) → has (now c).joined j ≡ b →
          has (cond b [] (place_or (now c).accusations j [])) q
          ≡ (has (now c).active j && (is_wrong ideal (ballot_had M (past c) (now c) q j) && has (now c).active q))
      by true e = sym (ap (λ b. b && (is_wrong ideal (ballot_had M (past c) (now c) q j) && has (now c).active q))
          (joined_passive M L c j e))
      by false e =
          let before : has (now c).active j ≡ true =
          active_if_old M (past c) (now c) j (low_now M L mission (suc c) j member)
          (subst (λ s. has s j ≡ true) (active-is M L (past (suc c))) member) e in
          accused j before
          ∙ sym (ap (λ b. b && (is_wrong ideal (ballot_had M (past c) (now c) q j) && has (now c).active q)) before)

  against : (j : Channel) → has (now (suc c)).active j ≡ true →
      word_accuses q (place_or (now (suc c)).agreed j None) ≡ counts_against M (past c) (now c) (now (suc c)) q j
  against j member = by (has D j) refl
    where
      by : (b : Bool) → has D j ≡ b →
          word_accuses q (place_or (now (suc c)).agreed j None)
          ≡ cond b (word_accuses q (place_or (now (suc c)).agreed j None)) (finds_wrong M (past c) (now c) q j)
      by true e = refl
      by false e = ap (word_accuses q) (settled.sent j member e) ∙ found j member

  -- ---- the judgement, exactly

  many : Bool
  many = nat_lt (tolerated_faults (now (suc c)).active)
      (count_by (counts_against M (past c) (now c) (now (suc c)) q) (now (suc c)).active)

  many_tell : enough_tell (now (suc c)).active (now (suc c)).agreed (λ (w : SourceValue). has w.accuse q) ≡ many
  unfolding many
  many_tell =
      told_exactly (now (suc c)).active D (source_word M (past (suc c))) (now (suc c)).agreed settled q
      ∙ ap (nat_lt (tolerated_faults (now (suc c)).active))
      (count_alike (λ j. word_accuses q (place_or (now (suc c)).agreed j None))
      (counts_against M (past c) (now c) (now (suc c)) q) (now (suc c)).active against)

  pub judged_exactly : IsJudgedByVote M (past c) (now c) (now (suc c)) q
  unfolding many
  judged_exactly =
      ap (λ s. has s q) (judged-is M L (past (suc c)))
      ∙ has-filter (λ q. is_none (place_or (now (suc c)).agreed q None)
      || enough_tell (now (suc c)).active (now (suc c)).agreed (λ w. has w.accuse q)) (now (suc c)).active q
      ∙ ap (λ b. (is_none (place_or (now (suc c)).agreed q None) || b) && has (now (suc c)).active q) many_tell
      ∙ turned (is_none (place_or (now (suc c)).agreed q None) || many) (has (now (suc c)).active q)
    where
      turned : (a b : Bool) → (a && b) ≡ (b && a)
      turned true true = refl
      turned true false = refl
      turned false true = refl
      turned false false = refl

  -- ---- where all others have a wrong ballot

  module _ (was : has (now c).active q ≡ true) (there : has (now (suc c)).active q ≡ true)
      (wrong : VotesWrong M (past c) (now c) q) where
    -- an undisturbed old channel counts against it
    old_counts : (j : Channel) → has (now (suc c)).active j ≡ true → has D j ≡ false → old M L mission c j ≡ true →
        (q == j) ≡ false → counts_against M (past c) (now c) (now (suc c)) q j ≡ true
    old_counts j member good kept other =
        let unjoined : has (now c).joined j ≡ false = not_true (has (now c).joined j) kept in
        let before : has (now c).active j ≡ true =
        active_if_old M (past c) (now c) j (low_now M L mission (suc c) j member)
        (subst (λ s. has s j ≡ true) (active-is M L (past (suc c))) member) unjoined in
        ap (λ b. cond b (word_accuses q (place_or (now (suc c)).agreed j None)) (finds_wrong M (past c) (now c) q j))
        good
        ∙ and_true (has (now c).active j) (is_wrong ideal (ballot_had M (past c) (now c) q j) && has (now c).active q)
        before
        (and_true (is_wrong ideal (ballot_had M (past c) (now c) q j)) (has (now c).active q)
        (ap (λ b. is_wrong ideal (cond b (option_map (output_words M) (place_or (now c).contexts_after j None))
        (ballot_of (received_body M (now c).entries (length (past c)) Vote q j)))) other ∙ wrong j before other)
        was)

    many_if : tolerated_faults (now (suc c)).active
        < count_by (counts_against M (past c) (now c) (now (suc c)) q) (now (suc c)).active →
        has (now (suc c)).judged q ≡ true
    many_if more =
        judged_exactly
        ∙ and_true (has (now (suc c)).active q)
        (is_none (place_or (now (suc c)).agreed q None)
        || nat_lt (tolerated_faults (now (suc c)).active)
        (count_by (counts_against M (past c) (now c) (now (suc c)) q) (now (suc c)).active)) there
        (or_true (is_none (place_or (now (suc c)).agreed q None))
        (nat_lt (tolerated_faults (now (suc c)).active)
        (count_by (counts_against M (past c) (now c) (now (suc c)) q) (now (suc c)).active))
        (le-leb (suc (tolerated_faults (now (suc c)).active))
        (count_by (counts_against M (past c) (now c) (now (suc c)) q) (now (suc c)).active) more))

    -- where it is disturbed itself, the others are enough, whoever joined
    judged_disturbed : has D q ≡ true → has (now (suc c)).judged q ≡ true
    judged_disturbed bad =
        let counted = count_le (λ j. not (has D j) && old M L mission c j)
        (counts_against M (past c) (now c) (now (suc c)) q) (now (suc c)).active
        (λ j member h. let parts = both (not (has D j)) (old M L mission c j) h in
        let good : has D j ≡ false = not_true (has D j) parts.0 in
        old_counts j member good parts.1 (apart j good (q == j) refl)) in
        many_if (omega (
          arith,
          counted,
          count_without (has D) (old M L mission c) (now (suc c)).active,
          old_many M L mission c,
          new_few M L mission c,
          settled.few,
          counted_member (has D) (now (suc c)).active q there bad,
        ))
      where
        apart : (j : Channel) → has D j ≡ false → (b : Bool) → (q == j) ≡ b → b ≡ false
        apart j good true e = differ (sym bad ∙ ap (has D) (eqb-true q j e) ∙ good)
        apart j good false e = refl

    -- where nobody joined, the others are enough too
    judged_unjoined : (now c).joined ≡ [] → has (now (suc c)).judged q ≡ true
    judged_unjoined none =
        let counted = count_le (λ j. not (has D j) && not (q == j)) (counts_against M (past c) (now c) (now (suc c)) q)
        (now (suc c)).active
        (λ j member h. let parts = both (not (has D j)) (not (q == j)) h in
        old_counts j member (not_true (has D j) parts.0) (ap (λ s. not (has s j)) none) (not_true (q == j) parts.1)) in
        let others = count_without (λ j. q == j) (λ j. true) (now (suc c)).active in
        let plain = count_le (λ j. not (q == j) && true) (λ j. not (q == j)) (now (suc c)).active
        (λ j member h. (both (not (q == j)) true h).0) in
        many_if (omega (
          arith,
          counted,
          count_without (has D) (λ j. not (q == j)) (now (suc c)).active,
          others,
          plain,
          count-all (now (suc c)).active,
          once q (now (suc c)).active (set-distinct (now (suc c)).active (set_next M L mission (suc c))),
          three_next M L mission (suc c),
          settled.few,
        ))

    -- a channel that is damaged has its mark in the next cycle, or is not up there
    still_disturbed : has (now c).damaged q ≡ true → has D q ≡ true
    still_disturbed marked =
        has-filter (λ p. (not (is_up (mode_in (now (suc c)) p Switch)) || is_damaged (now (suc c)) p Switch)
        || list_any (is_charge (length (past (suc c))) Switch p) (now (suc c)).entries) (now (suc c)).active q
        ∙ and_true ((not (is_up (mode_in (now (suc c)) q Switch)) || is_damaged (now (suc c)) q Switch)
        || list_any (is_charge (length (past (suc c))) Switch q) (now (suc c)).entries) (has (now (suc c)).active q)
        (or_left (not (is_up (mode_in (now (suc c)) q Switch)) || is_damaged (now (suc c)) q Switch)
        (list_any (is_charge (length (past (suc c))) Switch q) (now (suc c)).entries)
        (by (is_up (mode_in (now (suc c)) q Switch)) refl)) there
      where
        low : q < 7
        low = low_now M L mission (suc c) q there

        started : (b : Bool) → is_up (cond b down (start M L (past (suc c)) q low)) ≡ true →
            is_up (start M L (past (suc c)) q low) ≡ true
        started true h = absurd cc
        started false h = h

        by : (b : Bool) → is_up (mode_in (now (suc c)) q Switch) ≡ b →
            (not b || (has (now (suc c)).damaged q && b)) ≡ true
        by false e = refl
        by true e =
            let up_first : is_up (start M L (past (suc c)) q low) ≡ true =
            started (list_any (is_crash_by q (length (past (suc c))) Switch) M.script)
            (sym (ap is_up (slot_mode M L (past (suc c)) q low Switch refl)) ∙ e) in
            and_true (has (now (suc c)).damaged q) true
            (damaged-is M L (past (suc c)) q low
            ∙ and_true (is_up (start M L (past (suc c)) q low))
            (list_any (is_damage q (length (past (suc c)))) M.script || has (now c).damaged q) up_first
            (or_true (list_any (is_damage q (length (past (suc c)))) M.script) (has (now c).damaged q) marked)) refl

    pub damaged_is_judged : has (now c).damaged q ≡ true → has (now (suc c)).judged q ≡ true
    damaged_is_judged marked = judged_disturbed (still_disturbed marked)

    pub wrong_is_judged : (is_undisturbed (suc c) (now (suc c)) q ≡ false) ⊎ ((now c).joined ≡ []) →
        has (now (suc c)).judged q ≡ true
    wrong_is_judged (inr none) = judged_unjoined none
    wrong_is_judged (inl bad) = by (has D q) refl
      where
        by : (b : Bool) → has D q ≡ b → has (now (suc c)).judged q ≡ true
        by true e = judged_disturbed e
        by false e =
            differ (sym (and_true (has (now (suc c)).active q) (not (has D q)) there (ap not e))
            ∙ ap (λ k. is_undisturbed k (now (suc c)) q) (length-cycles_before M L (suc c)) ∙ bad)
