-- The line of a channel, and that of its steps.
use Rattle.std.proofs.Common.{◌≡◌, ℕ, zero, suc, ◌<◌, ◌≤◌, ◌==◌, Bool, true, false, cond, not, ◌&&◌, ◌||◌, ℤ, List, [], ◌∷◌, ◌++◌, length, map, Option, None, Some, refl, sym, ap, subst, ◌∙◌, arith}
use Rattle.std.specs.Prelude.{is_some, slice_index, take, slice_get, option_map, unwrap_or}
use Rattle.std.specs.Option.{option_eq}
use Rattle.std.specs.Ordering.{int_eq}
use Rattle.std.specs.List.{list_all, list_any}
use Rattle.std.specs.Cmp.Lexicographic.{pointwise}
use Rattle.std.proofs.lemmas.Bool.{eqb-true}
use Rattle.std.proofs.lemmas.Bool.Decides.{Decides-int_eq}
use Rattle.std.proofs.lemmas.List.{length-map, length-take}
use Rattle.std.proofs.lemmas.List.Folds.{list_any-append}
use Rattle.guards_model.specs.Channels.{ChannelSet, has, place_or, by_channel, union, channels_where, every_channel}
use Rattle.guards_model.specs.Contexts.{ContextValue}
use Rattle.guards_model.specs.Diagnosis.{counts_of, counts_carried}
use Rattle.guards_model.specs.Missions.{MissionValue, cycle_writes, output_words}
use Rattle.guards_model.specs.Tasks.{whole}
use Rattle.guards_model.specs.Texts.{LineValue, RecordValue, TraceValue}
use Rattle.guards_model.proofs.AscendingLists.{every_is_set, member-channel}
use Rattle.guards_model.proofs.BoolTests.{both}
use Rattle.guards_model.proofs.Tables.{at-by_channel, every_has, has-filter}
use Rattle.guards_audit.specs.Lines.{is_empty}
use Rattle.guards_audit.specs.Told.{Told, next_cycle_number, blank_line, first_line, active_told, counts_told, context_told, with_line, with_steps}
use Rattle.guards_audit.specs.Tests.{same_vote, same_votes, says_same, first_fits, says_fit, counts_fit, votes_fit}
use Rattle.guards_audit.specs.Consistency as place
use Rattle.told_cycles.specs.declared.auditor.Auditor.{Auditor}
use Rattle.told_cycles.specs.declared.auditor.Place.TheVariants as at
use Rattle.told_cycles.specs.Standing.{HasSizes, IsAmid, StandsAt, context_amid, counts_last, joined_told, shown_in}
use Rattle.told_cycles.proofs.StandLemmas.{differ, no_some, the_same}

-- ---- sets that grow by a channel

has_union : (a : ChannelSet) (c q : ℕ) →
    has (union a (c ∷ [])) q ≡ ((has a q || (c == q || false)) && has every_channel q)
unfolding channels_where
has_union a c q = has-filter (λ k. has a k || has (c ∷ []) k) every_channel q

implied : (x e : Bool) → (x ≡ true → e ≡ true) → (x && e) ≡ x
implied true e h = h refl
implied false e h = refl

or_cases : (a b : Bool) → (a || b) ≡ true → (a ≡ false → b ≡ true)
or_cases true b h k = differ k
or_cases false b h k = h

pub more_low : (a : ChannelSet) (c q : ℕ) → has (union a (c ∷ [])) q ≡ true → q < 7
more_low a c q h = member-channel every_channel q every_is_set
    (both (has a q || (c == q || false)) (has every_channel q) (sym (has_union a c q) ∙ h)).1

module _ {A : Type 0} (chan : A → ℕ) (set : ChannelSet) (xs : List A) (x : A)
    (same : (q : ℕ) → has set q ≡ list_any (λ l. chan l == q) xs) (low : (q : ℕ) → has set q ≡ true → q < 7)
    (under : chan x < 7) where
  there_low : (q : ℕ) (s : Bool) → has set q ≡ s → (s || (chan x == q || false)) ≡ true → q < 7
  there_low q true e h = low q e
  there_low q false e h = by_same (chan x == q) refl h
    where
      by_same : (t : Bool) → (chan x == q) ≡ t → (t || false) ≡ true → q < 7
      by_same true k j = omega (arith, eqb-true (chan x) q k, under)
      by_same false k j = differ (sym j)

  pub noted_more : (q : ℕ) → has (union set (chan x ∷ [])) q ≡ list_any (λ l. chan l == q) (xs ++ x ∷ [])
  noted_more q =
      has_union set (chan x) q
      ∙ implied (has set q || (chan x == q || false)) (has every_channel q)
      (λ h. every_has q (there_low q (has set q) refl h))
      ∙ ap (λ b. b || (chan x == q || false)) (same q)
      ∙ sym (list_any-append (λ l. chan l == q) xs (x ∷ []))

-- ---- the first line of a cycle

more_lines : {A : Type 0} (xs : List A) (x : A) → is_empty (xs ++ x ∷ []) ≡ false
more_lines [] x = refl
more_lines (y ∷ xs) x = refl

pub first_more : (M : MissionValue) (o : Option LineValue) (lines : List LineValue) (line : LineValue) →
    option_map (shown_in M) o ≡ slice_get lines 0 →
    option_map (shown_in M) (Some (unwrap_or o line)) ≡ slice_get (lines ++ shown_in M line ∷ []) 0
first_more M None [] line h = refl
first_more M None (x ∷ lines) line h = no_some x h
first_more M (Some f) [] line h = no_some (shown_in M f) (sym h)
first_more M (Some f) (x ∷ lines) line h = h

-- a first line that is kept stays, and else this one is
pub kept_first : (o : Option LineValue) (l : LineValue) → is_some o ≡ true → o ≡ Some (unwrap_or o l)
kept_first None l h = differ (sym h)
kept_first (Some f) l h = refl

pub new_first : (o : Option LineValue) (l : LineValue) → is_some o ≡ false → Some l ≡ Some (unwrap_or o l)
new_first None l h = refl
new_first (Some f) l h = differ h

-- no line was told before the first one
pub none_before : (M : MissionValue) (r : RecordValue) (o : Option LineValue) →
    option_map (shown_in M) o ≡ slice_get r.lines 0 → o ≡ None → r.lines ≡ []
none_before M r o h e = by_lines r.lines (sym (ap (option_map (shown_in M)) e) ∙ h)
  where
    by_lines : (lines : List LineValue) → None ≡ slice_get lines 0 → lines ≡ []
    by_lines [] k = refl
    by_lines (x ∷ lines) k = no_some x k

module _ (M : MissionValue) (told : Told) (r : RecordValue) (l : LineValue) where
  context_by : List LineValue → ContextValue
  context_by lines =
      cond (is_empty lines) (context_told M told)
      (whole (cycle_writes M (next_cycle_number told)) (context_told M told) (next_cycle_number told)
      (unwrap_or (slice_get lines 0) blank_line).inputs)

  pub amid_first : r.lines ≡ [] →
      context_amid M told (with_line r l)
      ≡ whole (cycle_writes M (next_cycle_number told)) (context_told M told) (next_cycle_number told) l.inputs
  unfolding context_by
  amid_first e = ap (λ ls. context_by (ls ++ l ∷ [])) e

  pub amid_none : r.lines ≡ [] → context_amid M told r ≡ context_told M told
  unfolding context_by
  amid_none e = ap context_by e

  later_by : (lines : List LineValue) → is_empty lines ≡ false → context_by (lines ++ l ∷ []) ≡ context_by lines
  unfolding context_by
  later_by [] h = differ h
  later_by (x ∷ lines) h = refl

  pub amid_later : is_empty r.lines ≡ false → context_amid M told (with_line r l) ≡ context_amid M told r
  unfolding context_by
  amid_later h = later_by r.lines h

  pub says_first : r.lines ≡ [] → says_fit M told r l ≡ first_fits M told r l
  says_first e = ap (λ (ls : List LineValue).
      cond (is_empty ls) (first_fits M told r l) (says_same l (unwrap_or (slice_get ls 0) blank_line))) e

  -- a later line is held to the first
  says_by : (f : LineValue) (lines : List LineValue) → Some (shown_in M f) ≡ slice_get lines 0 →
      (is_empty lines ≡ false) × (cond (is_empty lines) (first_fits M told r l)
      (says_same l (unwrap_or (slice_get lines 0) blank_line)) ≡ says_same l (shown_in M f))
  says_by f [] h = no_some (shown_in M f) (sym h)
  says_by f (x ∷ lines) h = (refl, ap (says_same l) (sym (the_same (shown_in M f) x h)))

  pub says_later : (o : Option LineValue) (f : LineValue) → option_map (shown_in M) o ≡ slice_get r.lines 0 →
      o ≡ Some f →
      (is_empty r.lines ≡ false) × (says_fit M told r l ≡ says_same l (shown_in M f))
  says_later o f h e = says_by f r.lines (sym (ap (option_map (shown_in M)) e) ∙ h)

-- ---- what the first line has to say

same_length : {A : Type 0} (same : A → A → Bool) (xs ys : List A) → pointwise same xs ys ≡ true → length xs ≡ length ys
same_length same [] [] h = refl
same_length same [] (y ∷ ys) h = differ (sym h)
same_length same (x ∷ xs) [] h = differ (sym h)
same_length same (x ∷ xs) (y ∷ ys) h = ap suc (same_length same xs ys (both (same x y) (pointwise same xs ys) h).1)

vote_is : (a b : Option ℤ) → same_vote a b ≡ true → a ≡ b
vote_is None None h = refl
vote_is None (Some b) h = differ (sym h)
vote_is (Some a) None h = differ (sym h)
vote_is (Some a) (Some b) h = ap (λ x. Some x) ((Decides-int_eq a b).0 h)

vote_alike : (a b : Option ℤ) → option_eq int_eq a b ≡ same_vote a b
vote_alike None None = refl
vote_alike None (Some b) = refl
vote_alike (Some a) None = refl
vote_alike (Some a) (Some b) = refl

-- votes are compared as any options are
pub votes_alike : (votes others : List (Option ℤ)) → pointwise (option_eq int_eq) votes others ≡ same_votes votes others
votes_alike [] [] = refl
votes_alike [] (y ∷ others) = refl
votes_alike (x ∷ votes) [] = refl
votes_alike (x ∷ votes) (y ∷ others) =
    (let first = vote_alike x y in let rest = votes_alike votes others in λ i. first i && rest i)

pub votes_are : (votes others : List (Option ℤ)) → same_votes votes others ≡ true → votes ≡ others
votes_are [] [] h = refl
votes_are [] (y ∷ others) h = differ (sym h)
votes_are (x ∷ votes) [] h = differ (sym h)
votes_are (x ∷ votes) (y ∷ others) h =
    let parts = both (same_vote x y) (same_votes votes others) h in
    let first = vote_is x y parts.0 in
    let rest = votes_are votes others parts.1 in
    λ i. first i ∷ rest i

seven_counts : (M : MissionValue) (active judged : ChannelSet) (base : List ℕ) →
    length (counts_of M.rules.law M.rules.keep M.rules.decrement active judged base) ≡ 7
unfolding by_channel
seven_counts M active judged base = refl

pub first_facts : (M : MissionValue) (told : Told) (r : RecordValue) (l : LineValue) → M.rules.channels ≤ 7 →
    first_fits M told r l ≡ true →
    HasSizes M l × (l.votes ≡ map (λ w. Some w)
    (output_words M (whole (cycle_writes M (next_cycle_number told)) (context_told M told) (next_cycle_number told)
    l.inputs)))
first_facts M told r l few h =
    let a = both (length l.inputs == M.width && list_all (has r.active) l.judged)
    (counts_fit M told r l && votes_fit M told l) h in
    let b = both (counts_fit M told r l) (votes_fit M told l) a.1 in
    let counts : List ℕ = counts_of M.rules.law M.rules.keep M.rules.decrement r.active l.judged (counts_told M told) in
    let words : List ℤ = output_words M
    (whole (cycle_writes M (next_cycle_number told)) (context_told M told) (next_cycle_number told) l.inputs) in
    let votes : l.votes ≡ map (λ w. Some w) words = votes_are l.votes (map (λ w. Some w) words) b.1 in (
      record {
        inputs = eqb-true (length l.inputs) M.width
            (both (length l.inputs == M.width) (list_all (has r.active) l.judged) a.0).0;
        votes = ap length votes ∙ length-map words (λ w. Some w) ∙ length-map M.outputs _;
        counts = same_length (λ x y. x == y) l.counts (take M.rules.channels counts) b.0
            ∙ omega (
              arith,
              length-take M.rules.channels counts,
              seven_counts M r.active l.judged (counts_told M told),
              few,
            );
      },
      votes,
    )

-- the counts that a judgement starts from
carried_at : (active joined : ChannelSet) (counts : List ℕ) (q : ℕ) (fresh : Bool) → q < 7 → has active q ≡ true →
    has joined q ≡ fresh →
    cond fresh 0 (place_or counts q 0) ≡ place_or (counts_carried active joined counts) q 0
carried_at active joined counts q fresh low there e =
    by_fresh fresh ∙ ap (λ b. cond (true && not b) (place_or counts q 0) 0) (sym e)
    ∙ ap (λ a. cond (a && not (has joined q)) (place_or counts q 0) 0) (sym there)
    ∙ sym (at-by_channel (λ q. cond (has active q && not (has joined q)) (place_or counts q 0) 0) q 0 low)
  where
    by_fresh : (b : Bool) → cond b 0 (place_or counts q 0) ≡ cond (true && not b) (place_or counts q 0) 0
    by_fresh true = refl
    by_fresh false = refl

no_count : (fresh : Bool) (q : ℕ) → ◌≡◌ {A = ℕ} (cond fresh 0 (place_or {A = ℕ} [] q 0)) 0
no_count true q = refl
no_count false zero = refl
no_count false (suc q) = refl

pub base_at : (M : MissionValue) (told : Told) (counts : List ℕ) (joined : ChannelSet) →
    ((q : ℕ) → q < 7 → slice_index counts q ≡ place_or (counts_last told) q 0) → joined ≡ joined_told told →
    (q : ℕ) → q < 7 → has (active_told M told) q ≡ true →
    cond (has joined q) 0 (slice_index counts q) ≡ place_or (counts_told M told) q 0
base_at M [] counts joined same e q low there =
    ap (λ n. cond (has joined q) 0 n) (same q low) ∙ no_count (has joined q) q ∙ sym (at-by_channel (λ k. 0) q 0 low)
base_at M (r ∷ told) counts joined same e q low there =
    ap (λ n. cond (has joined q) 0 n) (same q low) ∙ ap (λ j. cond (has j q) 0 (place_or (first_line r).counts q 0)) e
    ∙ carried_at (active_told M (r ∷ told)) r.joined (first_line r).counts q (has r.joined q) low there refl

-- ---- where the auditor stands after the line of a channel

module _ (M : MissionValue) (told : Told) (r : RecordValue) (old : Auditor) (line : LineValue) (h : IsAmid M told r old)
    (few : M.rules.channels ≤ 7) (fits : says_fit M told r (shown_in M line) ≡ true) where
  sized_by : (lines : List LineValue) → r.lines ≡ lines → (l : LineValue) →
      slice_get (lines ++ shown_in M line ∷ []) 0 ≡ Some l → HasSizes M l
  sized_by [] e l is =
      subst (HasSizes M) (the_same (shown_in M line) l is)
      (first_facts M told r (shown_in M line) few (sym (says_first M told r (shown_in M line) e) ∙ fits)).0
  sized_by (x ∷ lines) e l is = h.part.sized l (ap (λ (ls : List LineValue). slice_get ls 0) e ∙ is)

  voted_by : (lines : List LineValue) → r.lines ≡ lines →
      (unwrap_or (slice_get (lines ++ shown_in M line ∷ []) 0) blank_line).votes
      ≡ map (λ w. Some w) (output_words M (context_amid M told (with_line r (shown_in M line))))
  voted_by [] e =
      (first_facts M told r (shown_in M line) few (sym (says_first M told r (shown_in M line) e) ∙ fits)).1
      ∙ ap (λ c. map (λ w. Some w) (output_words M c)) (sym (amid_first M told r (shown_in M line) e))
  voted_by (x ∷ lines) e =
      let some : is_empty r.lines ≡ false = ap is_empty e in
      ap (λ (ls : List LineValue). (unwrap_or (slice_get ls 0) blank_line).votes) (sym e) ∙ h.part.voted some
      ∙ ap (λ c. map (λ w. Some w) (output_words M c)) (sym (amid_later M told r (shown_in M line) some))

  pub channel_stands : (context : ContextValue) → old.place ≡ at.Amid →
      context ≡ context_amid M told (with_line r (shown_in M line)) → line.channel < 7 →
      StandsAt M (place.amid told (with_line r (shown_in M line)))
      (record old {
        context = context;
        part = record old.part {
          lined = union old.part.lined (line.channel ∷ []);
          first = Some (unwrap_or old.part.first line);
        };
      })
  channel_stands context here is under = (
    here,
    record {
      knows = record {
        done = h.knows.done;
        active = h.knows.active;
        joined = h.knows.joined;
        transfer = h.knows.transfer;
        started = h.knows.started;
        context = is;
        counts = h.knows.counts;
        words = h.knows.words;
      };
      part = record {
        early = h.part.early;
        active = h.part.active;
        transfer = h.part.transfer;
        started = h.part.started;
        plan = h.part.plan;
        first = first_more M old.part.first r.lines line h.part.first;
        sized = λ l k. sized_by r.lines refl l k;
        voted = λ some. voted_by r.lines refl;
        lined = noted_more (λ (l : LineValue). l.channel) old.part.lined r.lines (shown_in M line) h.part.lined
            h.part.lined_low under;
        lined_low = λ q there. more_low old.part.lined line.channel q there;
        traced = h.part.traced;
        traced_low = h.part.traced_low;
      };
      sweeps = h.sweeps;
    },
  )

-- ---- and after that of its steps

pub steps_stand : (M : MissionValue) (told : Told) (r : RecordValue) (old : Auditor) (t : TraceValue) →
    IsAmid M told r old → old.place ≡ at.Amid → t.channel < 7 →
    StandsAt M (place.amid told (with_steps r t))
    (record old { part = record old.part { traced = union old.part.traced (t.channel ∷ []) } })
steps_stand M told r old t h here under = (
  here,
  record {
    knows = record {
      done = h.knows.done;
      active = h.knows.active;
      joined = h.knows.joined;
      transfer = h.knows.transfer;
      started = h.knows.started;
      context = h.knows.context;
      counts = h.knows.counts;
      words = h.knows.words;
    };
    part = record {
      early = h.part.early;
      active = h.part.active;
      transfer = h.part.transfer;
      started = h.part.started;
      plan = h.part.plan;
      first = h.part.first;
      sized = h.part.sized;
      voted = h.part.voted;
      lined = h.part.lined;
      lined_low = h.part.lined_low;
      traced = noted_more (λ (x : TraceValue). x.channel) old.part.traced r.traces t h.part.traced h.part.traced_low
          under;
      traced_low = λ q there. more_low old.part.traced t.channel q there;
    };
    sweeps = h.sweeps;
  },
)
