-- Where fewer than a third are disturbed, the words move towards the words of the lines.
use Rattle.std.proofs.Common.{◌≡◌, ℕ, zero, suc, ◌+◌, ◌*◌, ◌<◌, ◌≤◌, ◌==◌, Bool, true, false, cond, not, ◌&&◌, ◌||◌, List, [], ◌∷◌, length, map, take, Option, Some, None, ℤ, pos, refl, sym, ap, subst, ◌∙◌, arith}
use Rattle.std.specs.Prelude.{find, filter, count_by, nat_le, unwrap_or, option_and_then, if◌then◌else◌, bytes_eq}
use Rattle.std.specs.List.{AllZip, AllByRecursion, list_any, list_all}
use Rattle.std.specs.Ordering.{int_eq}
use Rattle.std.proofs.lemmas.Bool.{eq-eqb, eqb-true, leb-false}
use Rattle.std.proofs.lemmas.Bool.Decides.{Decides-int_eq}
use Rattle.std.proofs.lemmas.Slice.Eq.{bytes_eq-Decides}
use Rattle.std.proofs.lemmas.List.{length-map}
use Rattle.guards_model.specs.declared.Slot.TheVariants.{Output}
use Rattle.guards_model.specs.BusRules.{RuleValue}
use Rattle.guards_model.specs.Channels.{Channel, ChannelSet, has, by_channel, channels_where, every_channel}
use Rattle.guards_model.specs.Contexts.{word_of}
use Rattle.guards_model.specs.Fields.{frame_in}
use Rattle.guards_model.specs.Frames.{FrameValue, in_range, spelling}
use Rattle.guards_model.specs.Network.{EntryValue, Log, is_carry, actuator}
use Rattle.guards_model.specs.Texts.{LineValue, RecordValue}
use Rattle.guards_model.specs.Voting.{Ballots, present}
use Rattle.guards_model.proofs.BoolTests.{both, differ, no_first, not_true, and_true, or_true}
use Rattle.guards_model.proofs.Counting.{one_if, one_if_true, one_if_false, one_if_small, count-cons}
use Rattle.guards_model.proofs.FrameCodec.{only}
use Rattle.guards_model.proofs.Majorities.{majority-is}
use Rattle.guards_model.proofs.Presence.{count_present, present_at_most}
use Rattle.guards_runs.specs.Disturbed.{differs_from}
use Rattle.guards_model.specs.Settled.{SettledValue}
use Rattle.guards_runs.specs.Outputs.{ballot_taken, ballots_taken, is_output_charge}
use Rattle.guards_model.specs.Actuators.{moved, limited, wanted_at, words_moved, words_towards, output_frame, of_count, ballot_counting, ballot_spelled}
use Rattle.output_gate.specs.Gates.{GateValue}
use Rattle.output_gate.specs.Sending.{IsLineDue, AreLinesSent, line_words, disturbed_with, TakenValue, HasTaken}
use Rattle.output_gate.specs.Exchanging.{MayExchange, VoteFor, line_channels, is_third, Moves}
use Rattle.output_gate.proofs.Gathered.{range_same}
use Rattle.output_gate.proofs.BallotsTaken.{IsFrom, carry_is, charge_is}

-- ---- what a line sends

-- the words of a line that has these votes
pub voted_words_are : (words : List ℤ) (votes : List (Option ℤ)) → take (length words) votes ≡ map (λ w. Some w) words →
    take (length words) (map (λ v. unwrap_or v (pos 0)) votes) ≡ words
voted_words_are [] votes h = refl
voted_words_are (w ∷ words) [] h = absurd cc
voted_words_are (w ∷ words) (v ∷ votes) h =
    let head : v ≡ Some w = cc in
    let tail : take (length words) votes ≡ map (λ w. Some w) words = cc in
    ap (λ (o : Option ℤ). unwrap_or o (pos 0) ∷ take (length words) (map (λ v. unwrap_or v (pos 0)) votes)) head
    ∙ ap (λ ws. w ∷ ws) (voted_words_are words votes tail)

-- a frame that arrives as sent counts
spelled_counts : (version c : ℕ) (q : Channel) (words : List ℤ) → in_range (output_frame version c q words) ≡ true →
    ballot_spelled version (length words) c q (Some (spelling (output_frame version c q words))) ≡ Some words
spelled_counts version c q words range =
    let f : FrameValue = output_frame version c q words in
    ap (option_and_then (ballot_counting version (length words) c q)) (only (spelling f) f (range, refl))
    ∙ ap (λ b. if b && (q == q && c == c) then of_count (length words) words else None) (eq-eqb version version refl)
    ∙ ap (λ b. if true && (b && c == c) then of_count (length words) words else None) (eq-eqb q q refl)
    ∙ ap (λ b. if true && (true && b) then of_count (length words) words else None) (eq-eqb c c refl)
    ∙ ap (λ b. if b then Some words else None) (eq-eqb (length words) (length words) refl)

-- what does not differ is what was sent
as_sent : (sent : List ℕ) (piece : Option (List ℕ)) → differs_from sent piece ≡ false → piece ≡ Some sent
as_sent sent None h = absurd cc
as_sent sent (Some bytes) h =
    ap (λ b. Some b) (sym ((bytes_eq-Decides sent bytes).0 (not_false (bytes_eq sent bytes) h)))
  where
    not_false : (b : Bool) → not b ≡ false → b ≡ true
    not_false true h = refl
    not_false false h = absurd cc

from_line : (version outputs c : ℕ) (l : LineValue) (y : EntryValue) → IsLineDue version outputs c l y →
    IsFrom c l.channel y
from_line version outputs c l y due = record { cycle = due.cycle; slot = due.slot; from = due.from; to = due.to }

module _ (version c : ℕ) (words : List ℤ) where
  abbrev IsDue : LineValue → EntryValue → Type 0
  IsDue l y = IsLineDue version (length words) c l y

  abbrev IsSpelled : LineValue → Type 0
  IsSpelled l = in_range (output_frame version c l.channel (line_words (length words) l)) ≡ true

  abbrev found : Channel → Log → Option EntryValue
  found q now = find (is_carry c Output q actuator) now

  abbrev of_found : Channel → Option EntryValue → Option (List ℤ)
  of_found q o = ballot_spelled version (length words) c q (option_and_then (λ (e : EntryValue). e.delivered) o)

  one_counts : (l : LineValue) (y : EntryValue) (q : Channel) → l.channel ≡ q → IsDue l y → IsSpelled l →
      take (length words) l.votes ≡ map (λ w. Some w) words → differs_from y.sent y.delivered ≡ false →
      of_found q (Some y) ≡ Some words
  one_counts l y q at due spelled votes same =
      let these : line_words (length words) l ≡ words = voted_words_are words l.votes votes in
      let range : in_range (output_frame version c q words) ≡ true =
      ap (λ p. in_range (output_frame version c p words)) (sym at)
      ∙ ap (λ ws. in_range (output_frame version c l.channel ws)) (sym these) ∙ spelled in
      let sent : y.sent ≡ spelling (output_frame version c q words) =
      due.sent ∙ ap (λ ws. spelling (output_frame version c l.channel ws)) these
      ∙ ap (λ p. spelling (output_frame version c p words)) at in
      ap (ballot_spelled version (length words) c q) (as_sent y.sent y.delivered same ∙ ap (λ b. Some b) sent)
      ∙ spelled_counts version c q words range

  -- a channel that has a line and is not charged is taken at its word
  taken_good : (lines : List LineValue) (now : Log) → AllZip IsDue lines now → AllByRecursion IsSpelled lines →
      VoteFor words lines → (q : Channel) →
      has (line_channels lines) q ≡ true → list_any (is_output_charge c q) now ≡ false →
      of_found q (found q now) ≡ Some words
  taken_good [] now due spelled votes q there fine = absurd cc
  taken_good (l ∷ lines) [] due spelled votes q there fine = absurd due
  taken_good (l ∷ lines) (y ∷ now) due spelled votes q there fine =
      let is = from_line version (length words) c l y due.0 in
      let parts = no_first (is_output_charge c q y) (list_any (is_output_charge c q) now) fine in
      ap (λ b. of_found q (cond b (Some y) (found q now))) (carry_is c l.channel q y is)
      ∙ by (l.channel == q) refl (sym (charge_is c l.channel q y is) ∙ parts.0) there
      (λ h. taken_good lines now due.1 spelled.1 votes.1 q h parts.1)
    where
      by : (b : Bool) → (l.channel == q) ≡ b → ((l.channel == q) && differs_from y.sent y.delivered) ≡ false →
          ((l.channel == q) || has (line_channels lines) q) ≡ true →
          (has (line_channels lines) q ≡ true → of_found q (found q now) ≡ Some words) →
          of_found q (cond b (Some y) (found q now)) ≡ Some words
      by true e charge there more =
          one_counts l y q (eqb-true l.channel q e) due.0 spelled.0 votes.0
          (sym (ap (λ b. b && differs_from y.sent y.delivered) e) ∙ charge)
      by false e charge there more = more (sym (ap (λ b. b || has (line_channels lines) q) e) ∙ there)

  -- of a channel without a line nothing is taken
  taken_none : (lines : List LineValue) (now : Log) → AllZip IsDue lines now → (q : Channel) →
      has (line_channels lines) q ≡ false → of_found q (found q now) ≡ None
  taken_none [] [] due q none = refl
  taken_none [] (y ∷ now) due q none = absurd due
  taken_none (l ∷ lines) [] due q none = absurd due
  taken_none (l ∷ lines) (y ∷ now) due q none =
      let is = from_line version (length words) c l y due.0 in
      let parts = no_first (l.channel == q) (has (line_channels lines) q) none in
      ap (λ b. of_found q (cond b (Some y) (found q now))) (carry_is c l.channel q y is ∙ parts.0)
      ∙ taken_none lines now due.1 q parts.1

-- ---- counting

member_all : (p : ℕ → Bool) (xs : List ℕ) (q : ℕ) → list_all p xs ≡ true → p q ≡ false → has xs q ≡ false
member_all p [] q h fails = refl
member_all p (x ∷ xs) q h fails =
    let parts = both (p x) (list_all p xs) h in
    by (x == q) refl parts.0 (member_all p xs q parts.1 fails)
  where
    by : (b : Bool) → (x == q) ≡ b → p x ≡ true → has xs q ≡ false → (b || has xs q) ≡ false
    by true e holds rest = differ (sym holds ∙ ap p (eqb-true x q e) ∙ fails)
    by false e holds rest = rest

length_filter : (p : ℕ → Bool) (xs : List ℕ) → length (filter p xs) ≡ count_by p xs
length_filter p [] = refl
length_filter p (x ∷ xs) = by (p x) refl (length_filter p xs)
  where
    by : (b : Bool) → p x ≡ b → length (filter p xs) ≡ count_by p xs →
        length (cond (p x) (x ∷ filter p xs) (filter p xs)) ≡ count_by p (x ∷ xs)
    by true e rest = ap (λ b. length (cond b (x ∷ filter p xs) (filter p xs))) e
        ∙ omega (arith, rest, count-cons p x xs, one_if_true (p x) e)
    by false e rest = ap (λ b. length (cond b (x ∷ filter p xs) (filter p xs))) e
        ∙ omega (arith, rest, count-cons p x xs, one_if_false (p x) e)

-- those of a set are those that pass no test, and those that pass it, at most
split_counts : (a t : ℕ → Bool) (xs : List ℕ) → count_by a xs ≤ count_by (λ q. a q && not (t q)) xs + count_by t xs
split_counts a t [] = omega arith
split_counts a t (x ∷ xs) =
    omega (
      arith,
      split_counts a t xs,
      count-cons a x xs,
      count-cons (λ q. a q && not (t q)) x xs,
      count-cons t x xs,
      one (a x) (t x),
    )
  where
    one : (a t : Bool) → one_if a ≤ one_if (a && not t) + one_if t
    one true true = omega (arith, one_if_true true refl)
    one true false = omega arith
    one false t = omega (arith, one_if_false false refl)

module _ (B : Channel → Option (List ℤ)) (active bad : Channel → Bool) (words : List ℤ)
    (good : (q : Channel) → active q ≡ true → bad q ≡ false → B q ≡ Some words)
    (none : (q : Channel) → active q ≡ false → B q ≡ None)
    (few : 3 * count_by bad every_channel < count_by active every_channel) where
  most_hold : (k : ℕ) → wanted_at (by_channel B) k ≡ Some (word_of words k)
  unfolding by_channel
  most_hold k =
      let g : List ℤ → ℤ = λ ws. word_of ws k in
      let fine : ℕ → Bool = λ q. active q && not (bad q) in
      let votes : List ℤ = map g (present (map B every_channel)) in
      let held : count_by fine every_channel ≤ count_by (int_eq (word_of words k)) votes =
      count_present g (int_eq (word_of words k)) (λ j. words) B fine every_channel
      (λ j there h. let parts = both (active j) (not (bad j)) h in good j parts.0 (not_true (bad j) parts.1))
      (λ j there h. (Decides-int_eq (word_of words k) (word_of words k)).1 refl) in
      let cast : count_by (λ (x : ℤ). true) votes ≤ count_by active every_channel =
      present_at_most g (λ x. true) B active every_channel
      (λ j w there is passes. only_active j (active j) refl w is) in
      let size : count_by (λ (x : ℤ). true) votes ≡ length votes = all_counted votes in
      majority-is int_eq Decides-int_eq (word_of words k) votes
      (omega (arith, held, cast, size, few, split_counts active bad every_channel))
    where
      only_active : (j : ℕ) (b : Bool) → active j ≡ b → (w : List ℤ) → B j ≡ Some w → active j ≡ true
      only_active j true e w is = e
      only_active j false e w is = let h : ◌≡◌ {A = Option (List ℤ)} None (Some w) = sym (none j e) ∙ is in absurd cc

      all_counted : (xs : List ℤ) → count_by (λ x. true) xs ≡ length xs
      all_counted [] = refl
      all_counted (x ∷ xs) = omega (arith, count-cons (λ y. true) x xs, all_counted xs, one_if_true true refl)

-- ---- the move

module _ (may : List RuleValue → EntryValue → Type 0) (script : List RuleValue) (old new : Log) (version outputs : ℕ)
    (part : RecordValue) (settled : SettledValue) (now : Log)
    (allowed : MayExchange version outputs part settled) (members : part.active ≡ channels_where (has part.active))
    (sent : AreLinesSent may script old new version outputs part.cycle part.lines now)
    (few : is_third part.active (disturbed_with settled.disturbed part.cycle now) ≡ false)
    (words : List ℤ) (count : length words ≡ outputs) (votes : VoteFor words part.lines) where
  abbrev bad : Channel → Bool
  bad q = has settled.disturbed q || list_any (is_output_charge part.cycle q) now

  abbrev took : Channel → Option (List ℤ)
  took q = ballot_taken version (length words) now part.cycle q

  sent_so : AreLinesSent may script old new version (length words) part.cycle part.lines now
  sent_so = subst (λ o. AreLinesSent may script old new version o part.cycle part.lines now) (sym count) sent

  good_take : (q : Channel) → has part.active q ≡ true → bad q ≡ false → took q ≡ Some words
  good_take q there fine =
      let parts = no_first (has settled.disturbed q) (list_any (is_output_charge part.cycle q) now) fine in
      taken_good version part.cycle words part.lines now sent_so.due sent_so.spelled votes q
      (allowed.there q there parts.0) parts.1

  none_take : (q : Channel) → has part.active q ≡ false → took q ≡ None
  none_take q passive = taken_none version part.cycle words part.lines now sent_so.due q
      (member_all (has part.active) (line_channels part.lines) q allowed.are_active passive)

  few_bad : 3 * count_by bad every_channel < count_by (has part.active) every_channel
  unfolding channels_where
  few_bad =
      let a : length part.active ≡ count_by (has part.active) every_channel =
      ap (λ (s : ChannelSet). length s) members ∙ length_filter (has part.active) every_channel in
      let b : length (disturbed_with settled.disturbed part.cycle now) ≡ count_by bad every_channel =
      length_filter bad every_channel in
      let fewer = below (length part.active) (3 * length (disturbed_with settled.disturbed part.cycle now)) few in
      omega (arith, a, b, fewer)
    where
      below : (m n : ℕ) → nat_le m n ≡ false → n < m
      below m n h = leb-false m n h

  hold : (k : ℕ) → wanted_at (by_channel took) k ≡ Some (word_of words k)
  hold k = most_hold took (has part.active) bad words good_take none_take few_bad k

  pub settles : (steps last : List ℤ) →
      words_moved steps last (ballots_taken version outputs now part.cycle) ≡ words_towards steps last words
  settles steps last =
      range_same (λ k. moved (word_of steps k) (word_of last k)
      (wanted_at (ballots_taken version outputs now part.cycle) k))
      (λ k. limited (word_of last k) (word_of words k) (word_of steps k)) 0 (length last)
      (λ k low. ap (moved (word_of steps k) (word_of last k))
      (ap (λ o. wanted_at (ballots_taken version o now part.cycle) k) (sym count) ∙ hold k))

-- ---- the exchange

pub exchange_moves : (may : List RuleValue → EntryValue → Type 0) (script : List RuleValue) (old new : Log)
    (version : ℕ) (part : RecordValue) (settled : SettledValue) (gate after : GateValue)
    (o c : ℕ) (d : ChannelSet) (lines : List LineValue) (active : ChannelSet) (taken : TakenValue) →
    o ≡ length gate.words → c ≡ part.cycle → d ≡ settled.disturbed → lines ≡ part.lines → active ≡ part.active →
    MayExchange version (length gate.words) part settled → active ≡ channels_where (has active) →
    HasTaken may script old new version o c d lines taken → is_third active taken.disturbed ≡ false →
    after ≡ record gate { words = words_moved gate.steps gate.words taken.frames } →
    Moves may script version part settled old new gate after
exchange_moves may script old new version part settled gate after o c d lines active taken same_o same_c same_d
    same_lines same_active allowed members took few moves =
    let had : HasTaken may script old new version (length gate.words) part.cycle settled.disturbed part.lines taken =
    subst (λ o. HasTaken may script old new version o part.cycle settled.disturbed part.lines taken) same_o
    (subst (λ c. HasTaken may script old new version o c settled.disturbed part.lines taken) same_c
    (subst (λ (d : ChannelSet). HasTaken may script old new version o c d part.lines taken) same_d
    (subst (λ (ls : List LineValue). HasTaken may script old new version o c d ls taken) same_lines took))) in
    let set : part.active ≡ channels_where (has part.active) =
    subst (λ (s : ChannelSet). s ≡ channels_where (has s)) same_active members in
    let fewer : is_third part.active (disturbed_with settled.disturbed part.cycle had.now) ≡ false =
    sym (ap (λ (s : ChannelSet). is_third s taken.disturbed) same_active
    ∙ ap (λ (t : TakenValue). is_third part.active t.disturbed) had.taken_is) ∙ few in
    let moved_by : after ≡ record gate {
      words =
          words_moved gate.steps gate.words (ballots_taken version (length gate.words) had.now part.cycle);
    } =
    moves ∙ ap (λ (t : TakenValue). record gate { words = words_moved gate.steps gate.words t.frames }) had.taken_is in
    record {
      now = had.now;
      sent = had.sent;
      few = fewer;
      moved = moved_by;
      towards = λ words count votes. moved_by
          ∙ ap (λ ws. record gate { words = ws })
          (settles may script old new version (length gate.words) part settled had.now allowed set had.sent fewer words
          count votes gate.steps gate.words);
    }
