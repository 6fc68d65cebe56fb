-- A sound cycle's record may be exchanged.
use Rattle.std.proofs.Common.{◌≡◌, ◌==◌, ℕ, Bool, true, false, cond, not, ◌&&◌, ◌||◌, List, [], ◌∷◌, length, map, take, Option, Some, ℤ, refl, sym, ap, subst, ◌∙◌}
use Rattle.std.specs.Prelude.{filter}
use Rattle.std.specs.List.{list_all, list_any, AllByRecursion}
use Rattle.std.proofs.lemmas.List.{length-map}
use Rattle.guards_model.specs.declared.Slot.TheVariants.{Switch}
use Rattle.guards_model.specs.Channels.{Channel, ChannelSet, has, place_or}
use Rattle.guards_model.specs.Contexts.{context_word}
use Rattle.guards_model.specs.Frames.{between, is_set, is_channel, ascends}
use Rattle.guards_model.specs.Missions.{MissionValue, IsMission, RulesValue, is_rules, is_law, within, output_words}
use Rattle.guards_model.specs.Modes.{is_up}
use Rattle.guards_model.specs.Records.{shown, shown_line}
use Rattle.guards_model.specs.Rounds.{Steps}
use Rattle.guards_model.specs.Texts.{LineValue, RecordValue}
use Rattle.guards_model.proofs.AscendingLists.{ascends-filter, set_parts}
use Rattle.guards_model.proofs.BoolTests.{both, no_first, not_false, and_true, or_true}
use Rattle.guards_model.proofs.Counting.{has-head}
use Rattle.guards_model.proofs.Tables.{has-filter}
use Rattle.guards_runs.specs.Cycles.{Cycle, Past, mode_in, is_damaged}
use Rattle.guards_runs.specs.Disturbed.{disturbed_channels, is_charge, settled_of}
use Rattle.guards_runs.specs.Promises.{Agrees}
use Rattle.guards_runs.specs.Report.{cycle_record, line_of, channels_running_in}
use Rattle.output_gate.specs.Exchanging.{MayExchange, VoteFor, line_channels}

module _ (M : MissionValue) (steps : Steps) (past : Past) (e : Cycle) (part : RecordValue) (mission : IsMission M)
    (set : is_set e.active ≡ true) (agrees : Agrees M past e)
    (same : shown M.rules.channels M.width (length M.outputs) part ≡ cycle_record M steps (length past) e) where
  abbrev words : List ℤ
  words = output_words M e.ideal_context

  abbrev pub Shown : LineValue → LineValue
  Shown = shown_line M.rules.channels M.width (length M.outputs)

  pub lines_are : map Shown part.lines ≡ map (line_of M e) (channels_running_in Switch e)
  lines_are = ap (λ (r : RecordValue). r.lines) same

  -- the channels of the lines
  channels_shown : (lines : List LineValue) → line_channels (map Shown lines) ≡ line_channels lines
  channels_shown [] = refl
  channels_shown (l ∷ lines) = ap (λ qs. l.channel ∷ qs) (channels_shown lines)

  channels_told : (qs : List Channel) → line_channels (map (line_of M e) qs) ≡ qs
  channels_told [] = refl
  channels_told (q ∷ qs) = ap (λ ps. q ∷ ps) (channels_told qs)

  pub channels_are : line_channels part.lines ≡ channels_running_in Switch e
  channels_are = sym (channels_shown part.lines) ∙ ap line_channels lines_are
      ∙ channels_told (channels_running_in Switch e)

  pub filtered : (p : ℕ → Bool) (all : List ℕ) (xs : List ℕ) → ((q : ℕ) → has xs q ≡ true → has all q ≡ true) →
      list_all (has all) (filter p xs) ≡ true
  filtered p all [] within = refl
  filtered p all (x ∷ xs) within =
      by (p x) (filtered p all xs (λ q there. within q (or_true (x == q) (has xs q) there))) (within x (has-head x xs))
    where
      by : (b : Bool) → list_all (has all) (filter p xs) ≡ true → has all x ≡ true →
          list_all (has all) (cond b (x ∷ filter p xs) (filter p xs)) ≡ true
      by true rest here = and_true (has all x) (list_all (has all) (filter p xs)) here rest
      by false rest here = rest

  -- the votes of the lines
  votes_by : (qs : List Channel) (lines : List LineValue) → map Shown lines ≡ map (line_of M e) qs →
      list_all (has e.active) qs ≡ true → VoteFor words lines
  votes_by qs [] h active = tt
  votes_by [] (l ∷ lines) h active = absurd cc
  votes_by (q ∷ qs) (l ∷ lines) h active =
      let parts = both (has e.active q) (list_all (has e.active) qs) active in
      let head : Shown l ≡ line_of M e q = cc in
      let tail : map Shown lines ≡ map (line_of M e) qs = cc in (
        ap (λ n. take n l.votes) (length-map M.outputs (λ o. context_word e.ideal_context o.0 o.1))
            ∙ ap (λ (x : LineValue). x.votes) head ∙ agrees.votes q parts.0,
        votes_by qs lines tail parts.1,
      )

  pub votes_for : VoteFor words part.lines
  votes_for = votes_by (channels_running_in Switch e) part.lines lines_are
      (filtered (λ p. is_up (mode_in e p Switch)) e.active e.active (λ q there. there))

  there_by : (q : Channel) → has e.active q ≡ true → has (disturbed_channels (length past) e Switch) q ≡ false →
      has (channels_running_in Switch e) q ≡ true
  there_by q active fine =
      let test : Channel → Bool =
      λ q. (not (is_up (mode_in e q Switch)) || is_damaged e q Switch)
      || list_any (is_charge (length past) Switch q) e.entries in
      let clear : (test q && has e.active q) ≡ false = sym (has-filter test e.active q) ∙ fine in
      let passes : test q ≡ false = first_of (test q) (has e.active q) clear active in
      let up : not (is_up (mode_in e q Switch)) ≡ false =
      (no_first (not (is_up (mode_in e q Switch))) (is_damaged e q Switch)
      (no_first (not (is_up (mode_in e q Switch)) || is_damaged e q Switch)
      (list_any (is_charge (length past) Switch q) e.entries) passes).0).0 in
      has-filter (λ p. is_up (mode_in e p Switch)) e.active q
      ∙ and_true (is_up (mode_in e q Switch)) (has e.active q) (not_false (is_up (mode_in e q Switch)) up) active
    where
      first_of : (a b : Bool) → (a && b) ≡ false → b ≡ true → a ≡ false
      first_of true b h k = sym k ∙ h
      first_of false b h k = refl

  version_known : between 1 2 M.rules.version ≡ true
  version_known =
      let r = M.rules in
      let first : Bool = (within 3 7 r.channels && within 1 256 r.blocks)
      && (within 0 65536 r.keep && within 65536 6553600 r.threshold) in
      let sizes : Bool = within 1 64 r.sweep && within 0 64 r.last in
      let versions : Bool = within 1 2 r.version && is_law r.version r.law in
      let others : Bool = within 0 6553600 r.decrement && within 1 2 r.returning in
      (both (within 1 2 r.version) (is_law r.version r.law)
      (both versions others (both sizes (versions && others)
      (both first (sizes && (versions && others)) mission.rules).1).1).0).0

  pub may_exchange : MayExchange M.rules.version (length M.outputs) part (settled_of (length past) e)
  may_exchange =
      let active_is : part.active ≡ e.active = ap (λ (r : RecordValue). r.active) same in
      record {
        known = version_known;
        cycle = sym (ap (λ (r : RecordValue). r.cycle) same);
        active = sym active_is;
        ascending = ap ascends channels_are
            ∙ ascends-filter (λ p. is_up (mode_in e p Switch)) e.active (set_parts e.active set).1;
        are_active = ap (list_all (has part.active)) channels_are
            ∙ ap (λ (s : ChannelSet). list_all (has s) (channels_running_in Switch e)) active_is
            ∙ filtered (λ p. is_up (mode_in e p Switch)) e.active e.active (λ q there. there);
        there = λ q active fine. ap (λ (qs : List ℕ). has qs q) channels_are
            ∙ there_by q (ap (λ (s : ChannelSet). has s q) (sym active_is) ∙ active) fine;
        words = words;
        count = length-map M.outputs (λ o. context_word e.ideal_context o.0 o.1);
        voted = votes_for;
      }
