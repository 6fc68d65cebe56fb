-- The words of an actuator by the printed votes are those that the ideal contexts give, and they are words.
use Rattle.std.proofs.Common.{◌≡◌, ℕ, zero, suc, ◌<◌, ◌≤◌, ◌==◌, true, not, ◌&&◌, ℤ, pos, List, [], ◌∷◌, length, map, Some, refl, sym, ap, subst, ◌∙◌, arith, eqb-true}
use Rattle.std.specs.Prelude.{int_le, nat_le, nat_lt}
use Rattle.std.specs.List.{list_all}
use Rattle.std.proofs.lemmas.Bool.{leb-true}
use Rattle.std.proofs.lemmas.List.{length-map}
use Rattle.std.proofs.lemmas.List.FromFn.{length-range_with_len}
use Rattle.guards_model.specs.declared.Code.TheVariants.{Ramp}
use Rattle.guards_model.specs.declared.Slot.TheVariants.{Switch}
use Rattle.guards_model.specs.Words.{is_word}
use Rattle.guards_model.specs.Channels.{has, numbers_below}
use Rattle.guards_model.specs.Contexts.{word_of, context_word}
use Rattle.guards_model.specs.Modes.{is_up}
use Rattle.guards_model.specs.Voting.{present}
use Rattle.guards_model.specs.Missions.{MissionValue, ActuatorValue, IsMission, is_actuator, output_words, within}
use Rattle.guards_model.specs.Actuators.{limited, voted_words, words_towards}
use Rattle.guards_model.specs.Network.{Log}
use Rattle.guards_model.specs.Rounds.{Histories}
use Rattle.guards_model.specs.Texts.{LineValue}
use Rattle.guards_runs.specs.Cycles.{Cycle, Past, mode_in, next_cycle, cycles_before}
use Rattle.guards_runs.specs.Promises.{Agrees}
use Rattle.guards_runs.specs.Outputs.{ideal_outputs}
use Rattle.guards_runs.specs.Report.{cycle_record, channels_running_in, latest_steps}
use Rattle.guards_audit.specs.Told.{first_line}
use Rattle.guards_audit.specs.Lines.{some_that, is_empty}
use Rattle.guards_model.proofs.BoolTests.{both, and_true, or_left}
use Rattle.guards_model.proofs.ListTests.{all-map, weaken}
use Rattle.guards_model.proofs.Tables.{has-filter}
use Rattle.guards_model.proofs.ValueWords.{native_word, word_in, word_at_in}
use Rattle.guards_laws.proofs.IdealWords.{ideal_whole}
use Rattle.audit_laws.proofs.SameLists.{number_same}
use Rattle.audit_laws.proofs.RunRecords.{HasLine, first-is}
use Rattle.audit_laws.proofs.RunRanges.{not_empty}
use Rattle.audit_laws.proofs.RunFits.{has_line}

-- ---- words are words

towards_words : (steps last wanted : List ℤ) → list_all is_word steps ≡ true → list_all is_word last ≡ true →
    list_all is_word wanted ≡ true → list_all is_word (words_towards steps last wanted) ≡ true
towards_words steps last wanted hs hl hw =
    all-map is_word (λ k. limited (word_of last k) (word_of wanted k) (word_of steps k)) (numbers_below (length last))
    (λ k. native_word Ramp (word_of last k) (word_of wanted k) (word_of steps k) (word_in last k hl)
    (word_in wanted k hw) (word_in steps k hs))

pub length-towards : (steps last wanted : List ℤ) → length (words_towards steps last wanted) ≡ length last
length-towards steps last wanted =
    length-map (numbers_below (length last)) (λ k. limited (word_of last k) (word_of wanted k) (word_of steps k))
    ∙ length-range_with_len 0 (length last)

-- the conditions on a mission's actuator, one by one
record IsDrive (M : MissionValue) (a : ActuatorValue) : Type 0 where
  steps : list_all is_word a.steps ≡ true
  many : length a.start ≡ length M.outputs
  start : list_all is_word a.start ≡ true
  some : 1 ≤ length M.outputs

drive_of : (M : MissionValue) (a : ActuatorValue) → IsMission M → M.actuator ≡ Some a → IsDrive M a
drive_of M a mission is =
    let all : is_actuator (length M.outputs) (Some a) ≡ true =
    subst (λ o. is_actuator (length M.outputs) o ≡ true) is mission.actuator in
    let parts = both (length a.steps == length M.outputs
    && list_all (λ step. is_word step && int_le (pos 0) step) a.steps)
    (length a.start == length M.outputs && list_all is_word a.start) all in
    let moving = both (length a.steps == length M.outputs)
    (list_all (λ step. is_word step && int_le (pos 0) step) a.steps) parts.0 in
    let first = both (length a.start == length M.outputs) (list_all is_word a.start) parts.1 in
    let outs = both (within 1 8 (length M.outputs))
    (list_all (λ (o : ℕ × ℕ). nat_lt o.0 M.rules.blocks && nat_lt o.1 8) M.outputs) mission.outputs in
    record {
      steps = weaken (λ step. is_word step && int_le (pos 0) step) is_word a.steps
          (λ step h. (both (is_word step) (int_le (pos 0) step) h).0) moving.1;
      many = eqb-true (length a.start) (length M.outputs) first.0;
      start = first.1;
      some = leb-true 1 (length M.outputs) (both (nat_le 1 (length M.outputs)) (nat_le (length M.outputs) 8) outs.0).0;
    }

outputs_words : (M : MissionValue) (L : Log) (n : ℕ) → IsMission M → n < M.cycles → (os : List (ℕ × ℕ)) →
    list_all is_word (map (λ (o : ℕ × ℕ). context_word (next_cycle M L (cycles_before M L n)).ideal_context o.0 o.1) os)
    ≡ true
outputs_words M L n mission early [] = refl
outputs_words M L n mission early (o ∷ os) =
    let ctx = (next_cycle M L (cycles_before M L n)).ideal_context in
    and_true (is_word (context_word ctx o.0 o.1)) (list_all is_word (map (λ (p : ℕ × ℕ). context_word ctx p.0 p.1) os))
    (word_at_in ctx o.0 o.1 (ideal_whole M L (suc n) mission early)) (outputs_words M L n mission early os)

module _ (M : MissionValue) (a : ActuatorValue) (mission : IsMission M) (is : M.actuator ≡ Some a) (L : Log) where
  abbrev outs : ℕ → List ℤ
  outs n = ideal_outputs M a.steps a.start L n

  outs_words : (n : ℕ) → n ≤ M.cycles → list_all is_word (outs n) ≡ true
  outs_words zero early = (drive_of M a mission is).start
  outs_words (suc n) early =
      towards_words a.steps (outs n) (output_words M (next_cycle M L (cycles_before M L n)).ideal_context)
      (drive_of M a mission is).steps
      (outs_words n (omega arith)) (outputs_words M L n mission early M.outputs)

  outs_many : (n : ℕ) → length (outs n) ≡ length a.start
  outs_many zero = refl
  outs_many (suc n) = length-towards a.steps (outs n)
      (output_words M (next_cycle M L (cycles_before M L n)).ideal_context) ∙ outs_many n

  pub outs_form : (n : ℕ) → n ≤ M.cycles → some_that is_word (outs n) ≡ true
  outs_form n early =
      and_true (not (is_empty (outs n))) (list_all is_word (outs n))
      (not_empty (outs n) (omega (arith, outs_many n, (drive_of M a mission is).many, (drive_of M a mission is).some)))
      (outs_words n early)

-- ---- the printed votes

pub present_some : (words : List ℤ) → present (map (λ w. Some w) words) ≡ words
present_some [] = refl
present_some (w ∷ words) = ap (λ ws. w ∷ ws) (present_some words)

first_active : (e : Cycle) (some : HasLine e) → has e.active some.first ≡ true
first_active e some =
    let there : has (channels_running_in Switch e) some.first ≡ true =
    ap (λ ps. has ps some.first) some.run
    ∙ or_left (some.first == some.first) (has some.others some.first) (number_same some.first) in
    (both (is_up (mode_in e some.first Switch)) (has e.active some.first)
    (sym (has-filter (λ q. is_up (mode_in e q Switch)) e.active some.first) ∙ there)).1

-- the first line of a cycle has the output words of the ideal context as its votes
pub first_votes : (M : MissionValue) (L : Log) (histories : Histories) (n : ℕ) → IsMission M →
    Agrees M (cycles_before M L n) (next_cycle M L (cycles_before M L n)) →
    voted_words (first_line (cycle_record M (latest_steps histories) (length (cycles_before M L n))
    (next_cycle M L (cycles_before M L n)))).votes
    ≡ output_words M (next_cycle M L (cycles_before M L n)).ideal_context
first_votes M L histories n mission agrees =
    let past : Past = cycles_before M L n in
    let e : Cycle = next_cycle M L past in
    let some : HasLine e = has_line M past e mission agrees in
    ap (λ (l : LineValue). voted_words l.votes) (first-is M (latest_steps histories) (length past) e some)
    ∙ ap voted_words (agrees.votes some.first (first_active e some))
    ∙ present_some (output_words M e.ideal_context)
