-- What a run that came to its end tells is consistent with its mission.
use Rattle.std.proofs.Common.{◌≡◌, ℕ, zero, suc, ◌==◌, ◌≤◌, true, cond, ◌&&◌, List, [], ◌∷◌, ◌++◌, length, Option, None, Some, refl, sym, ap, subst, ◌∙◌, arith, append-nil, eq-eqb}
use Rattle.std.specs.Prelude.{IsTrue, is_some, ℤ}
use Rattle.std.proofs.lemmas.List.Concat.{flat_map-append}
use Rattle.guards_model.specs.Missions.{MissionValue, ActuatorValue, IsMission, output_words}
use Rattle.guards_model.specs.Actuators.{words_towards}
use Rattle.guards_model.specs.Words.{is_word}
use Rattle.guards_model.specs.Network.{Log, without_outputs}
use Rattle.guards_model.specs.Rounds.{Histories}
use Rattle.guards_model.specs.Texts.{TextValue, Part, RecordValue, head_line, done_line, last_line, out_line, cycle_part, text_of_parts}
use Rattle.guards_runs.specs.Cycles.{Past, next_cycle, cycles_before}
use Rattle.guards_runs.specs.Disturbed.{stop_of}
use Rattle.guards_runs.specs.Outputs.{acted_stop, words_after, ideal_outputs}
use Rattle.guards_runs.specs.ActedReport.{acted_parts, acted_told, acted_histories, acted_run_parts, acted_report}
use Rattle.guards_runs.specs.Promises.{EachCycle}
use Rattle.guards_runs.specs.Soundness.{IsSoundCycle}
use Rattle.guards_runs.specs.Report.{cycle_record, cycle_parts, parts_of, told_histories, traced_parts, traced, latest_steps, earlier_steps}
use Rattle.run_laws.specs.Runs.{AreDueBy}
use Rattle.guards_audit.specs.Lines.{head_told, out_told, done_told, is_small, some_that, lines_in}
use Rattle.guards_audit.specs.Told.{Told, next_cycle_number, words_told}
use Rattle.guards_audit.specs.Tests.{words_fit, are_same_words}
use Rattle.guards_audit.specs.Consistency.{Place, at_head, between, awaits_out, at_end, fits, after_cycle, AreGood, IsConsistent}
use Rattle.guards_audit.proofs.PrintedLines.{are_more, AreParts, are_more_parts, all_lines, lines_of_parts, head_is_line, out_is_line, done_is_line, cycle_part_is_lines}
use Rattle.guards_laws.proofs.FirstStop.{told_whole}
use Rattle.guards_model.proofs.BoolTests.{and_true}
use Rattle.audit_laws.specs.Ends.{AreSoundlyDone}
use Rattle.run_laws.specs.Acting.{AreActedBy}
use Rattle.run_laws.specs.Driving.{CyclesRan, told_text}
use Rattle.audit_laws.proofs.SameLists.{number_same, words_same}
use Rattle.audit_laws.proofs.GoodCycle.{good_append, cycle_good}
use Rattle.audit_laws.proofs.RunRecords.{records, length-records, HasLine}
use Rattle.audit_laws.proofs.RunRanges.{small-is}
use Rattle.guards_laws.proofs.Planned.{ranges}
use Rattle.guards_laws.proofs.WithinChannels.{channels_few}
use Rattle.audit_laws.proofs.RunFits.{has_line, length-cycles, cycle_fit}
use Rattle.audit_laws.proofs.OutWords.{outs_form, first_votes}

-- ---- the parts are made of lines

parts_are_lines : (M : MissionValue) (histories : Histories) (past : Past) →
    AreParts (cycle_parts true M histories past)
parts_are_lines M histories [] = tt
parts_are_lines M histories (e ∷ past) =
    are_more_parts (cycle_parts true M (earlier_steps histories) past)
    (cycle_part true (cycle_record M (latest_steps histories) (length past) e) ∷ [])
    (parts_are_lines M (earlier_steps histories) past)
    (cycle_part_is_lines true (cycle_record M (latest_steps histories) (length past) e), tt)

acted_are_lines : (M : MissionValue) (a : ActuatorValue) (F : Log) (histories : Histories) (past : Past) →
    AreParts (acted_parts true M a F histories past)
acted_are_lines M a F histories [] = tt
acted_are_lines M a F histories (e ∷ past) =
    let r : RecordValue = cycle_record M (latest_steps histories) (length past) e in
    let out : TextValue = out_line (words_after M a F (suc (length past))) in
    are_more_parts (acted_parts true M a F (earlier_steps histories) past) ((cycle_part true r ++ out ∷ []) ∷ [])
    (acted_are_lines M a F (earlier_steps histories) past) (
      are_more (cycle_part true r) (out ∷ []) (cycle_part_is_lines true r)
          (out_is_line (words_after M a F (suc (length past))), tt),
      tt,
    )

-- ---- the cycles are told by good lines

pub each_line : (M : MissionValue) (L : Log) (histories : Histories) (n : ℕ) → IsMission M →
    AreSoundlyDone M histories (cycles_before M L n) → EachCycle (λ past e. HasLine e) (cycles_before M L n)
each_line M L histories zero mission h = tt
each_line M L histories (suc n) mission h = (
  has_line M (cycles_before M L n) (next_cycle M L (cycles_before M L n)) mission h.0,
  each_line M L (earlier_steps histories) n mission h.2,
)

-- the lines of one more part
one_more : (M : MissionValue) (place middle last : Place) (parts : List Part) (part : Part) →
    AreGood M place (all_lines parts) middle → AreGood M middle part last →
    AreGood M place (all_lines (parts ++ part ∷ [])) last
one_more M place middle last parts part h k =
    subst (λ ls. AreGood M place ls last)
    (ap (λ xs. all_lines parts ++ xs) (sym (append-nil part))
    ∙ sym (flat_map-append (λ (p : Part). p) parts (part ∷ [])))
    (good_append M place middle last (all_lines parts) part h k)

module _ (M : MissionValue) (L : Log) (mission : IsMission M) where
  -- the part of a cycle
  part_good : (histories : Histories) (n : ℕ) → suc n ≤ M.cycles →
      AreSoundlyDone M histories (cycles_before M L (suc n)) → (o : Option ActuatorValue) → M.actuator ≡ o →
      AreGood M (between (records M (earlier_steps histories) (cycles_before M L n)))
      (cycle_part true (cycle_record M (latest_steps histories) (length (cycles_before M L n))
      (next_cycle M L (cycles_before M L n))))
      (after_cycle o (records M histories (cycles_before M L (suc n))))
  part_good histories n early h o is =
      let past = cycles_before M L n in
      let r : RecordValue = cycle_record M (latest_steps histories) (length past) (next_cycle M L past) in
      let told : Told = records M (earlier_steps histories) past in
      subst (λ p. AreGood M (between told) (cycle_part true r) (after_cycle p (r ∷ told))) is
      (cycle_good M told r (cycle_fit M L mission (earlier_steps histories) n early
      (each_line M L (earlier_steps histories) n mission h.2) h.0 (latest_steps histories) h.1))

  cycles_good : M.actuator ≡ None → (histories : Histories) (n : ℕ) → n ≤ M.cycles →
      AreSoundlyDone M histories (cycles_before M L n) →
      AreGood M (between []) (all_lines (cycle_parts true M histories (cycles_before M L n)))
      (between (records M histories (cycles_before M L n)))
  cycles_good none histories zero early h = refl
  cycles_good none histories (suc n) early h =
      let past = cycles_before M L n in
      let earlier : Histories = earlier_steps histories in
      one_more M (between []) (between (records M earlier past))
      (between (records M histories (cycles_before M L (suc n))))
      (cycle_parts true M earlier past)
      (cycle_part true (cycle_record M (latest_steps histories) (length past) (next_cycle M L past)))
      (cycles_good none earlier n (omega arith) h.2) (part_good histories n (omega arith) h None none)

  module _ (a : ActuatorValue) (is : M.actuator ≡ Some a) (F : Log)
      (ideal : (n : ℕ) → n ≤ M.cycles → words_after M a F n ≡ ideal_outputs M a.steps a.start L n) where
    words_records : (histories : Histories) (n : ℕ) → AreSoundlyDone M histories (cycles_before M L n) →
        words_told a (records M histories (cycles_before M L n)) ≡ ideal_outputs M a.steps a.start L n
    words_records histories zero h = refl
    words_records histories (suc n) h =
        let past = cycles_before M L n in
        let told : Told = records M (earlier_steps histories) past in
        ap (λ wanted. words_towards a.steps (words_told a told) wanted) (first_votes M L histories n mission h.0)
        ∙ ap (λ last. words_towards a.steps last (output_words M (next_cycle M L past).ideal_context))
        (words_records (earlier_steps histories) n h.2)

    out_good : (histories : Histories) (n : ℕ) → n ≤ M.cycles → AreSoundlyDone M histories (cycles_before M L n) →
        AreGood M (awaits_out (records M histories (cycles_before M L n))) (out_line (words_after M a F n) ∷ [])
        (between (records M histories (cycles_before M L n)))
    out_good histories n early h =
        let told : Told = records M histories (cycles_before M L n) in
        let words : List ℤ = words_after M a F n in
        let same : words ≡ words_told a told = ideal n early ∙ sym (words_records histories n h) in
        let form : some_that is_word words ≡ true =
        subst (λ ws. some_that is_word ws ≡ true) (sym (ideal n early)) (outs_form M a mission is L n early) in
        let equal : are_same_words words (words_told a told) ≡ true =
        subst (λ ws. are_same_words words ws ≡ true) same (words_same words) in
        let suit : words_fit M.actuator told words ≡ true = subst (λ o. words_fit o told words ≡ true) (sym is) equal in
        (out_told words, refl, and_true (some_that is_word words) (words_fit M.actuator told words) form suit, refl)

    acted_good : (histories : Histories) (n : ℕ) → n ≤ M.cycles → AreSoundlyDone M histories (cycles_before M L n) →
        AreGood M (between []) (all_lines (acted_parts true M a F histories (cycles_before M L n)))
        (between (records M histories (cycles_before M L n)))
    acted_good histories zero early h = refl
    acted_good histories (suc n) early h =
        let past = cycles_before M L n in
        let earlier : Histories = earlier_steps histories in
        let told : Told = records M histories (cycles_before M L (suc n)) in
        let part : Part = cycle_part true
        (cycle_record M (latest_steps histories) (length past) (next_cycle M L past)) in
        let out : Part = out_line (words_after M a F (suc (length past))) ∷ [] in
        let last : AreGood M (awaits_out told) out (between told) =
        subst (λ k. AreGood M (awaits_out told) (out_line (words_after M a F (suc k)) ∷ []) (between told))
        (sym (length-cycles M L n)) (out_good histories (suc n) early h) in
        one_more M (between []) (between (records M earlier past)) (between told) (acted_parts true M a F earlier past)
        (part ++ out)
        (acted_good earlier n (omega arith) h.2)
        (good_append M (between (records M earlier past)) (awaits_out told) (between told) part out
        (part_good histories n (omega arith) h (Some a) is) last)

-- ---- the whole text

-- a text whose cycles are told by good lines is consistent
text_good : (M : MissionValue) (L : Log) (histories : Histories) (parts : List Part) → IsMission M → AreParts parts →
    AreGood M (between []) (all_lines parts) (between (records M histories (cycles_before M L M.cycles))) →
    IsConsistent M (text_of_parts
    ((head_line M.rules.channels M.cycles ∷ []) ∷ (parts ++ (done_line M.cycles ∷ []) ∷ [])))
text_good M L histories parts mission made good =
    let told : Told = records M histories (cycles_before M L M.cycles) in
    let all : List Part = (head_line M.rules.channels M.cycles ∷ []) ∷ (parts ++ (done_line M.cycles ∷ []) ∷ []) in
    let are : AreParts all = (
      (head_is_line M.rules.channels M.cycles, tt),
      are_more_parts parts ((done_line M.cycles ∷ []) ∷ []) made ((done_is_line M.cycles, tt), tt),
    ) in
    let lines : lines_in (text_of_parts all)
    ≡ head_line M.rules.channels M.cycles ∷ (all_lines parts ++ done_line M.cycles ∷ []) =
    lines_of_parts all are ∙ ap (λ ls. head_line M.rules.channels M.cycles ∷ ls)
    (flat_map-append (λ (part : Part). part) parts ((done_line M.cycles ∷ []) ∷ [])) in
    let few : is_small M.cycles ≡ true = small-is M.cycles (omega (arith, (ranges M mission).cycles)) in
    let size : length told ≡ M.cycles =
    length-records M histories (cycles_before M L M.cycles) ∙ length-cycles M L M.cycles in
    let last : AreGood M (between told) (done_line M.cycles ∷ []) at_end = (
      done_told M.cycles,
      refl,
      and_true (is_small M.cycles) _ few
          (and_true (next_cycle_number told == M.cycles) (M.cycles == M.cycles) (eq-eqb (length told) M.cycles size)
          (number_same M.cycles)),
      refl,
    ) in
    let first : IsTrue (fits M at_head (head_told M.rules.channels M.cycles)) =
    and_true (is_small M.rules.channels && is_small M.cycles) _
    (and_true (is_small M.rules.channels) (is_small M.cycles)
    (small-is M.rules.channels (omega (arith, channels_few M mission))) few)
    (and_true (M.rules.channels == M.rules.channels) (M.cycles == M.cycles) (number_same M.rules.channels)
    (number_same M.cycles)) in
    subst (λ ls. AreGood M at_head ls at_end) (sym lines) (
      head_told M.rules.channels M.cycles,
      refl,
      first,
      good_append M (between []) (between told) at_end (all_lines parts) (done_line M.cycles ∷ []) good last,
    )

told_histories_whole : (past : Past) (histories : Histories) → stop_of past ≡ None →
    told_histories past histories ≡ histories
told_histories_whole [] histories h = refl
told_histories_whole (e ∷ past) histories h =
    ap (λ o. cond (is_some o) (told_histories past (earlier_steps histories)) histories) h

parts_whole : (M : MissionValue) (L : Log) (histories : Histories) → stop_of (cycles_before M L M.cycles) ≡ None →
    traced_parts M L histories
    ≡ (head_line M.rules.channels M.cycles ∷ [])
    ∷ (cycle_parts true M histories (cycles_before M L M.cycles) ++ (done_line M.cycles ∷ []) ∷ [])
unfolding traced_parts
parts_whole M L histories h =
    (λ i. parts_of true M (told_histories_whole (cycles_before M L M.cycles) histories h i)
    (told_whole (cycles_before M L M.cycles) h i) (h i))

acted_histories_whole : (F : Log) (past : Past) (histories : Histories) → acted_stop F past ≡ None →
    acted_histories F past histories ≡ histories
acted_histories_whole F [] histories h = refl
acted_histories_whole F (e ∷ past) histories h =
    ap (λ o. cond (is_some o) (acted_histories F past (earlier_steps histories)) histories) h

acted_told_whole : (F : Log) (past : Past) → acted_stop F past ≡ None → acted_told F past ≡ past
acted_told_whole F [] h = refl
acted_told_whole F (e ∷ past) h = ap (λ o. cond (is_some o) (acted_told F past) (e ∷ past)) h

acted_whole : (M : MissionValue) (a : ActuatorValue) (F : Log) (histories : Histories) (cycles : Past) →
    acted_stop F cycles ≡ None →
    acted_run_parts true M a F histories cycles
    ≡ (head_line M.rules.channels M.cycles ∷ [])
    ∷ (acted_parts true M a F histories cycles ++ (done_line M.cycles ∷ []) ∷ [])
acted_whole M a F histories cycles h =
    λ i. (head_line M.rules.channels M.cycles ∷ [])
    ∷ (acted_parts true M a F (acted_histories_whole F cycles histories h i) (acted_told_whole F cycles h i)
    ++ (last_line M.cycles (h i) ∷ []) ∷ [])

-- ---- of a run

pub done_by : (M : MissionValue) (histories : Histories) (past : Past) (entries : Log) →
    AreDueBy M histories past entries → EachCycle (IsSoundCycle M) past → AreSoundlyDone M histories past
done_by M histories [] entries due sound = tt
done_by M histories (e ∷ past) entries due sound =
    (sound.0.agrees, due.5, done_by M (earlier_steps histories) past due.0 due.3 sound.1)

-- the same with an actuator
pub acted_done_by : (M : MissionValue) (histories : Histories) (past : Past) (entries : Log) →
    AreActedBy M histories past entries → EachCycle (IsSoundCycle M) past → AreSoundlyDone M histories past
acted_done_by M histories [] entries acted sound = tt
acted_done_by M histories (e ∷ past) entries acted sound =
    (sound.0.agrees, acted.6, acted_done_by M (earlier_steps histories) past acted.0 acted.4 sound.1)

by_actuator : (M : MissionValue) (F : Log) (histories : Histories) → IsMission M → (o : Option ActuatorValue) →
    M.actuator ≡ o → CyclesRan o M M.cycles F histories →
    IsConsistent M (told_text o true M F histories)
unfolding traced acted_report
by_actuator M F histories mission None is ran =
    let cycles = cycles_before M F M.cycles in
    subst (λ ps. IsConsistent M (text_of_parts ps)) (sym (parts_whole M F histories ran.unstopped))
    (text_good M F histories (cycle_parts true M histories cycles) mission (parts_are_lines M histories cycles)
    (cycles_good M F mission is histories M.cycles (omega arith)
    (done_by M histories cycles F ran.due ran.sound.cycles)))
by_actuator M F histories mission (Some a) is ran =
    let L : Log = without_outputs F in
    let cycles = cycles_before M L M.cycles in
    subst (λ ps. IsConsistent M (text_of_parts ps)) (sym (acted_whole M a F histories cycles ran.unstopped))
    (text_good M L histories (acted_parts true M a F histories cycles) mission (acted_are_lines M a F histories cycles)
    (acted_good M L mission a is F ran.ideal histories M.cycles (omega arith)
    (acted_done_by M histories cycles F ran.acted ran.sound.cycles)))

pub ran_consistent : (M : MissionValue) (F : Log) (histories : Histories) → IsMission M →
    CyclesRan M.actuator M M.cycles F histories → IsConsistent M (told_text M.actuator true M F histories)
ran_consistent M F histories mission ran = by_actuator M F histories mission M.actuator refl ran
