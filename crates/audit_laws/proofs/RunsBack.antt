-- The report of a run is read as the records of its cycles.
use Rattle.std.proofs.Common.{◌≡◌, ℕ, zero, suc, ◌-◌, ◌<◌, ◌≤◌, Bool, true, false, cond, ℤ, List, [], ◌∷◌, ◌++◌, length, map, Option, None, Some, refl, sym, ap, subst, ◌∙◌, arith, append-nil}
use Rattle.std.specs.Prelude.{flat_map, find, option_map}
use Rattle.std.specs.List.{list_all}
use Rattle.std.proofs.lemmas.List.Concat.{flat_map-append}
use Rattle.guards_model.specs.declared.Actor.{Actor}
use Rattle.guards_model.specs.declared.Slot.{Slot}
use Rattle.guards_model.specs.Slots.{every_slot}
use Rattle.guards_model.specs.Channels.{Channel}
use Rattle.guards_model.specs.Frames.{is_set, is_channel}
use Rattle.guards_model.specs.Missions.{MissionValue, ActuatorValue, IsMission}
use Rattle.guards_model.specs.Words.{is_word}
use Rattle.guards_model.specs.declared.Slot.TheVariants.{Output}
use Rattle.guards_runs.specs.Outputs.{words_after, ideal_outputs, output_disturbed, output_halts, output_stop}
use Rattle.guards_model.specs.Network.{Log, without_outputs}
use Rattle.guards_model.specs.Rounds.{Histories}
use Rattle.guards_model.specs.Texts.{TextValue, LineValue, TraceValue, RecordValue, StopValue, head_line, last_line, text_of_parts}
use Rattle.guards_runs.specs.Cycles.{Cycle, next_cycle, cycles_before, cycle_at}
use Rattle.guards_runs.specs.Disturbed.{disturbed_channels, halts, stop_in, first_of_two}
use Rattle.guards_runs.specs.Report.{cycle_record, latest_steps, earlier_steps}
use Rattle.run_laws.specs.Runs.{with_unfinished}
use Rattle.run_laws.specs.Driving.{CyclesRan, RunStopped, facts_log, parts_told, parts_driven, told_text}
use Rattle.run_laws.specs.Driving as driving
use Rattle.run_laws.proofs.Ends.{text_whole, text_stopped}
use Rattle.guards_audit.specs.Lines.{ReportLine, head_told, cycle_told, channel_told, steps_told, end_told, stop_told, is_small, some_that, is_form}
use Rattle.guards_audit.specs.Reports.{CycleTold, ReportValue, words_lines, cycle_lines, last_line_told, lines_of, report_of}
use Rattle.audit_laws.specs.ToldRuns.{told_record, cycles_as_told, run_told, words_of}
use Rattle.guards_model.proofs.BoolTests.{both, and_true}
use Rattle.guards_model.proofs.ListTests.{all-append}
use Rattle.guards_model.proofs.AscendingLists.{set-filter}
use Rattle.guards_laws.proofs.CycleParts.{active-is}
use Rattle.guards_laws.proofs.Planned.{ranges}
use Rattle.guards_laws.proofs.WithinChannels.{active_is_set, channels_few}
use Rattle.audit_laws.proofs.GoodCycle.{IsFit, line_for, steps_for}
use Rattle.audit_laws.proofs.RunRecords.{records}
use Rattle.audit_laws.proofs.RunRanges.{small-is}
use Rattle.audit_laws.proofs.RunFits.{length-cycles, cycle_fit}
use Rattle.audit_laws.specs.Ends.{AreSoundlyDone}
use Rattle.audit_laws.proofs.Consistent.{each_line, done_by, acted_done_by}
use Rattle.audit_laws.proofs.OutWords.{outs_form}
use Rattle.guards_audit.proofs.ReportsBack.{report_back}
use Rattle.audit_laws.proofs.CycleTexts.{spelled, cycles_text, acted_text, run_text_is}

-- ---- the forms of a cycle's lines

all_channels : (base : LineValue) (ps : List Channel) →
    list_all (λ p. is_form (channel_told (line_for base p))) ps ≡ true →
    list_all is_form (map channel_told (map (line_for base) ps)) ≡ true
all_channels base [] h = refl
all_channels base (p ∷ ps) h =
    let parts = both (is_form (channel_told (line_for base p)))
    (list_all (λ q. is_form (channel_told (line_for base q))) ps) h in
    and_true (is_form (channel_told (line_for base p))) (list_all is_form (map channel_told (map (line_for base) ps)))
    parts.0 (all_channels base ps parts.1)

all_steps : (steps : Channel → List Actor) (ps : List Channel) → list_all is_channel ps ≡ true →
    list_all is_form (map steps_told (map (steps_for steps) ps)) ≡ true
all_steps steps [] h = refl
all_steps steps (p ∷ ps) h =
    let parts = both (is_channel p) (list_all is_channel ps) h in
    and_true (is_channel p) (list_all is_form (map steps_told (map (steps_for steps) ps))) parts.0
    (all_steps steps ps parts.1)

with_trace : (trace : Bool) (ts : List TraceValue) → list_all is_form (map steps_told ts) ≡ true →
    list_all is_form (map steps_told (cond trace ts [])) ≡ true
with_trace true ts h = h
with_trace false ts h = refl

module _ (M : MissionValue) (L : Log) (mission : IsMission M) (trace : Bool) where
  cycle_formed : (words : Option (List ℤ)) → list_all is_form (words_lines words) ≡ true →
      (histories : Histories) (n : ℕ) → suc n ≤ M.cycles → AreSoundlyDone M histories (cycles_before M L (suc n)) →
      list_all is_form (cycle_lines
      (record {
        record_told = told_record trace
            (cycle_record M (latest_steps histories) (length (cycles_before M L n))
            (next_cycle M L (cycles_before M L n)));
        words = words;
      })) ≡ true
  cycle_formed words out histories n early h =
      let past = cycles_before M L n in
      let r : RecordValue = cycle_record M (latest_steps histories) (length past) (next_cycle M L past) in
      let earlier : Histories = earlier_steps histories in
      let last : List ReportLine = end_told r.removed r.joined r.remaining ∷ words_lines words in
      let f : IsFit M (records M earlier past) r =
      cycle_fit M L mission earlier n early (each_line M L earlier n mission h.2) h.0 (latest_steps histories)
      h.1 in
      let ls : list_all is_form (map channel_told r.lines) ≡ true =
      subst (λ xs. list_all is_form (map channel_told xs) ≡ true) (sym f.lines)
      (all_channels f.base (f.first ∷ f.others) f.line_form) in
      let ts : list_all is_form (map steps_told r.traces) ≡ true =
      subst (λ xs. list_all is_form (map steps_told xs) ≡ true) (sym f.traces)
      (all_steps f.steps f.workers f.steps_form) in
      and_true (is_form (cycle_told r.cycle r.active r.transfer)) _ f.cycle_form
      (all-append is_form (map channel_told r.lines) (map steps_told (cond trace r.traces []) ++ last) ls
      (all-append is_form (map steps_told (cond trace r.traces [])) last (with_trace trace r.traces ts)
      (and_true (is_form (end_told r.removed r.joined r.remaining)) (list_all is_form (words_lines words)) f.end_form
      out)))

  cycles_formed : (words : ℕ → Option (List ℤ)) (most : ℕ) →
      ((n : ℕ) → n ≤ most → list_all is_form (words_lines (words n)) ≡ true) →
      (histories : Histories) (n : ℕ) → n ≤ M.cycles → n ≤ most → AreSoundlyDone M histories (cycles_before M L n) →
      list_all is_form (flat_map cycle_lines (cycles_as_told words trace M histories (cycles_before M L n))) ≡ true
  cycles_formed words most out histories zero early low h = refl
  cycles_formed words most out histories (suc n) early low h =
      let past = cycles_before M L n in
      let told : List CycleTold = cycles_as_told words trace M (earlier_steps histories) past in
      let now : CycleTold = record {
        record_told =
            told_record trace (cycle_record M (latest_steps histories) (length past) (next_cycle M L past));
        words = words (suc (length past));
      } in
      let fine : list_all is_form (words_lines (words (suc (length past)))) ≡ true =
      out (suc (length past)) (omega (arith, length-cycles M L n, low)) in
      subst (λ ls. list_all is_form ls ≡ true)
      (sym (flat_map-append cycle_lines told (now ∷ [])
      ∙ ap (λ ls. flat_map cycle_lines told ++ ls) (append-nil (cycle_lines now))))
      (all-append is_form (flat_map cycle_lines told) (cycle_lines now)
      (cycles_formed words most out (earlier_steps histories) n (omega arith) (omega arith) h.2)
      (cycle_formed (words (suc (length past))) fine histories n early h))

  -- ---- the stop

  stop_by : (n : ℕ) (stop : StopValue) (o : Option Slot) → n < M.cycles →
      option_map (λ slot. record {
        cycle = n;
        slot = slot;
        set = disturbed_channels n (cycle_at M L n) slot;
        active = (cycle_at M L n).active;
      }) o ≡ Some stop → is_form (stop_told stop) ≡ true
  stop_by n stop None early h = absurd (none h)
    where
      none : None ≡ Some stop → ⊥
      none k = cc
  stop_by n stop (Some slot) early h =
      let e : Cycle = cycle_at M L n in
      let active : is_set e.active ≡ true =
      ap is_set (active-is M L (cycles_before M L n)) ∙ active_is_set M (cycles_before M L n) mission in
      let this : StopValue = record { cycle = n; slot = slot; set = disturbed_channels n e slot; active = e.active } in
      let set : is_set (disturbed_channels n e slot) ≡ true = set-filter _ e.active active in
      subst (λ s. is_form (stop_told s) ≡ true) (the_same this h)
      (and_true (is_small n) _ (small-is n (omega (arith, early, (ranges M mission).cycles)))
      (and_true (is_set (disturbed_channels n e slot)) (is_set e.active) set active))
    where
      the_same : (s : StopValue) → Some s ≡ Some stop → s ≡ stop
      the_same s k = cc

  stop_formed : (n : ℕ) (stop : StopValue) → n < M.cycles → stop_in n (cycle_at M L n) ≡ Some stop →
      is_form (stop_told stop) ≡ true
  stop_formed n stop early h = stop_by n stop (find (halts n (cycle_at M L n)) every_slot) early h

  -- ---- the report

  module _ (words : ℕ → Option (List ℤ)) (most : ℕ)
      (out : (n : ℕ) → n ≤ most → list_all is_form (words_lines (words n)) ≡ true) (histories : Histories) (n : ℕ)
      (stop : Option StopValue)
      (early : n ≤ M.cycles) (low : n ≤ most) (h : AreSoundlyDone M histories (cycles_before M L n))
      (last : is_form (last_line_told M.cycles stop) ≡ true) where
    abbrev R : ReportValue
    R = run_told words trace M histories (cycles_before M L n) stop

    told_formed : list_all is_form (lines_of R) ≡ true
    told_formed =
        let few : is_small M.cycles ≡ true = small-is M.cycles (omega (arith, (ranges M mission).cycles)) in
        let lines : List ReportLine =
        flat_map cycle_lines (cycles_as_told words trace M histories (cycles_before M L n)) in
        and_true (is_form (head_told M.rules.channels M.cycles))
        (list_all is_form (lines ++ last_line_told M.cycles stop ∷ []))
        (and_true (is_small M.rules.channels) (is_small M.cycles)
        (small-is M.rules.channels (omega (arith, channels_few M mission))) few)
        (all-append is_form lines (last_line_told M.cycles stop ∷ [])
        (cycles_formed words most out histories n early low h)
        (and_true (is_form (last_line_told M.cycles stop)) true last refl))

    pub read_back : (text cycles : TextValue) →
        text ≡ (head_line M.rules.channels M.cycles ++ cycles) ++ last_line M.cycles stop →
        spelled (flat_map cycle_lines (cycles_as_told words trace M histories (cycles_before M L n))) ≡ cycles →
        report_of text ≡ Some R
    read_back text cycles same is =
        ap report_of (same ∙ sym (run_text_is words trace M histories (cycles_before M L n) stop cycles is))
        ∙ report_back R told_formed

-- ---- the words of an actuator

words_formed : (M : MissionValue) (F : Log) (n : ℕ) → IsMission M → (o : Option ActuatorValue) → M.actuator ≡ o →
    ((a : ActuatorValue) → o ≡ Some a → words_after M a F n ≡ ideal_outputs M a.steps a.start (without_outputs F) n) →
    n ≤ M.cycles →
    list_all is_form (words_lines (words_of o M F n)) ≡ true
words_formed M F n mission None is ideal early = refl
words_formed M F n mission (Some a) is ideal early =
    and_true (some_that is_word (words_after M a F n)) true
    (subst (λ ws. some_that is_word ws ≡ true) (sym (ideal a refl))
    (outs_form M a mission is (without_outputs F) n early)) refl

-- ---- a run

-- what is needed of the cycles of a run
record IsTold (o : Option ActuatorValue) (M : MissionValue) (n : ℕ) (F : Log) (histories : Histories) : Type 0 where
  within : n ≤ M.cycles
  done : AreSoundlyDone M histories (driving.cycles_told o M F n)
  ideal : (a : ActuatorValue) → o ≡ Some a → (c : ℕ) → c ≤ n →
      words_after M a F c ≡ ideal_outputs M a.steps a.start (without_outputs F) c

whole_is : (o : Option ActuatorValue) (M : MissionValue) (F : Log) (histories : Histories) →
    CyclesRan o M M.cycles F histories → IsTold o M M.cycles F histories
whole_is None M F histories ran =
    record {
      within = omega arith;
      done = done_by M histories (cycles_before M F M.cycles) F ran.due ran.sound.cycles;
      ideal = λ a h. absurd (none a h);
    }
  where
    none : (a : ActuatorValue) → None ≡ Some a → ⊥
    none a h = cc
whole_is (Some a) M F histories ran =
    record {
      within = omega arith;
      done = acted_done_by M histories (cycles_before M (without_outputs F) M.cycles) F ran.acted ran.sound.cycles;
      ideal = λ b h c early. subst
          (λ (x : ActuatorValue). words_after M x F c ≡ ideal_outputs M x.steps x.start (without_outputs F) c)
          (the_same b h) (ran.ideal c early);
    }
  where
    the_same : (b : ActuatorValue) → Some a ≡ Some b → a ≡ b
    the_same b h = cc

stopped_is : (o : Option ActuatorValue) (M : MissionValue) (n : ℕ) (stop : StopValue) (F : Log)
    (histories : Histories) → RunStopped o M n stop F histories → IsTold o M n F histories
stopped_is None M n stop F histories ran =
    record {
      within = omega (arith, ran.within);
      done = done_by M histories (cycles_before M F n) ran.before ran.due ran.sound.cycles;
      ideal = λ a h. absurd (none a h);
    }
  where
    none : (a : ActuatorValue) → None ≡ Some a → ⊥
    none a h = cc
stopped_is (Some a) M n stop F histories ran =
    record {
      within = omega (arith, ran.within);
      done = acted_done_by M histories (cycles_before M (without_outputs F) n) ran.before ran.acted ran.sound.cycles;
      ideal = λ b h c early. subst
          (λ (x : ActuatorValue). words_after M x F c ≡ ideal_outputs M x.steps x.start (without_outputs F) c)
          (the_same b h) (ran.ideal c early);
    }
  where
    the_same : (b : ActuatorValue) → Some a ≡ Some b → a ≡ b
    the_same b h = cc

text_by : (o : Option ActuatorValue) (trace : Bool) (M : MissionValue) (F : Log) (histories : Histories) (n : ℕ) →
    spelled (flat_map cycle_lines (cycles_as_told (words_of o M F) trace M histories (driving.cycles_told o M F n)))
    ≡ text_of_parts (parts_told o trace M F histories n)
text_by None trace M F histories n = cycles_text trace M F histories (cycles_before M F n)
text_by (Some a) trace M F histories n = acted_text trace M a F histories (cycles_before M (without_outputs F) n)

-- a text of the head line, the parts of n cycles and a last line is read back
told_back : (trace : Bool) (M : MissionValue) (F : Log) (histories : Histories) (n : ℕ) (stop : Option StopValue)
    (text : TextValue) → IsMission M → IsTold M.actuator M n F histories →
    is_form (last_line_told M.cycles stop) ≡ true →
    text ≡ text_of_parts (parts_driven M.actuator trace M F histories n) ++ last_line M.cycles stop →
    report_of text ≡ Some (run_told (words_of M.actuator M F) trace M histories (driving.cycles_told M.actuator M F n)
    stop)
told_back trace M F histories n stop text mission told last same =
    let cycles : TextValue = text_of_parts (parts_told M.actuator trace M F histories n) in
    read_back M (facts_log M.actuator F) mission trace (words_of M.actuator M F) n
    (λ k early. words_formed M F k mission M.actuator refl (λ a h. told.ideal a h k early)
    (omega (arith, early, told.within))) histories n stop told.within (omega arith) told.done last
    text cycles (same ∙ ap (λ t. (t ++ cycles) ++ last_line M.cycles stop)
    (append-nil (head_line M.rules.channels M.cycles))) (text_by M.actuator trace M F histories n)

pub whole_back : (trace : Bool) (M : MissionValue) (F : Log) (histories : Histories) → IsMission M →
    CyclesRan M.actuator M M.cycles F histories →
    report_of (told_text M.actuator trace M F histories)
    ≡ Some (run_told (words_of M.actuator M F) trace M histories (driving.cycles_told M.actuator M F M.cycles) None)
whole_back trace M F histories mission ran =
    told_back trace M F histories M.cycles None (told_text M.actuator trace M F histories) mission
    (whole_is M.actuator M F histories ran)
    (small-is M.cycles (omega (arith, (ranges M mission).cycles))) (text_whole M F histories trace M.actuator ran)

-- ---- the stop of a run

output_formed : (M : MissionValue) (F L : Log) (n : ℕ) (stop : StopValue) → IsMission M → n < M.cycles → (b : Bool) →
    cond b (Some (record {
      cycle = n;
      slot = Output;
      set = output_disturbed n (cycle_at M L n) F;
      active = (cycle_at M L n).active;
    })) None ≡ Some stop → is_form (stop_told stop) ≡ true
output_formed M F L n stop mission early true h =
    let e : Cycle = cycle_at M L n in
    let active : is_set e.active ≡ true =
    ap is_set (active-is M L (cycles_before M L n)) ∙ active_is_set M (cycles_before M L n) mission in
    let this : StopValue = record { cycle = n; slot = Output; set = output_disturbed n e F; active = e.active } in
    let set : is_set (output_disturbed n e F) ≡ true = set-filter _ e.active active in
    subst (λ s. is_form (stop_told s) ≡ true) (the_same this h)
    (and_true (is_small n) _ (small-is n (omega (arith, early, (ranges M mission).cycles)))
    (and_true (is_set (output_disturbed n e F)) (is_set e.active) set active))
  where
    the_same : (s : StopValue) → Some s ≡ Some stop → s ≡ stop
    the_same s k = cc
output_formed M F L n stop mission early false h = absurd (none h)
  where
    none : None ≡ Some stop → ⊥
    none k = cc

first_formed : (M : MissionValue) (F L : Log) (n : ℕ) (stop : StopValue) → IsMission M → n < M.cycles →
    (o : Option StopValue) → stop_in n (cycle_at M L n) ≡ o →
    first_of_two o (output_stop n (cycle_at M L n) F) ≡ Some stop → is_form (stop_told stop) ≡ true
first_formed M F L n stop mission early (Some s) e h = stop_formed M L mission true n stop early (e ∙ h)
first_formed M F L n stop mission early None e h =
    output_formed M F L n stop mission early (output_halts n (cycle_at M L n) F) h

stop_of_run : (o : Option ActuatorValue) (M : MissionValue) (n : ℕ) (stop : StopValue) (F : Log)
    (histories : Histories) → IsMission M → RunStopped o M n stop F histories → is_form (stop_told stop) ≡ true
stop_of_run None M n stop F histories mission ran = stop_formed M F mission true n stop ran.within ran.stopped
stop_of_run (Some a) M n stop F histories mission ran =
    first_formed M F (without_outputs F) n stop mission ran.within (stop_in n (cycle_at M (without_outputs F) n)) refl
    ran.stopped

pub stopped_back : (trace : Bool) (M : MissionValue) (n : ℕ) (stop : StopValue) (F : Log) (histories : Histories) →
    IsMission M → RunStopped M.actuator M n stop F histories →
    report_of (told_text M.actuator trace M F (with_unfinished (M.cycles - n) histories))
    ≡ Some (run_told (words_of M.actuator M F) trace M histories (driving.cycles_told M.actuator M F n) (Some stop))
stopped_back trace M n stop F histories mission ran =
    told_back trace M F histories n (Some stop)
    (told_text M.actuator trace M F (with_unfinished (M.cycles - n) histories)) mission
    (stopped_is M.actuator M n stop F histories ran)
    (stop_of_run M.actuator M n stop F histories mission ran) (text_stopped M F histories trace M.actuator n stop ran)
