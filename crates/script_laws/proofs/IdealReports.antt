-- The report of a run without faults, part by part.
use Rattle.std.proofs.Common.{◌≡◌, ℕ, zero, suc, ◌<◌, ◌≤◌, false, cond, List, [], ◌∷◌, ◌++◌, length, Option, None, refl, sym, ap, ◌∙◌, arith, append-nil, append_assoc}
use Rattle.std.specs.Prelude.{is_some, option_map}
use Rattle.std.proofs.lemmas.Grind.{flat_map-append}
use Rattle.guards_model.specs.Channels.{ChannelSet}
use Rattle.guards_model.specs.Missions.{MissionValue, IsMission}
use Rattle.guards_model.specs.Network.{Log}
use Rattle.guards_model.specs.Rounds.{Histories}
use Rattle.guards_model.specs.Texts.{Part, RecordValue, LineValue, StopValue, cycle_part, head_line, done_line, part_text, text_of_parts}
use Rattle.guards_model.specs.Transfers.{TransferValue}
use Rattle.guards_runs.specs.Cycles.{Cycle, Past, ideal_after, next_cycle, cycles_before}
use Rattle.guards_runs.specs.Disturbed.{stop_of}
use Rattle.guards_runs.specs.Faultless.{IsFaultless, HasDue}
use Rattle.guards_runs.specs.Promises.{EachCycle}
use Rattle.guards_runs.specs.Report.{cycle_record, cycle_parts, parts_of, told_cycles, told_histories, report_parts, report}
use Rattle.guards_laws.proofs.DueEntries.{IsDueNow}
use Rattle.guards_laws.proofs.LogGrows.{length-cycles_before}
use Rattle.guards_runs.specs.IdealMachine.{ideal}
use Rattle.guards_runs.specs.IdealReport.{ideal_record, ideal_report, head, last, part, parts_below, record_text, record_with}
use Rattle.guards_laws.proofs.NoFaults.{CalmRun, calm_run, each_is_due, unremoved, untransferred, unjoined}
use Rattle.script_laws.proofs.QuietCycles.{active_all, ideal_is, lines_are}

-- the part of a record, which does not tell of traces
shape : ℕ → ChannelSet → Option TransferValue → List LineValue → ChannelSet → ChannelSet → Option ℕ → Part
shape c active transfer lines removed joined remaining =
    cycle_part false (record {
      cycle = c;
      active = active;
      transfer = transfer;
      lines = lines;
      traces = [];
      removed = removed;
      joined = joined;
      remaining = remaining;
    })

part_by : (r : RecordValue) →
    cycle_part false r ≡ shape r.cycle r.active r.transfer r.lines r.removed r.joined r.remaining
unfolding shape
part_by r = refl

module _ (M : MissionValue) (L : Log) (mission : IsMission M) (faultless : IsFaultless M L) where
  pub record TellsIdeal (n : ℕ) : Type 0 where
    pub parts : text_of_parts (cycle_parts false M [] (cycles_before M L n)) ≡ parts_below M n
    pub context : ideal_after M (cycles_before M L n) ≡ ideal M n

  module _ (n : ℕ) (run : CalmRun M L mission faultless n)
      (due : IsDueNow M (cycles_before M L n) (next_cycle M L (cycles_before M L n))) (early : n < M.cycles)
      (before : ideal_after M (cycles_before M L n) ≡ ideal M n) where
    abbrev e : Cycle
    e = next_cycle M L (cycles_before M L n)

    pub part_is : part_text (cycle_part false (cycle_record M [] (length (cycles_before M L n)) e)) ≡ part M n
    unfolding part record_text record_with shape
    part_is =
        let transferless = untransferred M L mission faultless n run.calm due early run.cycles in
        let r : RecordValue = ideal_record M n in
        ap part_text
        (part_by (cycle_record M [] (length (cycles_before M L n)) e)
        ∙ ap (λ c. shape c e.active e.transfer (cycle_record M [] c e).lines e.removed e.joined
        (option_map (λ (t : TransferValue). length e.remaining) e.transfer)) (length-cycles_before M L n)
        ∙ ap (λ s. shape n s e.transfer (cycle_record M [] n e).lines e.removed e.joined
        (option_map (λ (t : TransferValue). length e.remaining) e.transfer))
        (active_all M L mission faultless n run due early)
        ∙ ap (λ (o : Option TransferValue).
        shape n r.active o (cycle_record M [] n e).lines e.removed e.joined
        (option_map (λ (t : TransferValue). length e.remaining) o)) transferless
        ∙ ap (λ ls. shape n r.active None ls e.removed e.joined None)
        (lines_are M L mission faultless n run due early before)
        ∙ ap (λ s. shape n r.active None r.lines s e.joined None)
        (unremoved M L mission faultless n run.calm due early run.cycles)
        ∙ ap (λ s. shape n r.active None r.lines [] s None)
        (unjoined M L mission faultless n run.calm due early run.cycles))

  pub tells : (n : ℕ) → n ≤ M.cycles → EachCycle (IsDueNow M) (cycles_before M L n) → TellsIdeal n
  tells zero early due = record { parts = refl; context = refl }
  tells (suc n) early due =
      let before = tells n (omega (arith, early)) due.1 in
      let run = calm_run M L mission faultless n (omega (arith, early)) due.1 in
      let here = cycle_part false
      (cycle_record M [] (length (cycles_before M L n)) (next_cycle M L (cycles_before M L n))) in
      record {
        parts =
            flat_map-append part_text (cycle_parts false M [] (cycles_before M L n)) (here ∷ [])
            ∙ ap (λ front. front ++ (part_text here ++ [])) before.parts
            ∙ ap (λ text. parts_below M n ++ text)
            (append-nil (part_text here) ∙ part_is n run due.0 early before.context);
        context = ideal_is M L mission faultless n run due.0 early before.context;
      }

-- a run that stopped nowhere is told whole

told_all : (past : Past) → stop_of past ≡ None → told_cycles past ≡ past
told_all [] h = refl
told_all (e ∷ past) h = ap (λ (o : Option StopValue). cond (is_some o) (told_cycles past) (e ∷ past)) h

no_histories : Histories
no_histories = []

untraced : (past : Past) → stop_of past ≡ None → told_histories past [] ≡ no_histories
unfolding no_histories
untraced [] h = refl
untraced (e ∷ past) h = ap (λ (o : Option StopValue). cond (is_some o) (told_histories past []) no_histories) h

whole_text : (M : MissionValue) (past : Past) →
    text_of_parts (parts_of false M [] past None) ≡ head M ++ text_of_parts (cycle_parts false M [] past) ++ last M
unfolding head last
whole_text M past =
    let first = head_line M.rules.channels M.cycles in
    let done = done_line M.cycles in
    let cycles = text_of_parts (cycle_parts false M [] past) in
    ap (λ text. (first ++ []) ++ text) (flat_map-append part_text (cycle_parts false M [] past) ((done ∷ []) ∷ []))
    ∙ ap (λ text. text ++ (cycles ++ ((done ++ []) ++ []))) (append-nil first)
    ∙ ap (λ text. first ++ (cycles ++ text)) (append-nil (done ++ []) ∙ append-nil done)
    ∙ sym (append_assoc first cycles done)

pub report_is : (M : MissionValue) (L : Log) → IsMission M → IsFaultless M L → HasDue M L M.cycles →
    report M L ≡ ideal_report M
unfolding report report_parts no_histories
report_is M L mission faultless due =
    let past = cycles_before M L M.cycles in
    let each = each_is_due M L M.cycles due in
    let run = calm_run M L mission faultless M.cycles (omega arith) each in
    ap (λ (o : Option StopValue). text_of_parts (parts_of false M (told_histories past []) (told_cycles past) o))
    run.unstopped
    ∙ ap (λ (hs : Histories). text_of_parts (parts_of false M hs (told_cycles past) None)) (untraced past run.unstopped)
    ∙ ap (λ (cs : Past). text_of_parts (parts_of false M [] cs None)) (told_all past run.unstopped)
    ∙ whole_text M past
    ∙ ap (λ text. head M ++ text ++ last M) (tells M L mission faultless M.cycles (omega arith) each).parts
