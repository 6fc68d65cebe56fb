-- Two runs over the scripted bus that did not stop have the same facts in every cycle, wherever copies fell in them.
use Rattle.std.proofs.Common.{◌≡◌, ℕ, zero, suc, ◌∷◌, map, refl, sym, ap, ◌∙◌}
use Rattle.std.specs.List.{AllByRecursion}
use Rattle.guards_model.specs.declared.Slot.TheVariants.{Output}
use Rattle.guards_model.specs.Missions.{MissionValue, bus_rules}
use Rattle.guards_model.specs.Network.{Log}
use Rattle.guards_model.specs.ScriptedBus.{IsScripted}
use Rattle.guards_model.specs.Texts.{text_of_parts}
use Rattle.guards_runs.specs.Cycles.{Past, next_cycle, cycles_before}
use Rattle.guards_runs.specs.Promises.{EachCycle, IsRun, HasRun}
use Rattle.guards_runs.specs.Report.{report_parts, report}
use Rattle.guards_runs.specs.SameFacts.{without_entries, HaveSameFacts}
use Rattle.guards_laws.proofs.Agreement.{whole_run}
use Rattle.guards_laws.proofs.DueEntries.{IsDueNow, run_due}
use Rattle.guards_laws.proofs.FirstStop.{told_whole}
use Rattle.script_laws.proofs.SlotsAlike.{AreBesides, cycle_same}
use Rattle.script_laws.proofs.Reports.{script_now, same_parts}

module _ (M : MissionValue) (L K : Log) (script_l : AllByRecursion (IsScripted (bus_rules M)) L)
    (script_k : AllByRecursion (IsScripted (bus_rules M)) K) where
  all_same : (n : ℕ) → EachCycle (IsDueNow M) (cycles_before M L n) → EachCycle (IsDueNow M) (cycles_before M K n) →
      HaveSameFacts (cycles_before M L n) (cycles_before M K n)
  all_same zero due_l due_k = refl
  all_same (suc n) due_l due_k =
      let P = cycles_before M L n in
      let R = cycles_before M K n in
      let before : HaveSameFacts P R = all_same n due_l.1 due_k.1 in
      let two : AreBesides M L K P R Output Output =
      record {
        same = before;
        due_first = due_l.0;
        due_second = due_k.0;
        script_first = script_now (bus_rules M) M L P script_l;
        script_second = script_now (bus_rules M) M K R script_k;
      } in
      ap (λ x. x ∷ map without_entries P)
      (cycle_same M L K P R Output Output two (record { first = refl; second = refl }))
      ∙ ap (λ xs. without_entries (next_cycle M K R) ∷ xs) before

  pub runs_alike : (n : ℕ) → HasRun M L n → HasRun M K n → HaveSameFacts (cycles_before M L n) (cycles_before M K n)
  runs_alike n run_l run_k = all_same n (run_due M L n run_l) (run_due M K n run_k)

  pub whole_reports_alike : IsRun M L M.cycles → IsRun M K M.cycles → report M L ≡ report M K
  unfolding report report_parts
  whole_reports_alike run_l run_k =
      let P : Past = cycles_before M L M.cycles in
      let R : Past = cycles_before M K M.cycles in
      ap text_of_parts
      (same_parts M P R
      (record {
        stops = run_l.unstopped ∙ sym run_k.unstopped;
        facts = ap (map without_entries) (told_whole P run_l.unstopped)
            ∙ runs_alike M.cycles (whole_run M L M.cycles run_l) (whole_run M K M.cycles run_k)
            ∙ sym (ap (map without_entries) (told_whole R run_k.unstopped));
      }))
