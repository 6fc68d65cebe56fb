-- The report of a run without faults with an actuator, part by part; and no output slot stops it.
use Rattle.std.proofs.Common.{◌≡◌, ℕ, zero, suc, ◌≤◌, Bool, true, false, not, ◌&&◌, ◌||◌, ◌==◌, List, [], ◌∷◌, ◌++◌, length, Option, None, Some, ℤ, refl, sym, ap, subst, ◌∙◌, arith, append-nil, append_assoc}
use Rattle.std.specs.Prelude.{bytes_eq, filter_map}
use Rattle.std.specs.List.{AllByRecursion, list_all, list_any}
use Rattle.std.proofs.lemmas.Grind.{flat_map-append}
use Rattle.std.proofs.lemmas.Slice.Eq.{bytes_eq-Decides}
use Rattle.guards_model.specs.declared.Slot.TheVariants.{Output}
use Rattle.guards_model.specs.Slots.{same_slot}
use Rattle.guards_model.specs.Channels.{Channel}
use Rattle.guards_model.specs.BusRules.{RuleValue}
use Rattle.guards_model.specs.Missions.{ActuatorValue, MissionValue, IsMission, bus_rule, bus_rules, output_words}
use Rattle.guards_model.specs.Faults.{FaultValue, crash, restart, damage, bus}
use Rattle.guards_model.specs.Network.{EntryValue, Log}
use Rattle.guards_model.specs.ScriptedBus.{IsScripted}
use Rattle.guards_model.specs.Texts.{Part, TextValue, cycle_part, done_line, head_line, out_line, part_text, text_of_parts}
use Rattle.guards_model.specs.Actuators.{words_towards}
use Rattle.guards_laws.proofs.DueEntries.{IsDueNow}
use Rattle.guards_laws.proofs.LogGrows.{length-cycles_before}
use Rattle.guards_laws.proofs.NoFaults.{calm_run, each_is_due}
use Rattle.guards_runs.specs.Cycles.{cycle_at, cycles_before, next_cycle}
use Rattle.guards_runs.specs.Disturbed.{differs_from}
use Rattle.guards_runs.specs.Faultless.{IsFaultless, HasDue, is_harmless}
use Rattle.guards_runs.specs.Outputs.{ideal_outputs, is_output_charge, words_after}
use Rattle.guards_runs.specs.Promises.{EachCycle}
use Rattle.guards_runs.specs.Report.{cycle_record}
use Rattle.guards_runs.specs.ActedReport.{acted_parts}
use Rattle.guards_runs.specs.IdealReport.{head, last, part}
use Rattle.script_laws.specs.ActedIdeal.{acted_parts_below, ideal_report_with, machine_words}
use Rattle.script_laws.proofs.IdealReports.{TellsIdeal, part_is, tells}

-- ---- no output entry is charged

no_rule : (script : List FaultValue) → list_all is_harmless script ≡ true → filter_map bus_rule script ≡ []
no_rule [] h = refl
no_rule (crash p d at ∷ script) h = absurd cc
no_rule (restart p d ∷ script) h = no_rule script h
no_rule (damage p d block word value ∷ script) h = absurd cc
no_rule (bus rule ∷ script) h = absurd cc

as_sent : (e : EntryValue) → IsScripted [] e → differs_from e.sent e.delivered ≡ false
as_sent e h = ap (differs_from e.sent) h ∙ ap not ((bytes_eq-Decides e.sent e.sent).1 refl)

off : (a : Bool) → (a && false) ≡ false
off a = grind arith

charged_none : (F : Log) (c : ℕ) (q : Channel) → AllByRecursion (IsScripted []) F →
    list_any (is_output_charge c q) F ≡ false
charged_none [] c q h = refl
charged_none (y ∷ F) c q h =
    let fine : is_output_charge c q y ≡ false =
    ap (λ b. ((y.cycle == c && same_slot y.slot Output) && y.from == q) && b) (as_sent y h.0)
    ∙ off ((y.cycle == c && same_slot y.slot Output) && y.from == q) in
    ap (λ b. b || list_any (is_output_charge c q) F) fine ∙ charged_none F c q h.1

pub none_charged : (M : MissionValue) (F : Log) (c : ℕ) (q : Channel) → list_all is_harmless M.script ≡ true →
    AllByRecursion (IsScripted (bus_rules M)) F → list_any (is_output_charge c q) F ≡ false
none_charged M F c q harmless scripted =
    charged_none F c q (subst (λ (rules : List RuleValue). AllByRecursion (IsScripted rules) F)
    (no_rule M.script harmless) scripted)

-- ---- the text

-- a part with a line behind it
part_and_line : (p : Part) (line : TextValue) → part_text (p ++ line ∷ []) ≡ part_text p ++ line
part_and_line [] line = append-nil line
part_and_line (x ∷ p) line = ap (λ text. x ++ text) (part_and_line p line) ∙ sym (append_assoc x (part_text p) line)

module _ (M : MissionValue) (a : ActuatorValue) (F L : Log) (mission : IsMission M) (faultless : IsFaultless M L)
    (words : (c : ℕ) → c ≤ M.cycles → words_after M a F c ≡ ideal_outputs M a.steps a.start L c) where
  -- the words are those of the machine
  machine : (n : ℕ) → n ≤ M.cycles → EachCycle (IsDueNow M) (cycles_before M L n) →
      ideal_outputs M a.steps a.start L n ≡ machine_words M a n
  machine zero early due = refl
  machine (suc n) early due =
      let told : TellsIdeal M L mission faultless (suc n) = tells M L mission faultless (suc n) early due in
      ap (λ last. words_towards a.steps last (output_words M (cycle_at M L n).ideal_context))
      (machine n (omega (arith, early)) due.1)
      ∙ ap (λ ctx. words_towards a.steps (machine_words M a n) (output_words M ctx)) told.context

  acted_tells : (n : ℕ) → n ≤ M.cycles → EachCycle (IsDueNow M) (cycles_before M L n) →
      text_of_parts (acted_parts false M a F [] (cycles_before M L n)) ≡ acted_parts_below M a n
  acted_tells zero early due = refl
  acted_tells (suc n) early due =
      let past = cycles_before M L n in
      let run = calm_run M L mission faultless n (omega (arith, early)) due.1 in
      let before : TellsIdeal M L mission faultless n = tells M L mission faultless n (omega (arith, early)) due.1 in
      let bare : Part = cycle_part false (cycle_record M [] (length past) (next_cycle M L past)) in
      let line = out_line (words_after M a F (suc (length past))) in
      let these : words_after M a F (suc (length past)) ≡ machine_words M a (suc n) =
      ap (λ k. words_after M a F (suc k)) (length-cycles_before M L n) ∙ words (suc n) early
      ∙ machine (suc n) early due in
      flat_map-append part_text (acted_parts false M a F [] past) ((bare ++ line ∷ []) ∷ [])
      ∙ ap (λ front. front ++ (part_text (bare ++ line ∷ []) ++ [])) (acted_tells n (omega (arith, early)) due.1)
      ∙ ap (λ text. acted_parts_below M a n ++ text)
      (append-nil (part_text (bare ++ line ∷ [])) ∙ part_and_line bare line
      ∙ ap (λ text. text ++ line) (part_is M L mission faultless n run due.0 early before.context)
      ∙ ap (λ (ws : List ℤ). part M n ++ out_line ws) these)

  pub whole_is : HasDue M L M.cycles →
      text_of_parts ((head_line M.rules.channels M.cycles ∷ [])
      ∷ acted_parts false M a F [] (cycles_before M L M.cycles)) ++ done_line M.cycles ≡ ideal_report_with (Some a) M
  unfolding head last
  whole_is due =
      let first = head_line M.rules.channels M.cycles in
      let done = done_line M.cycles in
      let each = each_is_due M L M.cycles due in
      ap (λ text. ((first ++ []) ++ text) ++ done) (acted_tells M.cycles (omega arith) each)
      ∙ ap (λ text. (text ++ acted_parts_below M a M.cycles) ++ done) (append-nil first)
