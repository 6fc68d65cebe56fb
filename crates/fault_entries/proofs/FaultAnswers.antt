-- What a fault of the script is answered as.
use Rattle.std.proofs.Common.{◌≡◌, ℕ, Bool, List, [], Err, refl, sym, subst, ap, inl, inr}
use Rattle.std.specs.Prelude.{Option, Some, None, MatchOption, map, ◌⊎◌}
use Rattle.guards_model.specs.Faults.{FaultValue}
use Rattle.guards_model.specs.ScriptFaults.{ScriptFaultValue, entry_fault, script_fault}
use Rattle.fault_script.specs.declared.script.ScriptFault.{ScriptFault}
use Rattle.fault_script.specs.declared.script.ScriptFault.TheVariants as faults
use Rattle.fault_script.specs.Entries.{Breaks, is_for_bus}
use Rattle.document_checks.specs.declared.why.Cause.{Cause}
use Rattle.document_checks.specs.declared.why.Cause.TheVariants.{OutOfRange}
use Rattle.document_checks.specs.declared.why.ReadFault.{ReadFault}
use Rattle.document_checks.specs.declared.why.ReadFault.TheVariants as answers
use Rattle.document_checks.specs.Checks.{Fails, Refuses, fails}
use Rattle.fault_entries.specs.Entries.{broken_rule}
use Rattle.fault_entries.specs.FaultTexts.{script_path, kept_script}

refuses_fails : (B : Type 0) (cause : Cause) (path : List ℕ) (answer : ReadFault) → Refuses cause path answer →
    Fails {B = B} answer (fails cause path)
refuses_fails B cause path answers.Memory refuses = tt
refuses_fails B cause path (answers.Bad why) refuses = ap Err (sym refuses)

broken_is : (fault : ScriptFault) (broken : Option ScriptFaultValue) → Breaks fault broken → broken ≡ broken_rule fault
broken_is faults.Memory broken breaks = absurd breaks
broken_is faults.TooMany broken breaks = breaks
broken_is (faults.Cycle at) broken breaks = breaks
broken_is (faults.Channel at) broken breaks = breaks
broken_is (faults.Block at) broken breaks = breaks
broken_is (faults.Word at) broken breaks = breaks
broken_is (faults.To at) broken breaks = breaks
broken_is (faults.Long at) broken breaks = breaks

module _ (path : List ℕ) (entries : List FaultValue) (flags : List Bool) (answer : ReadFault) where
  -- the answer is that memory ran out, or the refusal of a broken rule
  abbrev pub AnswersRule : Option ScriptFaultValue → Type 0
  AnswersRule rule = MatchOption rule (answer ≡ answers.Memory)
      (λ broken. Refuses OutOfRange (script_path path flags broken) answer)

  answered : flags ≡ map is_for_bus entries → (rule : Option ScriptFaultValue) → AnswersRule rule →
      Fails answer (kept_script path entries rule)
  answered same None is = rw is tt
  answered same (Some rule) refuses =
      refuses_fails (List FaultValue) OutOfRange (script_path path (map is_for_bus entries) rule) answer
      (subst (λ f. Refuses OutOfRange (script_path path f rule) answer) same refuses)

  pub refused_by : flags ≡ map is_for_bus entries → (fault : ScriptFault) (broken : Option ScriptFaultValue) →
      (fault ≡ faults.Memory) ⊎ Breaks fault broken → AnswersRule (broken_rule fault) →
      Fails answer (kept_script path entries broken)
  refused_by same fault broken (inl memory) is = let out : answer ≡ answers.Memory =
      subst (λ f. AnswersRule (broken_rule f)) memory is in rw out tt
  refused_by same fault broken (inr breaks) is =
      rw (broken_is fault broken breaks) (answered same (broken_rule fault) is)

-- a script without entries keeps its rules
pub none_broken : (channels cycles blocks : ℕ) → script_fault channels cycles blocks [] ≡ None
unfolding script_fault entry_fault
none_broken channels cycles blocks = refl
