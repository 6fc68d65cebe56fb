use Rattle.std.proofs.Common.{◌∙◌, ap, sym, ◌++◌, [], ◌∷◌, filter_map, filter, not}
use Rattle.guards_model.specs.Faults.{FaultValue}
use Rattle.guards_model.specs.Missions.{bus_rule}
use Rattle.fault_script.specs.Entries.{fault_value, is_for_bus}
use Rattle.fault_script.proofs.ScriptEntries.{one_more_rule, one_more_other}
use Rattle.fault_script.proofs.script.parted.Goals as goal

pub loop-entry-preserved : goal.loop-entry-preserved
loop-entry-preserved c = (
  c.in_ok-part.ensures.rules
      ∙ (ap (λ xs. xs ++ filter_map bus_rule (fault_value c.in-Some.entry ∷ [])) c.loop-entry.invariant.0
      ∙ sym (one_more_rule c.loop-entry.yielded c.in-Some.entry)),
  c.in_ok-part.ensures.others
      ∙ (ap (λ xs. xs ++ filter (λ (e : FaultValue). not (is_for_bus e)) (fault_value c.in-Some.entry ∷ []))
      c.loop-entry.invariant.1 ∙ sym (one_more_other c.loop-entry.yielded c.in-Some.entry)),
)
