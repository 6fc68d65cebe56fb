use Rattle.std.proofs.Common.{◌≤◌, ap, subst, sym, ◌∙◌}
use Rattle.guards_model.specs.Diagnosis.{counts_of}
use Rattle.guards_model.specs.Missions.{RulesValue}
use Rattle.told_cycles.proofs.OpenLemmas.{rules_parts}
use Rattle.told_cycles.proofs.counts.counts_by.Goals as goal

pub counts_after-requires : goal.counts_after-requires
counts_after-requires c =
    subst (λ (r : RulesValue). r.keep ≤ 65536) (sym c.rules.ensures)
    (rules_parts c.args.mission.now c.prove_mission.ensures).keep

pub returns : goal.returns
returns c =
    λ base same.
    c.counts_after.ensures base same
    ∙ ap (λ (r : RulesValue). counts_of r.law r.keep r.decrement c.args.active c.args.judged base) c.rules.ensures
