use Rattle.std.proofs.Common.{ap, ◌∙◌}
use Rattle.guards_model.specs.Missions.{RulesValue}
use Rattle.guards_model.specs.Decisions.{has_started}
use Rattle.guards_model.specs.Controls.{ControlValue, decided_by, control_decided}
use Rattle.control_state.proofs.Decides.{d0, judged0, counts0, removed0, transfer0, control0, started0, planned0, begins0, keeps0, plan_stands}
use Rattle.control_state.proofs.control.Control.decide.Goals as goal

pub returns-clause-judged : goal.returns-clause-judged
returns-clause-judged c =
    judged0 c.args.rules.now c.args.cycle c.self.inside.active c.self.inside.fresh c.self.inside.alphas
    c.self.inside.transfer c.args.agreed.now c.judge-judged.result c.judge-judged.ensures
    ∙ ap (λ (k : ControlValue). (decided_by c.args.rules.now c.args.cycle k c.args.agreed.now).judged) c.self.view_is

pub returns-clause-removed : goal.returns-clause-removed
returns-clause-removed c =
    let R = c.args.rules.now in
    let counted = counts0 R c.args.cycle c.self.inside.active c.self.inside.fresh c.self.inside.alphas
    c.self.inside.transfer c.args.agreed.now c.judge-judged.result c.count-self-inside.result c.judge-judged.ensures
    c.count-self-inside.ensures in
    removed0 R c.args.cycle c.self.inside.active c.self.inside.fresh c.self.inside.alphas c.self.inside.transfer
    c.args.agreed.now c.count-self-inside.result c.rules.inside.threshold c.remove-removed.result
    counted (ap (λ (r : RulesValue). r.threshold) c.rules.view_is) c.remove-removed.ensures
    ∙ ap (λ (k : ControlValue). (decided_by R c.args.cycle k c.args.agreed.now).removed) c.self.view_is

pub returns-clause-control : goal.returns-clause-control
returns-clause-control c =
    let R = c.args.rules.now in
    let counted = counts0 R c.args.cycle c.self.inside.active c.self.inside.fresh c.self.inside.alphas
    c.self.inside.transfer c.args.agreed.now c.judge-judged.result c.count-self-inside.result c.judge-judged.ensures
    c.count-self-inside.ensures in
    let moved = transfer0 R c.args.cycle c.self.inside.active c.self.inside.fresh c.self.inside.alphas
    c.self.inside.transfer c.args.agreed.now c.take-running.result c.decide_transfer-self-inside.result
    c.take-running.ensures.value c.decide_transfer-self-inside.ensures in
    control0 R c.args.cycle c.self.inside.active c.self.inside.fresh c.self.inside.alphas c.self.inside.transfer
    c.args.agreed.now c.count-self-inside.result c.decide_transfer-self-inside.result counted moved
    ∙ ap (λ (k : ControlValue). control_decided R c.args.cycle k (decided_by R c.args.cycle k c.args.agreed.now))
    c.self.view_is

pub returns-clause-started : goal.returns-clause-started
returns-clause-started c =
    let R = c.args.rules.now in
    let moved = transfer0 R c.args.cycle c.self.inside.active c.self.inside.fresh c.self.inside.alphas
    c.self.inside.transfer c.args.agreed.now c.take-running.result c.decide_transfer-self-inside.result
    c.take-running.ensures.value c.decide_transfer-self-inside.ensures in
    started0 R c.args.cycle c.self.inside.active c.self.inside.fresh c.self.inside.alphas c.self.inside.transfer
    c.args.agreed.now c.decide_transfer-self-inside.result c.started.result moved c.started.ensures
    ∙ ap (λ (k : ControlValue). has_started c.args.cycle (decided_by R c.args.cycle k c.args.agreed.now).transfer)
    c.self.view_is

pub returns-clause-plan : goal.returns-clause-plan
returns-clause-plan c =
    let R = c.args.rules.now in
    let moved = transfer0 R c.args.cycle c.self.inside.active c.self.inside.fresh c.self.inside.alphas
    c.self.inside.transfer c.args.agreed.now c.take-running.result c.decide_transfer-self-inside.result
    c.take-running.ensures.value c.decide_transfer-self-inside.ensures in
    planned0 R c.args.cycle c.self.inside.active c.self.inside.fresh c.self.inside.alphas c.self.inside.transfer
    c.args.agreed.now c.decide_transfer-self-inside.result c.rules.inside.sweep c.plan.result
    moved (ap (λ (r : RulesValue). r.sweep) c.rules.view_is) c.plan.ensures
    ∙ ap (λ (k : ControlValue). (decided_by R c.args.cycle k c.args.agreed.now).planned) c.self.view_is

pub returns-clause-begins : goal.returns-clause-begins
returns-clause-begins c = λ s is now.
    let R = c.args.rules.now in
    begins0 R.blocks c.args.cycle c.self.inside.transfer
    (d0 R c.args.cycle c.self.inside.active c.self.inside.fresh c.self.inside.alphas c.self.inside.transfer
    c.args.agreed.now).transfer c.decide_transfer-self-inside.result s
    (transfer0 R c.args.cycle c.self.inside.active c.self.inside.fresh c.self.inside.alphas c.self.inside.transfer
    c.args.agreed.now c.take-running.result c.decide_transfer-self-inside.result c.take-running.ensures.value
    c.decide_transfer-self-inside.ensures) is now

pub returns-clause-keeps : goal.returns-clause-keeps
returns-clause-keeps c = λ s t was is later.
    let R = c.args.rules.now in
    keeps0 R.blocks c.args.cycle c.self.inside.transfer
    (d0 R c.args.cycle c.self.inside.active c.self.inside.fresh c.self.inside.alphas c.self.inside.transfer
    c.args.agreed.now).transfer c.decide_transfer-self-inside.result s t
    (transfer0 R c.args.cycle c.self.inside.active c.self.inside.fresh c.self.inside.alphas c.self.inside.transfer
    c.args.agreed.now c.take-running.result c.decide_transfer-self-inside.result c.take-running.ensures.value
    c.decide_transfer-self-inside.ensures)
    (ap (λ (k : ControlValue). k.sweeping) c.self.view_is ∙ was) is later

pub returns-clause-cycles : goal.returns-clause-cycles
returns-clause-cycles c = λ s cycles is stands.
    plan_stands c.decide_transfer-self-inside.result c.args.rules.now.sweep c.rules.inside.sweep c.plan.result s cycles
    c.plan.ensures (ap (λ (r : RulesValue). r.sweep) c.rules.view_is) is stands
