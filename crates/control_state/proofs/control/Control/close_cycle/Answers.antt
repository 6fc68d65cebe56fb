use Rattle.std.proofs.Common.{ap, ◌∙◌}
use Rattle.guards_model.specs.Missions.{RulesValue}
use Rattle.guards_model.specs.Controls.{ControlValue, control_closed, closed_by}
use Rattle.control_state.proofs.ControlClosed.{are_closed, joined1, start1, remaining1, rest1, swept1, control1}
use Rattle.control_state.proofs.Cycles.{stand_next}
use Rattle.control_state.proofs.control.Control.close_cycle.Goals as goal

pub returns-clause-control : goal.returns-clause-control
returns-clause-control c =
    let known = are_closed c.args.rules.now.last c.self.inside.active c.self.inside.fresh c.self.inside.alphas
    c.self.inside.transfer c.args.decision.now.removed c.args.decision.now.plan c.args.written.now
    c.close_transfer.new.transfer c.joined-joined.result c.rules.inside.last c.close_transfer.ensures
    (ap (λ (r : RulesValue). r.last) c.rules.view_is) c.joined-joined.ensures in
    control1 c.args.rules.now.last c.self.inside.active c.self.inside.fresh c.self.inside.alphas c.self.inside.transfer
    c.args.decision.now.removed c.args.decision.now.plan c.args.written.now c.close_transfer.new.transfer
    c.joined-joined.result known c.difference.result c.union-self-inside.result c.carry-self-inside.result
    c.take-transfer.result c.end_transfer-self-inside.result c.difference.ensures c.union-self-inside.ensures
    c.carry-self-inside.ensures c.take-transfer.ensures.value c.end_transfer-self-inside.ensures
    ∙ ap (λ (k : ControlValue).
    control_closed c.args.rules.now.last c.args.decision.now.removed c.args.decision.now.plan c.args.written.now k)
    c.self.view_is

pub returns-clause-joined : goal.returns-clause-joined
returns-clause-joined c =
    let known = are_closed c.args.rules.now.last c.self.inside.active c.self.inside.fresh c.self.inside.alphas
    c.self.inside.transfer c.args.decision.now.removed c.args.decision.now.plan c.args.written.now
    c.close_transfer.new.transfer c.joined-joined.result c.rules.inside.last c.close_transfer.ensures
    (ap (λ (r : RulesValue). r.last) c.rules.view_is) c.joined-joined.ensures in
    joined1 c.args.rules.now.last c.self.inside.active c.self.inside.fresh c.self.inside.alphas c.self.inside.transfer
    c.args.decision.now.removed c.args.decision.now.plan c.args.written.now c.close_transfer.new.transfer
    c.joined-joined.result known
    ∙ ap (λ (k : ControlValue). (closed_by c.args.rules.now.last c.args.decision.now.plan c.args.written.now k).joined)
    c.self.view_is

pub returns-clause-start : goal.returns-clause-start
returns-clause-start c =
    let known = are_closed c.args.rules.now.last c.self.inside.active c.self.inside.fresh c.self.inside.alphas
    c.self.inside.transfer c.args.decision.now.removed c.args.decision.now.plan c.args.written.now
    c.close_transfer.new.transfer c.joined-joined.result c.rules.inside.last c.close_transfer.ensures
    (ap (λ (r : RulesValue). r.last) c.rules.view_is) c.joined-joined.ensures in
    start1 c.args.rules.now.last c.self.inside.active c.self.inside.fresh c.self.inside.alphas c.self.inside.transfer
    c.args.decision.now.removed c.args.decision.now.plan c.args.written.now c.close_transfer.new.transfer
    c.joined-joined.result known c.start_if_joined.result c.start_if_joined.ensures
    ∙ ap (λ (k : ControlValue). (closed_by c.args.rules.now.last c.args.decision.now.plan c.args.written.now k).start)
    c.self.view_is

pub returns-clause-remaining : goal.returns-clause-remaining
returns-clause-remaining c =
    let known = are_closed c.args.rules.now.last c.self.inside.active c.self.inside.fresh c.self.inside.alphas
    c.self.inside.transfer c.args.decision.now.removed c.args.decision.now.plan c.args.written.now
    c.close_transfer.new.transfer c.joined-joined.result c.rules.inside.last c.close_transfer.ensures
    (ap (λ (r : RulesValue). r.last) c.rules.view_is) c.joined-joined.ensures in
    remaining1 c.args.rules.now.last c.self.inside.active c.self.inside.fresh c.self.inside.alphas
    c.self.inside.transfer c.args.decision.now.removed c.args.decision.now.plan c.args.written.now
    c.close_transfer.new.transfer c.joined-joined.result known c.remaining.result c.remaining.ensures
    ∙ ap (λ (k : ControlValue).
    (closed_by c.args.rules.now.last c.args.decision.now.plan c.args.written.now k).remaining) c.self.view_is

pub returns-clause-rest : goal.returns-clause-rest
returns-clause-rest c =
    let known = are_closed c.args.rules.now.last c.self.inside.active c.self.inside.fresh c.self.inside.alphas
    c.self.inside.transfer c.args.decision.now.removed c.args.decision.now.plan c.args.written.now
    c.close_transfer.new.transfer c.joined-joined.result c.rules.inside.last c.close_transfer.ensures
    (ap (λ (r : RulesValue). r.last) c.rules.view_is) c.joined-joined.ensures in
    rest1 c.args.rules.now.last c.self.inside.active c.self.inside.fresh c.self.inside.alphas c.self.inside.transfer
    c.args.decision.now.removed c.args.decision.now.plan c.args.written.now c.close_transfer.new.transfer
    c.joined-joined.result known c.rest.result c.rest.ensures
    ∙ ap (λ (k : ControlValue). (closed_by c.args.rules.now.last c.args.decision.now.plan c.args.written.now k).rest)
    c.self.view_is

pub returns-clause-cycles : goal.returns-clause-cycles
returns-clause-cycles c = λ s t cycles was is stands.
    let known = are_closed c.args.rules.now.last c.self.inside.active c.self.inside.fresh c.self.inside.alphas
    c.self.inside.transfer c.args.decision.now.removed c.args.decision.now.plan c.args.written.now
    c.close_transfer.new.transfer c.joined-joined.result c.rules.inside.last c.close_transfer.ensures
    (ap (λ (r : RulesValue). r.last) c.rules.view_is) c.joined-joined.ensures in
    let closed = swept1 c.args.rules.now.last c.self.inside.active c.self.inside.fresh c.self.inside.alphas
    c.self.inside.transfer c.args.decision.now.removed c.args.decision.now.plan c.args.written.now
    c.close_transfer.new.transfer c.joined-joined.result known c.take-transfer.result
    c.end_transfer-self-inside.result c.take-transfer.ensures.value c.end_transfer-self-inside.ensures in
    stand_next c.args.decision.now.plan c.args.written.now c.self.inside.transfer c.end_transfer-self-inside.result
    c.joined-joined.result s t cycles closed
    (ap (λ (k : ControlValue). k.sweeping) c.self.view_is ∙ was) is stands
