use Rattle.std.proofs.Common.{◌≡◌, ◌∙◌, sym, subst, ap, rules, true, length}
use Rattle.guards_model.specs.Diagnosis.{Agreed}
use Rattle.guards_model.specs.Controls.{ControlValue, decided_by}
use Rattle.guards_nodes.specs.NodeStates.{ExchangeTreeValue, RunningValue}
use Rattle.guards_nodes.specs.NodeSteps.{agreed_from, IsDecision}
use Rattle.channel_node.specs.Trees.{IsTreeFor}
use Rattle.channel_node.specs.Fits.{tags_fit}
use Rattle.channel_node.proofs.RunningFits.{decided_fit}
use Rattle.channel_node.proofs.running.Running.decide.Goals as goal

pub invariant_of-self-2 : goal.invariant_of-self-2
invariant_of-self-2 c =
    let blocks : length c.self.inside.context ≡ c.args.rules.now.blocks = search rules in
    record {
      tags = subst (λ (k : ControlValue). tags_fit (length c.self.inside.context) k.sweeping ≡ true)
          (sym c.decide-decision.ensures.control)
          (decided_fit c.args.rules.now c.args.cycle (length c.self.inside.context) c.self.inside.control
          (decided_by c.args.rules.now c.args.cycle c.self.inside.control c.agreed-agreed.result) blocks
          c.self.invariant.tags);
      rest = c.self.invariant.rest;
      heard_codes = c.self.invariant.heard_codes;
      hearing_codes = c.self.invariant.hearing_codes;
    }

pub returns-clause-answer : goal.returns-clause-answer
returns-clause-answer c =
    λ received t there stands.
    let tree : c.unwrap-tree.result.now ≡ t = search rules in
    let told : c.agreed-agreed.result ≡ agreed_from received t =
    c.agreed-agreed.ensures.agreed received (subst (λ (x : ExchangeTreeValue). IsTreeFor received x) (sym tree) stands)
    ∙ ap (agreed_from received) tree in
    let d = c.decide-decision.result in
    subst
    (λ (a : Agreed). IsDecision c.args.rules.now c.args.cycle c.args.self.now.held.control a d.judged d.removed
    d.dropped d.started d.plan)
    told
    (subst
    (λ (x : RunningValue). IsDecision c.args.rules.now c.args.cycle x.held.control c.agreed-agreed.result d.judged
    d.removed d.dropped d.started d.plan)
    c.self.view_is
    (record {
      judged_are = c.decide-decision.ensures.judged;
      removed_are = c.decide-decision.ensures.removed;
      dropped_are = c.decide-decision.ensures.dropped;
      started_is = c.decide-decision.ensures.started;
      plan_is = c.decide-decision.ensures.plan;
    }))
