use Rattle.std.proofs.Common.{◌∙◌}
use Rattle.guards_model.specs.Controls.{closed_by}
use Rattle.guards_nodes.specs.NodeSteps.{plan_in}
use Rattle.channel_node.specs.Closing.{closed_value}
use Rattle.channel_node.proofs.Written.{after_close_alike, answer_alike, answered}
use Rattle.channel_node.proofs.running.Running.close_cycle.Goals as goal

pub returns-clause-state : goal.returns-clause-state
returns-clause-state c =
    λ d ws had set.
    c.close_by.ensures.state d had
    ∙ after_close_alike c.args.rules.now ws c.args.written.now d c.args.self.now set c.close_by.ensures.few
    c.close_by.ensures.tags

pub returns-clause-answer : goal.returns-clause-answer
returns-clause-answer c =
    λ ws set.
    let r = c.args.self.now in
    answered (closed_value c.close_by.result)
    (closed_by c.args.rules.now.last (plan_in c.args.rules.now c.args.self.now.held) c.args.written.now
    c.args.self.now.held.control)
    c.close_by.ensures.joined c.close_by.ensures.start c.close_by.ensures.remaining c.close_by.ensures.rest
    ∙ answer_alike c.args.rules.now.last (plan_in c.args.rules.now c.args.self.now.held) ws c.args.written.now _
    c.args.self.now.held.control set c.close_by.ensures.few c.close_by.ensures.tags
