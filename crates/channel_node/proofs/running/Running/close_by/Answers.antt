use Rattle.std.proofs.Common.{◌≡◌, sym, subst, refl, true, length, Some, rules}
use Rattle.guards_model.specs.Controls.{ControlValue, ClosedValue, closed_by}
use Rattle.channel_node.specs.Fits.{tags_fit, rest_fits}
use Rattle.channel_node.proofs.RunningFits.{closed_fit, closed_rest}
use Rattle.channel_node.proofs.running.Running.close_by.Goals as goal

pub invariant_of-self : goal.invariant_of-self
invariant_of-self c =
    let closed : c.of.result ≡ closed_by c.args.rules.now.last c.plan-plan.result c.args.written.now
    c.self.inside.control = search rules in
    record {
      tags = subst (λ (k : ControlValue). tags_fit (length c.self.inside.context) k.sweeping ≡ true)
          (sym c.close_cycle-closed.ensures.control)
          (closed_fit c.args.rules.now.last c.decided.inside.removed c.plan-plan.result c.args.written.now
          (length c.self.inside.context) c.self.inside.control c.self.invariant.tags);
      rest = subst (λ (x : ClosedValue). rest_fits (length c.self.inside.context) (Some x) ≡ true) (sym closed)
          (closed_rest c.args.rules.now.last c.plan-plan.result c.args.written.now (length c.self.inside.context)
          c.self.inside.control c.self.invariant.tags);
      heard_codes = c.self.invariant.hearing_codes;
      hearing_codes = refl;
    }
