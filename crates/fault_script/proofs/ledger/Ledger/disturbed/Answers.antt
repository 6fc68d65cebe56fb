use Rattle.std.proofs.Common.{ap, ◌∙◌}
use Rattle.guards_model.specs.Ledgers.{disturbed_by}
use Rattle.fault_script.proofs.ledger.Ledger.disturbed.Goals as goal

pub returns : goal.returns
returns c = c.who_is_disturbed.ensures ∙ ap (disturbed_by c.args.active c.args.charged) c.self.view_is
