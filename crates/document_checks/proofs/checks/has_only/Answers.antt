use Rattle.std.proofs.Common.{◌∙◌}
use Rattle.document_checks.proofs.Keys.{only_known}
use Rattle.document_checks.proofs.checks.has_only.Goals as goal

pub returns : goal.returns
returns c = c.each_known.ensures ∙ only_known c.args.known.now c.args.fields.now
