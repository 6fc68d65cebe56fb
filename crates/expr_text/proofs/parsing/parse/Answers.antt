use Rattle.expr_text.proofs.Verdicts.{exact}
use Rattle.expr_text.proofs.NamedInExpressions.{answer_fits}
use Rattle.expr_text.proofs.Parsed.{answer}
use Rattle.expr_text.proofs.parsing.parse.Goals as goal

pub returns-clause-exact : goal.returns-clause-exact
returns-clause-exact c = exact (record { blocks = c.args.blocks; width = c.args.width }) c.requires c.args.text.now
    c.read.result c.read.ensures

pub returns-clause-parsed : goal.returns-clause-parsed
returns-clause-parsed c =
    answer (record { blocks = c.args.blocks; width = c.args.width }) c.requires c.args.text.now c.read.result
    c.read.ensures

pub returns-clause-fits : goal.returns-clause-fits
returns-clause-fits c = answer_fits (record { blocks = c.args.blocks; width = c.args.width }) c.requires c.args.text.now
    c.read.result c.read.ensures
