use Rattle.channel_node.proofs.RunningFits.{set_code}
use Rattle.channel_node.proofs.running.with_code.Goals as goal

pub returns-clause-codes : goal.returns-clause-codes
returns-clause-codes c = set_code c.args.codes c.from.result c.args.code c.requires.codes c.requires.small
