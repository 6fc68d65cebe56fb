use Rattle.std.proofs.Common.{◌∙◌, rules}
use Rattle.command_line.proofs.DigitsRead.{no_number, number_read}
use Rattle.campaign_call.proofs.request.number_of.Goals as goal

pub returns-then-is_number : goal.returns-then-is_number
returns-then-is_number c = c.ok.ensures.value ∙ number_read c.args.text.now c.parse.result (search rules) c.parse.ensures.value.0

pub returns-else-is_number : goal.returns-else-is_number
returns-else-is_number c = no_number c.args.text.now (search rules)
