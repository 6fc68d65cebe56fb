use Rattle.std.proofs.Common.{rules, append_assoc}
use Rattle.script_text.specs.ScriptTexts.{lose_text}
use Rattle.script_text.proofs.lose_text.Goals as goal

pub returns : goal.returns
unfolding lose_text
returns c = simp append_assoc (search rules)
