use Rattle.std.proofs.Common.{rules, append_assoc}
use Rattle.script_text.specs.ScriptTexts.{restart_text}
use Rattle.script_text.proofs.restart_text.Goals as goal

pub returns : goal.returns
unfolding restart_text
returns c = simp append_assoc (search rules)
