use Rattle.std.proofs.Common.{rules, append_assoc}
use Rattle.script_text.specs.ScriptTexts.{crash_text}
use Rattle.script_text.proofs.crash_text.Goals as goal

pub returns : goal.returns
unfolding crash_text
returns c = simp append_assoc (search rules)
