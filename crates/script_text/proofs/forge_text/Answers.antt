use Rattle.std.proofs.Common.{rules, append_assoc}
use Rattle.script_text.specs.ScriptTexts.{forge_text}
use Rattle.script_text.proofs.forge_text.Goals as goal

pub returns : goal.returns
unfolding forge_text
returns c = simp append_assoc (search rules)
