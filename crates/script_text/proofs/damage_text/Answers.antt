use Rattle.std.proofs.Common.{rules, append_assoc}
use Rattle.script_text.specs.ScriptTexts.{damage_text}
use Rattle.script_text.proofs.damage_text.Goals as goal

pub returns : goal.returns
unfolding damage_text
returns c = simp append_assoc (search rules)
