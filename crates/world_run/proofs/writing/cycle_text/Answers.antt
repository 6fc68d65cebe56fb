use Rattle.std.proofs.Common.{◌++◌, ◌∙◌, length, ap, sym}
use Rattle.world_run.specs.Running.{cycle_text, words_line}
use Rattle.world_run.proofs.writing.cycle_text.Goals as goal

pub push_words-requires-clause-fits : goal.push_words-requires-clause-fits
push_words-requires-clause-fits c = λ gate is. c.requires gate is ∙ ap length (sym c.outputs.ensures)

pub returns : goal.returns
unfolding cycle_text
returns c = c.in_ok-push_words.ensures ∙ ap (λ text. text ++ words_line c.args.actuator.now) c.in_ok-text.ensures
