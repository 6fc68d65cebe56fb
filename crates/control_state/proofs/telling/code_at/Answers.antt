use Rattle.std.proofs.Common.{ap, get_or, ◌∙◌}
use Rattle.control_state.proofs.WordsCounted.{number_at}
use Rattle.control_state.proofs.telling.code_at.Goals as goal

pub returns : goal.returns
returns c = ap (λ j. get_or c.args.heard.now j 0) (c.from.ensures ∙ c.index.ensures.number)
    ∙ number_at c.args.heard.now c.args.c
