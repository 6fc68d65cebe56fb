use Rattle.std.proofs.Common.{take, ap, ◌∙◌}
use Rattle.guards_model.specs.Channels.{place_or}
use Rattle.guards_model.specs.Texts.{LineValue}
use Rattle.told_cycles.proofs.counts.counts_told.Goals as goal

pub returns : goal.returns
returns c = λ q low. c.counts_in_use.ensures q low
    ∙ ap (λ (l : LineValue). place_or (take c.args.channels l.counts) q 0) c.line.view_is
