use Rattle.std.proofs.Common.{ap, ◌∙◌}
use Rattle.std.specs.Prelude.{nat_lt}
use Rattle.guards_model.specs.Channels.{has, tolerated_faults}
use Rattle.guards_model.specs.Frames.{SourceValue}
use Rattle.control_state.specs.Telling.{is_accused}
use Rattle.control_state.proofs.WordsCounted.{count_told}
use Rattle.control_state.proofs.telling.enough_accuse.Goals as goal

pub returns : goal.returns
unfolding is_accused
returns c =
    ap (λ t. nat_lt t c.accusing.result) c.tolerated.ensures
    ∙ ap (nat_lt (tolerated_faults c.args.active))
    (c.accusing.ensures ∙ count_told (λ (w : SourceValue). has w.accuse c.args.c) c.args.agreed.now)
