use Rattle.std.proofs.Common.{ap, ◌∙◌}
use Rattle.std.specs.Prelude.{nat_lt, nat_le}
use Rattle.guards_model.specs.Channels.{place_or, tolerated_faults}
use Rattle.guards_model.specs.Frames.{SourceValue}
use Rattle.control_state.proofs.WordsCounted.{count_told}
use Rattle.control_state.proofs.telling.enough_heard.Goals as goal

pub returns : goal.returns
returns c =
    ap (λ t. nat_lt t c.telling.result) c.tolerated.ensures
    ∙ ap (nat_lt (tolerated_faults c.args.active))
    (c.telling.ensures ∙ count_told (λ (w : SourceValue). nat_le c.args.code (place_or w.heard c.args.c 0))
    c.args.agreed.now)
