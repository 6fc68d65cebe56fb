use Rattle.std.proofs.Common.{Bool, false, List, slice_index_or, ap, ◌∙◌}
use Rattle.guards_model.specs.Channels.{channels_where}
use Rattle.guards_base.proofs.EachChannel.{set_of_table}
use Rattle.guards_base.proofs.each_channel.set_by.Goals as goal

pub returns : goal.returns
returns g c p says =
    c.of_flags.ensures ∙ ap (λ (flags : List Bool). channels_where (λ q. slice_index_or flags q false))
    (c.flags_by.ensures p says) ∙ set_of_table p
