use Rattle.std.proofs.Common.{ap, ◌∙◌, false}
use Rattle.std.specs.Prelude.{slice_index_or}
use Rattle.guards_model.specs.Channels.{set_of_mask}
use Rattle.guards_base.specs.Flags.{set_where}
use Rattle.guards_base.proofs.channel.ChanSet.of_flags.Goals as goal

pub returns-in-Some : goal.returns-in-Some
returns-in-Some c = c.in-Some.ensures.1 ∙ ap set_of_mask c.mask_of.ensures.value
    ∙ set_where (λ q. slice_index_or c.args.flags.now q false)
