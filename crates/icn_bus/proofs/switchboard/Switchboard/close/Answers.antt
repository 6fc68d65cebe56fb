use Rattle.std.proofs.Common.{ap, ◌∙◌}
use Rattle.guards_model.specs.Channels.{ChannelSet}
use Rattle.guards_model.specs.Switchboard.{switched_on}
use Rattle.icn_bus.proofs.Switches.{kept_all}
use Rattle.icn_bus.proofs.switchboard.Switchboard.close.Goals as goal

pub returns-clause-new : goal.returns-clause-new
returns-clause-new c =
    c.kept-self-inside.ensures ∙ kept_all c.self.inside.on c.args.frames.now
    ∙ ap (λ (on : ChannelSet). switched_on on c.args.frames.now) c.self.view_is
