use Rattle.std.proofs.Common.{◌∙◌, ap}
use Rattle.guards_model.specs.Channels.{channels_where}
use Rattle.slot_traffic.proofs.Charging.{charges}
use Rattle.slot_traffic.proofs.traffic.Traffic.charged.Goals as goal

pub returns : goal.returns
returns c = rw (← c.self.view_is)
    (c.charged_of.ensures c.self.inside.cycle c.self.inside.slot
    ∙ ap (λ xs. channels_where (charges c.self.inside.cycle c.self.inside.slot xs)) c.as_slice.ensures)
