use Rattle.slot_traffic.proofs.CountedInRange.{counted_fits}
use Rattle.slot_traffic.proofs.traffic.Arrived.fits.Goals as goal

pub returns : goal.returns
returns c = rw (← c.self.view_is)
    (counted_fits c.self.inside.format c.self.inside.cycle c.self.inside.slot c.self.inside.parcels.items
    c.self.invariant)
