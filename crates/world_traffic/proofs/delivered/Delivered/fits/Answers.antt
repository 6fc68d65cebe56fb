use Rattle.world_traffic.proofs.delivered.Delivered.fits.Goals as goal

pub returns : goal.returns
returns c = rw (← c.self.view_is) (λ j q body is. (c.self.inside.arrived.format.version, c.fits.ensures j q body is))
