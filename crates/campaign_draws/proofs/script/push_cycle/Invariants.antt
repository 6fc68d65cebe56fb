use Rattle.std.proofs.Common.{◌≡◌, ◌-◌, ◌++◌, map}
use Rattle.fault_script.specs.Entries.{fault_value}
use Rattle.campaign_draws.specs.Drawing.{after_channels, channels_faults}
use Rattle.campaign_draws.proofs.script.push_cycle.Given as goal

-- the faults of the channels to come are those behind the ones that were pushed
abbrev pub invariant-loop-number : goal.invariant-loop-number
invariant-loop-number l =
    (map fault_value l.faults.items ++ channels_faults l.sizes l.rates l.cycle (l.sizes.channels - l.number) l.number l.draws
    ≡ map fault_value l.initial.faults.items ++ channels_faults l.sizes l.rates l.cycle l.sizes.channels 0 l.initial.draws)
    × (after_channels l.sizes l.rates (l.sizes.channels - l.number) l.draws ≡ after_channels l.sizes l.rates l.sizes.channels l.initial.draws)
