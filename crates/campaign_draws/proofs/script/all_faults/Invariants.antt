use Rattle.std.proofs.Common.{◌≡◌, ◌-◌, ◌++◌, map}
use Rattle.fault_script.specs.Entries.{fault_value}
use Rattle.campaign_draws.specs.Drawing.{after_cycles, cycles_faults}
use Rattle.campaign_draws.proofs.script.all_faults.Given as goal

-- the faults of the cycles to come are those behind the ones that were pushed
abbrev pub invariant-loop-cycle : goal.invariant-loop-cycle
invariant-loop-cycle l =
    (map fault_value l.faults.items ++ cycles_faults l.sizes l.rates (l.sizes.cycles - l.cycle) l.cycle l.draws
    ≡ cycles_faults l.sizes l.rates l.sizes.cycles 0 l.initial.draws)
    × (after_cycles l.sizes l.rates (l.sizes.cycles - l.cycle) l.draws ≡ after_cycles l.sizes l.rates l.sizes.cycles l.initial.draws)
