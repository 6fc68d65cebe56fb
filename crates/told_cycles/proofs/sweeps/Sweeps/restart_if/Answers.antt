use Rattle.std.proofs.Common.{cond, [], subst, sym}
use Rattle.told_cycles.specs.Sweeping.{SweepsFor}
use Rattle.told_cycles.proofs.sweeps.Sweeps.restart_if.Goals as goal

pub returns-then-starts : goal.returns-then-starts
returns-then-starts c =
    λ blocks next cycles h.
    subst (λ s. SweepsFor blocks next (cond s [] cycles) c.restart.new.self) (sym c.if-starts.true)
    (c.restart.ensures blocks next next cycles h)
