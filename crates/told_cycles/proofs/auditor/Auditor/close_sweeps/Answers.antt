use Rattle.guards_audit.specs.Told.{next_cycle_number}
use Rattle.told_cycles.proofs.EndLemmas.{closes, written_are}
use Rattle.told_cycles.proofs.auditor.Auditor.close_sweeps.Goals as goal

pub returns-clause-closed : goal.returns-clause-closed
returns-clause-closed c =
    λ told r h.
    closes c.args.mission.now told r c.args.self.now c.close.new.self c.as_slice.result.now
    c.distinct_blocks-written.result h c.as_slice.ensures.value
    (written_are c.args.mission.now (next_cycle_number told) c.args.self.now.done c.table.result.now
    c.distinct_blocks-written.result c.table.ensures h.knows.done c.distinct_blocks-written.ensures) c.close.ensures
