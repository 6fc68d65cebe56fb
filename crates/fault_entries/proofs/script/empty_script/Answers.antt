use Rattle.fault_entries.proofs.FaultAnswers.{none_broken}
use Rattle.fault_entries.proofs.script.empty_script.Goals as goal

pub returns-clause-exact : goal.returns-clause-exact
returns-clause-exact c =
    let channels = c.args.sizes.channels in let cycles = c.args.sizes.cycles in let blocks = c.args.sizes.blocks in
    let given = rw c.new.ensures.items at c.kept_script.ensures.exact in
    rw (none_broken channels cycles blocks) at given
