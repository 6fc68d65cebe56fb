use Rattle.fault_script.proofs.EntryFaults.{entry_kept, entries_end, entry_breaks}
use Rattle.fault_script.proofs.script.broken_entry.Goals as goal

pub returns-in-Some : goal.returns-in-Some
returns-in-Some c =
    entry_breaks c.args.sizes.channels c.args.sizes.cycles c.args.sizes.blocks c.loop-at.at c.args.entries.now _
    c.index-entries-at.result c.index-entries-at.is c.loop-at-test.true c.in-Some.fault c.in-Some.ensures
    c.loop-at.invariant

pub loop-at-preserved : goal.loop-at-preserved
loop-at-preserved c =
    entry_kept c.args.sizes.channels c.args.sizes.cycles c.args.sizes.blocks c.loop-at.at c.args.entries.now _
    c.index-entries-at.result c.index-entries-at.is c.loop-at-test.true c.in_default.ensures c.loop-at.invariant

pub returns : goal.returns
returns c = entries_end c.args.sizes.channels c.args.sizes.cycles c.args.sizes.blocks c.loop-at.at c.args.entries.now _
    c.loop-at-test.false c.loop-at.invariant
