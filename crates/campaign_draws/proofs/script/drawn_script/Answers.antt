use Rattle.campaign_draws.proofs.script.drawn_script.Goals as goal

pub script_of-requires : goal.script_of-requires
script_of-requires c = (c.args.rates, c.args.draws.now, c.in_ok-entries.ensures.entries)

pub returns-clause-script : goal.returns-clause-script
returns-clause-script c = rw c.in_ok-entries.ensures.entries at c.script_of.ensures.made
