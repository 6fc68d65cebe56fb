use Rattle.std.proofs.Common.{sym}
use Rattle.std.proofs.lemmas.List.{take-map}
use Rattle.fault_script.specs.Entries.{fault_value}
use Rattle.campaign_draws.proofs.script.first_faults.Goals as goal

pub returns : goal.returns
returns c = rw (c.from_vec.ensures, c.truncate.ensures.items, c.into_vec-entries.ensures) (sym (take-map fault_value 1024 c.args.faults.items))
