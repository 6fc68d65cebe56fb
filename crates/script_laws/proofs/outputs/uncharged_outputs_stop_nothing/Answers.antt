use Rattle.script_laws.proofs.OutputCharges.{uncharged_stop}
use Rattle.script_laws.proofs.outputs.uncharged_outputs_stop_nothing.Goals as goal

pub returns : goal.returns
returns c = uncharged_stop
