use Rattle.guards_laws.proofs.ControlFacts.{controls_follow}
use Rattle.guards_laws.proofs.laws.controls_are_facts.Goals as goal

pub returns : goal.returns
returns c = controls_follow
