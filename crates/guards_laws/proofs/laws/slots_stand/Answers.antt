use Rattle.guards_laws.proofs.SlotsStand.{slots_stand, stops_stand, facts_stand}
use Rattle.guards_laws.proofs.laws.slots_stand.Goals as goal

pub returns-clause-frames : goal.returns-clause-frames
returns-clause-frames c = slots_stand

pub returns-clause-stops : goal.returns-clause-stops
returns-clause-stops c = λ M entries new past slot late. stops_stand M entries new past slot late

pub returns-clause-facts : goal.returns-clause-facts
returns-clause-facts c = λ M entries new past slot late. facts_stand M entries new past slot late
