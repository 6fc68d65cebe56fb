use Rattle.std.proofs.Common.{◌≡◌, ◌∙◌, List, ap, subst}
use Rattle.guards_model.specs.Faults.{FaultValue}
use Rattle.guards_model.specs.Missions.{MissionValue}
use Rattle.guards_world.specs.WorldCycle.{PassesCycle}
use Rattle.world_laws.specs.Fronts.{CarriesUpToStop}
use Rattle.icn_world.specs.Halts.{with_halt_value}
use Rattle.campaign_facts.specs.Tallies.{next_tally, TallyValue}
use Rattle.campaign_facts.specs.Facts.{FactsValue, facts_of_record}
use Rattle.campaign_run.proofs.Counts.{count_done, count_halted}
use Rattle.campaign_run.proofs.counting.count_cycle.Goals as goal

pub returns-in-Ok-clause-counted : goal.returns-in-Ok-clause-counted
unfolding next_tally
returns-in-Ok-clause-counted g c = ap (λ (t : TallyValue). t.cycles) c.note.ensures

pub returns-in-Ok-clause-goes_on : goal.returns-in-Ok-clause-goes_on
returns-in-Ok-clause-goes_on g c =
    λ M start at.
    let w = c.args.world.now in
    let new = c.cycle.new.self in
    let bus = g.B.Bus.seen c.args.bus.now in
    let after = g.B.Bus.seen c.cycle.new.bus in
    let cycled = subst (λ r. PassesCycle g.B.Bus.may w.spent w bus (with_halt_value r) new after) c.in-Ok.is c.cycle.ensures.passes in
    let noted : c.note.new.self ≡ next_tally new.mission.script (facts_of_record c.in-Ok.part) c.args.tally.now =
    c.note.ensures ∙ ap (λ (f : FactsValue). next_tally c.script.result.now f c.args.tally.now) c.of.ensures
    ∙ ap (λ (s : List FaultValue). next_tally s (facts_of_record c.in-Ok.part) c.args.tally.now) (c.script.ensures ∙ ap (λ (m : MissionValue). m.script) c.mission.ensures) in
    count_done g.B.Bus.may M start w new bus after c.args.tally.now c.note.new.self at c.requires.may.below c.in-Ok.part cycled noted

pub returns-in-Err-clause-goes_on : goal.returns-in-Err-clause-goes_on
returns-in-Err-clause-goes_on g c =
    λ M start at.
    let w = c.args.world.now in
    let new = c.cycle.new.self in
    let bus = g.B.Bus.seen c.args.bus.now in
    let after = g.B.Bus.seen c.cycle.new.bus in
    let cycled = subst (λ r. PassesCycle g.B.Bus.may w.spent w bus (with_halt_value r) new after) c.in-Err.is c.cycle.ensures.passes in
    let no_further = subst (λ r. CarriesUpToStop w bus (with_halt_value r) after) c.in-Err.is c.cycle.ensures.up_to_stop in
    count_halted g.B.Bus.may M start w new bus after c.args.tally.now c.args.tally.now at c.requires.may.below c.in-Err.halt cycled no_further
