use Rattle.std.proofs.Common.{refl, ap, ◌∙◌, arith}
use Rattle.std.proofs.lemmas.Result.{err_from_is_err_and}
use Rattle.guards_model.specs.Missions.{MissionValue}
use Rattle.guards_world.specs.Worlds.{WorldValue}
use Rattle.world_run.proofs.Tallies.{few_cycles}
use Rattle.campaign_facts.specs.Tallies.{TallyValue, tally_of}
use Rattle.campaign_run.proofs.Counts.{first_counted}
use Rattle.campaign_run.proofs.counting.count_cycles.Goals as goal

pub loop-cycle-init : goal.loop-cycle-init
unfolding tally_of
loop-cycle-init g c =
    let bus = g.B.Bus.seen c.args.bus.now in
    record {
      done = ap (λ (w : WorldValue). w.done) c.requires.world;
      kept = refl;
      count = ap (λ (t : TallyValue). t.cycles) c.requires.empty;
      at = first_counted g.B.Bus.may c.args.world.now.mission bus c.args.world.now c.args.tally.now c.requires.world c.requires.mission c.requires.loaded c.requires.empty;
    }

pub count_cycle-requires-clause-few : goal.count_cycle-requires-clause-few
count_cycle-requires-clause-few g c =
    let most = few_cycles c.args.world.now.mission c.requires.mission in
    let kept = ap (λ (m : MissionValue). m.cycles) c.loop-cycle.invariant.kept in
    let end = c.cycles-cycle-end.ensures ∙ ap (λ (m : MissionValue). m.cycles) c.mission-2.ensures in
    omega (arith, most, kept, end, c.loop-cycle-test.true, c.loop-cycle.invariant.count)

pub returns-in_err-count_cycle : goal.returns-in_err-count_cycle
returns-in_err-count_cycle g c =
    let p = err_from_is_err_and c.from_residual.result c.from_residual.ensures.1 in
    let start = g.B.Bus.seen c.args.bus.now in
    rw (p.1, p.2) (c.in_err-count_cycle.ensures.goes_on c.args.world.now.mission start c.loop-cycle.invariant.at)

pub loop-cycle-preserved : goal.loop-cycle-preserved
loop-cycle-preserved g c =
    let inv = c.loop-cycle.invariant in
    let M = c.args.world.now.mission in
    let start = g.B.Bus.seen c.args.bus.now in
    let next = c.in_ok-count_cycle.ensures.goes_on M start inv.at in
    record {
      done = omega (arith, next.1, inv.done);
      kept = next.0.2.mission;
      count = omega (arith, c.in_ok-count_cycle.ensures.counted, inv.count);
      at = next.0;
    }

pub returns : goal.returns
returns g c =
    let inv = c.loop-cycle.invariant in
    let kept = ap (λ (m : MissionValue). m.cycles) inv.kept in
    let end = c.cycles-cycle-end.ensures ∙ ap (λ (m : MissionValue). m.cycles) c.mission-2.ensures in
    (inv.at, omega (arith, kept, end, c.loop-cycle-test.false, inv.done, inv.at.2.stands.cycles))
