use Rattle.std.proofs.Common.{Err, refl, ap, subst, ◌∙◌, arith}
use Rattle.std.proofs.lemmas.Result.{err_from_is_err_and}
use Rattle.guards_model.specs.Missions.{MissionValue}
use Rattle.guards_world.specs.Worlds.{WorldValue}
use Rattle.guards_io.specs.Views.{SinkView}
use Rattle.world_run.specs.Tallying.{TalliesTo}
use Rattle.world_run.proofs.Tallies.{first_tallied}
use Rattle.world_run.proofs.summary.tally_cycles.Goals as goal

pub loop-cycle-init : goal.loop-cycle-init
loop-cycle-init g c =
    let done = ap (λ (w : WorldValue). w.done) c.requires.world in
    let bus = g.B.Bus.seen c.args.bus.now in
    record {
      done = done;
      kept = refl;
      joins = omega (arith, c.requires.joins);
      removals = omega (arith, c.requires.removals);
      at = first_tallied g.B.Bus.may c.args.world.now.mission bus c.args.world.now c.args.tally.now c.requires.world
          c.requires.mission c.requires.loaded c.requires.joins c.requires.removals c.requires.last;
      unwritten = refl;
    }

pub returns-in_err-tally_cycle : goal.returns-in_err-tally_cycle
returns-in_err-tally_cycle g c =
    let p = err_from_is_err_and c.from_residual.result c.from_residual.ensures.1 in
    let inv = c.loop-cycle.invariant in
    let M = c.args.world.now.mission in
    let start = g.B.Bus.seen c.args.bus.now in
    let after = g.B.Bus.seen c.tally_cycle.new.bus in
    let out' = g.K.Sink.seen c.tally_cycle.new.out in
    rw (p.1, p.2)
    (λ number. subst (λ (o : SinkView).
    TalliesTo g.B.Bus.may number M start o M.cycles c.tally_cycle.new.world after out' c.tally_cycle.new.tally
    (Err c.in_err-tally_cycle.field-0.0)) inv.unwritten
    (c.in_err-tally_cycle.ensures.goes_on number M start inv.at))

pub loop-cycle-preserved : goal.loop-cycle-preserved
loop-cycle-preserved g c =
    let inv = c.loop-cycle.invariant in
    let M = c.args.world.now.mission in
    let start = g.B.Bus.seen c.args.bus.now in
    let next = c.in_ok-tally_cycle.ensures.goes_on 0 M start inv.at in
    record {
      done = omega (arith, next.1, inv.done);
      kept = next.0.2.mission;
      joins = omega (arith, inv.joins, c.in_ok-tally_cycle.ensures.few_joins);
      removals = omega (arith, inv.removals, c.in_ok-tally_cycle.ensures.few_removals);
      at = next.0;
      unwritten = next.2 ∙ inv.unwritten;
    }

pub returns : goal.returns
returns g c =
    λ number.
    let inv = c.loop-cycle.invariant in
    let kept = ap (λ (m : MissionValue). m.cycles) inv.kept in
    let end = c.cycles-cycle-end.ensures ∙ ap (λ (m : MissionValue). m.cycles) c.mission-2.ensures in
    (inv.at, omega (arith, kept, end, c.loop-cycle-test.false, inv.done, inv.at.2.stands.cycles), inv.unwritten)
