use Rattle.std.proofs.Common.{ap, sym, ◌∙◌, arith}
use Rattle.std.proofs.lemmas.Result.{err_from_is_err_and}
use Rattle.guards_model.specs.Missions.{MissionValue}
use Rattle.world_run.proofs.RunSteps.{at_mission, at_cycles}
use Rattle.world_run.proofs.running.run_cycles.Goals as goal

pub run_cycle-requires-clause-below : goal.run_cycle-requires-clause-below
run_cycle-requires-clause-below g c =
    let inv = c.loop-cycle.invariant in
    let kept = ap (λ (m : MissionValue). m.cycles) inv.kept in
    let end = c.cycles-cycle-end.ensures ∙ ap (λ (m : MissionValue). m.cycles) c.mission.ensures in
    omega (arith, kept, end, c.loop-cycle-test.true, inv.done)

pub returns-in_err-run_cycle : goal.returns-in_err-run_cycle
returns-in_err-run_cycle g c =
    let p = err_from_is_err_and c.from_residual.result c.from_residual.ensures.1 in
    rw (p.1, p.2) (λ o M start begun at.
    c.in_err-run_cycle.ensures o M start begun (c.loop-cycle.invariant.each o M start begun at))

pub loop-cycle-preserved : goal.loop-cycle-preserved
loop-cycle-preserved g c =
    let inv = c.loop-cycle.invariant in
    let (o, M, start, begun, at) = inv.some in
    let next = c.in_ok-run_cycle.ensures o M start begun at in
    record {
      done = omega (arith, next.1, inv.done);
      kept = at_mission _ _ _ o _ _ _ _ _ _ next.0 ∙ sym (at_mission _ _ _ o _ _ _ _ _ _ at) ∙ inv.kept;
      some = (o, M, start, begun, next.0);
      each = λ o M start begun before. (c.in_ok-run_cycle.ensures o M start begun (inv.each o M start begun before)).0;
    }

pub returns : goal.returns
returns g c =
    λ o M start begun before.
    let inv = c.loop-cycle.invariant in
    let at = inv.each o M start begun before in
    let own = ap (λ (m : MissionValue). m.cycles) (at_mission _ _ _ o _ _ _ _ _ _ at) in
    let kept = ap (λ (m : MissionValue). m.cycles) inv.kept in
    let end = c.cycles-cycle-end.ensures ∙ ap (λ (m : MissionValue). m.cycles) c.mission.ensures in
    (at, omega (arith, own, kept, end, c.loop-cycle-test.false, inv.done, at_cycles _ _ _ o _ _ _ _ _ _ at))
