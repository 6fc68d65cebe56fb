use Rattle.std.proofs.Common.{List, [], ℕ, refl, sym, ap, subst, ◌∙◌, arith}
use Rattle.std.proofs.lemmas.Result.{err_from_is_err_and}
use Rattle.flight_log.specs.Kept.{kept}
use Rattle.guards_model.specs.Missions.{MissionValue}
use Rattle.guards_world.specs.Worlds.{WorldValue, first_world}
use Rattle.run_laws.specs.Driving.{IsDriven}
use Rattle.run_laws.proofs.Driving.{mission_begins}
use Rattle.world_run.proofs.Keepings.{first_kept, kept_mission, kept_cycles}
use Rattle.world_run.proofs.keeping.keep_cycles.Goals as goal

pub loop-cycle-init : goal.loop-cycle-init
loop-cycle-init g c =
    let w = c.args.world.now in
    let M = w.mission in
    let log = c.args.log.now in
    let bus = g.B.Bus.seen c.args.bus.now in
    let first = subst (λ x. IsDriven M.actuator g.B.Bus.may M bus (first_world M) bus x [] []) (sym c.requires.gate)
    (mission_begins g.B.Bus.may M bus c.requires.mission c.requires.loaded) in
    record {
      done = ap (λ (w : WorldValue). w.done) c.requires.world;
      kept = refl;
      at = first_kept g.B.Bus.may log.room c.args.trace M M.actuator bus w c.args.actuator.now log c.requires.world
          first (ap (λ (ps : List (List ℕ)). kept ps log.room) c.requires.empty);
    }

pub keep_cycle-requires-clause-below : goal.keep_cycle-requires-clause-below
keep_cycle-requires-clause-below g c =
    let inv = c.loop-cycle.invariant in
    let kept = ap (λ (m : MissionValue). m.cycles) inv.kept in
    let end = c.cycles-cycle-end.ensures ∙ ap (λ (m : MissionValue). m.cycles) c.mission.ensures in
    omega (arith, kept, end, c.loop-cycle-test.true, inv.done)

pub keep_cycle-requires-clause-at : goal.keep_cycle-requires-clause-at
keep_cycle-requires-clause-at g c κs within =
    let M = c.args.world.now.mission in
    let start = g.B.Bus.seen c.args.bus.now in
    (c.args.log.now.room, M.actuator, M, start, c.loop-cycle.invariant.at)

pub returns-in_err-keep_cycle : goal.returns-in_err-keep_cycle
returns-in_err-keep_cycle g c =
    let p = err_from_is_err_and c.from_residual.result c.from_residual.ensures.1 in
    let M = c.args.world.now.mission in
    let start = g.B.Bus.seen c.args.bus.now in
    rw (p.1, p.2) (c.in_err-keep_cycle.ensures c.args.log.now.room M.actuator M start c.loop-cycle.invariant.at)

pub loop-cycle-preserved : goal.loop-cycle-preserved
loop-cycle-preserved g c =
    let inv = c.loop-cycle.invariant in
    let M = c.args.world.now.mission in
    let start = g.B.Bus.seen c.args.bus.now in
    let next = c.in_ok-keep_cycle.ensures c.args.log.now.room M.actuator M start inv.at in
    record {
      done = omega (arith, next.1, inv.done);
      kept = kept_mission _ _ _ _ M.actuator _ _ _ _ _ next.0;
      at = next.0;
    }

pub returns : goal.returns
returns g c =
    let M = c.args.world.now.mission in
    let inv = c.loop-cycle.invariant in
    let kept = ap (λ (m : MissionValue). m.cycles) inv.kept in
    let end = c.cycles-cycle-end.ensures ∙ ap (λ (m : MissionValue). m.cycles) c.mission.ensures in (
      inv.at,
      omega (
        arith,
        kept,
        end,
        c.loop-cycle-test.false,
        inv.done,
        kept_cycles _ _ _ _ M.actuator _ _ _ _ _ inv.at,
      ),
    )
