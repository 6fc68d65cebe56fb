use Rattle.std.proofs.Common.{◌≤◌, length, sym, ap, subst, ◌∙◌, arith}
use Rattle.std.proofs.lemmas.Result.{err_from_is_err_and}
use Rattle.guards_model.specs.Missions.{MissionValue}
use Rattle.guards_io.specs.Views.{SinkView}
use Rattle.guards_io.specs.Writes.{Puts}
use Rattle.world_run.specs.Tallying.{Summarizes, summary_of}
use Rattle.world_run.proofs.Tallies.{summary_done}
use Rattle.world_run.proofs.summary.summarize.Goals as goal

pub returns-in_err-tally_cycles : goal.returns-in_err-tally_cycles
returns-in_err-tally_cycles g c =
    let p = err_from_is_err_and c.from_residual.result c.from_residual.ensures.1 in
    rw (p.1, p.2) (c.in_err-tally_cycles.ensures c.args.number)

pub overflow_cast-outputs : goal.overflow_cast-outputs
overflow_cast-outputs g c =
    let few : length c.outputs.result.now ≤ 8 =
    subst (λ outputs. length outputs ≤ 8) (sym c.outputs.ensures) c.prove_sizes.ensures.few in
    grind (arith, few)

pub put_summary-requires : goal.put_summary-requires
put_summary-requires g c = subst (λ outputs. length outputs ≤ 8) (sym c.outputs.ensures) c.prove_sizes.ensures.few

pub returns : goal.returns
returns g c =
    let M = c.args.world.now.mission in
    let (at, all, unwritten) = c.in_ok-tally_cycles.ensures c.args.number in
    let w = c.tally_cycles.new.world in
    let start = g.B.Bus.seen c.args.bus.now in
    let after = g.B.Bus.seen c.tally_cycles.new.bus in
    let begun = g.K.Sink.seen c.args.out.now in
    let out = g.K.Sink.seen c.tally_cycles.new.out in
    let out' = g.K.Sink.seen c.put_summary.new.out in
    let outputs = c.outputs.ensures ∙ ap (λ (m : MissionValue). m.outputs) (c.mission-mission.ensures ∙ at.2.mission) in
    let wrote : Puts out out' (summary_of c.args.number (length M.outputs) w.carried c.tally_cycles.new.tally)
    c.put_summary.result =
    subst (λ n. Puts out out' (summary_of c.args.number n w.carried c.tally_cycles.new.tally) c.put_summary.result)
    (ap length outputs)
    (subst (λ n. Puts out out' (summary_of c.args.number (length c.outputs.result.now) n c.tally_cycles.new.tally)
    c.put_summary.result) c.carried-frames.ensures c.put_summary.ensures) in
    let begun_wrote = subst (λ (o : SinkView).
    Puts o out' (summary_of c.args.number (length M.outputs) w.carried c.tally_cycles.new.tally)
    c.put_summary.result) unwritten wrote in
    subst (λ r. Summarizes g.B.Bus.may c.args.number M start after begun out' r) (sym c.run_result.ensures)
    (summary_done g.B.Bus.may M start c.args.number w after begun out' c.tally_cycles.new.tally at all
    c.put_summary.result begun_wrote)
