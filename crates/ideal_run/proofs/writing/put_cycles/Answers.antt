use Rattle.std.proofs.Common.{arith}
use Rattle.std.proofs.lemmas.Result.{err_from_is_err_and}
use Rattle.ideal_run.proofs.WritesLemmas.{cycles_more, cycles_stop}
use Rattle.ideal_run.proofs.writing.put_cycles.Goals as goal

pub returns-in_err-put_cycle : goal.returns-in_err-put_cycle
returns-in_err-put_cycle g c =
    let p = err_from_is_err_and c.from_residual.result c.from_residual.ensures.1 in
    rw (p.1, p.2) (cycles_stop c.args.mission.now c.loop-cycle.cycle _ _ _ _
    (omega (arith, c.cycles-cycles.ensures, c.loop-cycle-test.true))
    (c.loop-cycle.invariant.written, c.loop-cycle.invariant.kept) c.in_err-put_cycle.ensures.part)

pub loop-cycle-preserved : goal.loop-cycle-preserved
loop-cycle-preserved g c =
    let all = cycles_more c.args.mission.now c.loop-cycle.cycle _ _ _
    (c.loop-cycle.invariant.written, c.loop-cycle.invariant.kept) c.in_ok-put_cycle.ensures.part in
    record { written = all.0; kept = all.1; context = c.in_ok-put_cycle.ensures.context }
