use Rattle.std.proofs.lemmas.Result.{err_from_is_err_and}
use Rattle.guards_model.specs.Fields.{copy_at}
use Rattle.icn_frames.proofs.Loops.{goes_on, ends, is_done}
use Rattle.icn_frames.proofs.reading.Reader.read_copies.Goals as goal

pub returns-in_err-copy : goal.returns-in_err-copy
returns-in_err-copy c =
    let p = err_from_is_err_and c.from_residual.result c.from_residual.ensures.1 in
    rw (p.1, p.2) (ends copy_at c.in_err-copy.field-0.0 c.loop.copies.items c.args.count c.loop.counter c.loop.self _
    c.loop-test.true c.in_err-copy.ensures c.loop.invariant.so_far)

pub loop-preserved : goal.loop-preserved
loop-preserved c =
    record {
      so_far = rw c.in_ok-push.ensures.pushed
          (goes_on copy_at c.loop.copies.items c.args.count c.loop.counter c.loop.self c.in_ok-copy.copy c.copy.new.self
          _
          c.loop-test.true c.in_ok-copy.ensures c.loop.invariant.so_far);
    }

pub returns : goal.returns
returns c = is_done copy_at c.loop.copies.items c.args.count c.loop.counter c.loop.self _ c.loop-test.false
    c.loop.invariant.so_far
