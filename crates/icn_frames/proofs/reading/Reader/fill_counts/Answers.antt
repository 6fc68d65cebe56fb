use Rattle.std.proofs.Common.{take}
use Rattle.std.proofs.lemmas.Result.{err_from_is_err_and}
use Rattle.guards_model.specs.Fields.{count_at}
use Rattle.icn_frames.proofs.Loops.{ends, fills_on, filled}
use Rattle.icn_frames.proofs.reading.Reader.fill_counts.Goals as goal

pub returns-in_err-counts : goal.returns-in_err-counts
returns-in_err-counts c =
    let p = err_from_is_err_and c.from_residual.result c.from_residual.ensures.1 in
    rw (p.1, p.2) (ends count_at c.in_err-counts.field-0.0 (take c.loop-i.i c.loop-i.counts) _ c.loop-i.i c.loop-i.self
    _ (c.loop-i-test.true) c.in_err-counts.ensures c.loop-i.invariant.so_far)

pub loop-i-preserved : goal.loop-i-preserved
loop-i-preserved c =
    let h = fills_on count_at c.loop-i.counts c.loop-i.i _ c.loop-i.self c.in_ok-counts.field-0 c.count.new.self _
    c.loop-i-test.true c.loop-i.invariant.places c.in_ok-counts.ensures c.loop-i.invariant.so_far in
    record { so_far = h.0; places = h.1 }

pub returns : goal.returns
returns c = filled count_at c.loop-i.counts c.loop-i.i _ c.loop-i.self _ c.loop-i-test.false c.loop-i.invariant.places
    c.loop-i.invariant.so_far
