use Rattle.std.proofs.Common.{Err, ap, arith}
use Rattle.std.proofs.lemmas.Result.{err_from_is_err_and}
use Rattle.guards_io.proofs.SourceTaken.{stopped}
use Rattle.guards_io.proofs.reading.read_all.Goals as goal

pub returns-in_err-read_piece : goal.returns-in_err-read_piece
returns-in_err-read_piece g c =
    let p = err_from_is_err_and c.from_residual.result c.from_residual.ensures.1 in
    let old = g.S.Source.seen c.args.src.now in
    let between = g.S.Source.seen c.loop-bytes.src in
    let new = g.S.Source.seen c.read_piece.new.src in
    rw (p.1, p.2)
    (stopped old between new c.loop-bytes.bytes.items c.args.limit _ (omega (arith, c.len-in-loop-bytes.ensures))
    (omega (arith, c.loop-bytes-test.true, c.len.ensures)) c.loop-bytes.invariant.taken c.loop-bytes.invariant.kept
    _
    (λ is. c.in_err-read_piece.ensures.failed (ap Err is))
    (λ is. c.in_err-read_piece.ensures.long (ap Err is))
    (λ is. c.in_err-read_piece.ensures.short (ap Err is)))
