use Rattle.std.proofs.lemmas.Result.{err_from_is_err_and}
use Rattle.guards_io.proofs.WritesLemmas.{puts_writes, writes_stop, writes_then}
use Rattle.campaign_call.proofs.document.put_both.Goals as goal

pub returns-in_err-put_bytes : goal.returns-in_err-put_bytes
returns-in_err-put_bytes g c =
    let p = err_from_is_err_and c.from_residual.result c.from_residual.ensures.1 in
    rw (p.1, p.2)
    (writes_stop (g.K.Sink.seen c.args.out.now) (g.K.Sink.seen c.put_bytes.new.out) c.args.bytes.now c.args.text.now
    c.in_err-put_bytes.field-0.0 c.in_err-put_bytes.ensures)

pub returns : goal.returns
returns g c =
    writes_then (g.K.Sink.seen c.args.out.now) (g.K.Sink.seen c.put_bytes.new.out) (g.K.Sink.seen c.put.new.out)
    c.args.bytes.now c.args.text.now c.put.result c.in_ok-put_bytes.ensures
    (puts_writes (g.K.Sink.seen c.put_bytes.new.out) (g.K.Sink.seen c.put.new.out) c.args.text.now c.put.result
    c.put.ensures)
