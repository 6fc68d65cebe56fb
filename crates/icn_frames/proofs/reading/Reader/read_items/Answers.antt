use Rattle.std.proofs.lemmas.Result.{err_from_is_err_and}
use Rattle.guards_model.specs.Fields.{item_at}
use Rattle.icn_frames.proofs.Loops.{goes_on, ends, is_done}
use Rattle.icn_frames.proofs.reading.Reader.read_items.Goals as goal

pub returns-in_err-item : goal.returns-in_err-item
returns-in_err-item c =
    let p = err_from_is_err_and c.from_residual.result c.from_residual.ensures.1 in
    rw (p.1, p.2) (ends (item_at c.args.sender c.args.round) c.in_err-item.field-0.0 c.loop.items.items c.args.count
    c.loop.counter c.loop.self _ c.loop-test.true c.in_err-item.ensures c.loop.invariant.so_far)

pub loop-preserved : goal.loop-preserved
loop-preserved c =
    record {
      so_far = rw c.in_ok-push.ensures.pushed
          (goes_on (item_at c.args.sender c.args.round) c.loop.items.items c.args.count c.loop.counter c.loop.self
          c.in_ok-item.item c.item.new.self _ c.loop-test.true c.in_ok-item.ensures c.loop.invariant.so_far);
    }

pub returns : goal.returns
returns c = is_done (item_at c.args.sender c.args.round) c.loop.items.items c.args.count c.loop.counter c.loop.self _
    c.loop-test.false c.loop.invariant.so_far
