use Rattle.std.proofs.Common.{length}
use Rattle.picture_run.proofs.DrawnToEnd.{picture_completes}
use Rattle.picture_run.proofs.drawing.picture.Goals as goal

pub returns-clause-completes : goal.returns-clause-completes
returns-clause-completes g c =
    let src = g.S.Source.seen c.args.src.now in
    let src' = g.S.Source.seen c.answer.new.src in
    let out = g.K.Sink.seen c.args.out.now in
    let out' = g.K.Sink.seen c.answer.new.out in
    picture_completes (length c.args.words.now.items) src src' out out' c.answer.result c.answer.ensures
