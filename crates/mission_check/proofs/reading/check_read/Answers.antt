use Rattle.std.proofs.Common.{inr, subst}
use Rattle.check_text.specs.Check.{check_of}
use Rattle.guards_io.specs.Views.{SinkView}
use Rattle.mission_check.specs.Reading.{ReadsMission, Tells}
use Rattle.mission_check.proofs.reading.check_read.Goals as goal

pub returns-in-Ok : goal.returns-in-Ok
returns-in-Ok g c =
    let src = g.S.Source.seen c.args.src.now in
    let src' = g.S.Source.seen c.read_mission.new.src in
    let out = g.K.Sink.seen c.args.out.now in
    let between = g.K.Sink.seen c.read_mission.new.out in
    let out' = g.K.Sink.seen c.write_check.new.out in
    let read = subst (λ r. ReadsMission src src' out between r) c.in-Ok.is c.read_mission.ensures in
    let told = c.status_of_write.ensures (check_of c.in-Ok.mission) between out' c.write_check.ensures in
    inr (
      read.0,
      c.in-Ok.mission,
      read.1,
      read.2,
      subst (λ (o : SinkView). Tells (check_of c.in-Ok.mission) o out' c.status_of_write.result) read.3 told,
    )
