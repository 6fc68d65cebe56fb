use Rattle.std.proofs.Common.{List, ℕ, subst}
use Rattle.mission_check.specs.Reading.{GivesBytes, ReadsBytes}
use Rattle.mission_check.proofs.BytesRead.{taken_then_read}
use Rattle.mission_check.proofs.reading.read_mission.Goals as goal

pub returns-in-Ok : goal.returns-in-Ok
returns-in-Ok g c =
    let src = g.S.Source.seen c.args.src.now in
    let src' = g.S.Source.seen c.take_bytes.new.src in
    let out = g.K.Sink.seen c.args.out.now in
    let between = g.K.Sink.seen c.take_bytes.new.out in
    let out' = g.K.Sink.seen c.read_bytes.new.out in
    let taken = subst (λ r. GivesBytes src src' out between r) c.in-Ok.is c.take_bytes.ensures in
    taken_then_read src src' out between out' c.in-Ok.bytes.items taken.0 taken.1 c.read_bytes.result
    (subst (λ (bytes : List ℕ). ReadsBytes bytes between out' c.read_bytes.result) c.as_slice.ensures
    c.read_bytes.ensures)
