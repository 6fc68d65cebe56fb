use Rattle.std.proofs.Common.{List, ℕ, Ok, inr, subst, ◌∙◌}
use Rattle.guards_io.specs.Views.{SinkView}
use Rattle.mission_check.specs.Reading.{GivesBytes, ReadsBytes}
use Rattle.campaign_call.specs.Outcomes.{AnswersMission}
use Rattle.campaign_call.proofs.top.answer.Goals as goal

pub returns-in-Ok-read_bytes : goal.returns-in-Ok-read_bytes
returns-in-Ok-read_bytes g c =
    let src = g.S.Source.seen c.args.src.now in
    let src' = g.S.Source.seen c.take_bytes.new.src in
    let out = g.K.Sink.seen c.args.out.now in
    let taken_out = g.K.Sink.seen c.take_bytes.new.out in
    let read_out = g.K.Sink.seen c.read_bytes.new.out in
    let out' = g.K.Sink.seen c.answer_mission.new.out in
    let bytes = c.in-Ok.bytes.items in
    let M = c.in-Ok-read_bytes.mission in
    let asked = c.args.request.now in
    let taken = subst (λ r. GivesBytes src src' out taken_out r) c.in-Ok.is c.take_bytes.ensures in
    let read = subst (λ (given : List ℕ). ReadsBytes given taken_out read_out (Ok M)) c.as_slice-given.ensures
    (subst (λ r. ReadsBytes c.as_slice-given.result.now taken_out read_out r) c.in-Ok-read_bytes.is
    c.read_bytes.ensures) in
    let answers = subst (λ (given : List ℕ). AnswersMission asked given M read_out out' c.answer_mission.result)
    c.as_slice-given.ensures c.answer_mission.ensures in
    inr (
      bytes,
      M,
      taken.0,
      read.0,
      subst (λ (o : SinkView). AnswersMission asked bytes M o out' c.answer_mission.result) (read.1 ∙ taken.1) answers,
    )
