use Rattle.mission_check.proofs.MissionTold.{check_completes}
use Rattle.mission_check.proofs.reading.check_mission.Goals as goal

pub returns-clause-completes : goal.returns-clause-completes
returns-clause-completes g c =
    let src = g.S.Source.seen c.args.src.now in
    let src' = g.S.Source.seen c.check_read.new.src in
    let out = g.K.Sink.seen c.args.out.now in
    let out' = g.K.Sink.seen c.check_read.new.out in
    check_completes src src' out out' c.check_read.result c.check_read.ensures
