use Rattle.mission_run.proofs.Audited.{audit_completes}
use Rattle.mission_run.proofs.audit.audit_run.Goals as goal

pub returns-clause-completes : goal.returns-clause-completes
returns-clause-completes g c =
    let src = g.S.Source.seen c.args.src.now in
    let src' = g.S.Source.seen c.audit_read.new.src in
    let out = g.K.Sink.seen c.args.out.now in
    let out' = g.K.Sink.seen c.audit_read.new.out in
    audit_completes src src' out out' c.audit_read.result c.audit_read.ensures
