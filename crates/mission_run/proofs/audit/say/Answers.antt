use Rattle.std.proofs.Common.{List, ℕ, subst}
use Rattle.guards_io.specs.Writes.{Writes}
use Rattle.guards_io.proofs.WritesLemmas.{puts_writes}
use Rattle.run_audit.specs.Answers.{IsVerdict}
use Rattle.mission_run.specs.Lines.{yes_line}
use Rattle.mission_run.proofs.Audited.{told_yes}
use Rattle.mission_run.proofs.audit.say.Goals as goal

pub returns-in-Yes : goal.returns-in-Yes
returns-in-Yes g c = λ M trace verdict.
    let out = g.K.Sink.seen c.args.out.now in
    let out' = g.K.Sink.seen c.put.new.out in
    let wrote = subst (λ (line : List ℕ). Writes out out' line c.put.result) c.yes_line.ensures
    (puts_writes out out' c.yes_line.result.now c.put.result c.put.ensures) in
    told_yes M trace out out' c.status_of_write.result (subst (IsVerdict M trace) c.in-Yes.is verdict)
    (c.status_of_write.ensures yes_line out out' wrote)
