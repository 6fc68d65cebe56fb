use Rattle.std.proofs.Common.{◌∙◌, ℕ, List, inr, subst, sym}
use Rattle.guards_io.specs.Views.{SinkView}
use Rattle.mission_check.specs.Reading.{GivesBytes, ReadsBytes, TakesAll}
use Rattle.lint_run.specs.Outcomes.{LintsMission}
use Rattle.lint_run.proofs.top.read_and_tell.Goals as goal

pub returns-in-Ok-read_bytes : goal.returns-in-Ok-read_bytes
returns-in-Ok-read_bytes g c =
    let src = g.S.Source.seen c.args.src.now in
    let src' = g.S.Source.seen c.take_bytes.new.src in
    let out = g.K.Sink.seen c.args.out.now in
    let between = g.K.Sink.seen c.take_bytes.new.out in
    let after = g.K.Sink.seen c.read_bytes.new.out in
    let out' = g.K.Sink.seen c.tell.new.out in
    let bytes = c.as_slice-bytes.result.now in
    let M = c.in-Ok-read_bytes.mission in
    let taken = subst (λ r. GivesBytes src src' out between r) c.in-Ok.is c.take_bytes.ensures in
    let read = subst (λ r. ReadsBytes bytes between after r) c.in-Ok-read_bytes.is c.read_bytes.ensures in
    inr (
      bytes,
      M,
      subst (λ (bs : List ℕ). TakesAll src src' bs) (sym c.as_slice-bytes.ensures) taken.0,
      read.0,
      subst (λ (o : SinkView). LintsMission bytes M o out' c.tell.result) (read.1 ∙ taken.1) c.tell.ensures,
    )
