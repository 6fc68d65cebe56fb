use Rattle.std.proofs.Common.{subst, Option}
use Rattle.run_audit.specs.declared.line.Line.{Line}
use Rattle.run_audit.specs.Values.{Reads}
use Rattle.report_story.proofs.Sized.{one_more}
use Rattle.report_story.proofs.sizes.read_any.Goals as goal

pub loop-number-preserved : goal.loop-number-preserved
loop-number-preserved c =
    one_more c.args.channels c.loop-number.number c.args.bytes.now c.sizes_at-sizes.result c.loop-number.invariant
    c.sizes_at-sizes.ensures.value
    (subst (λ (o : Option Line). Reads c.sizes_at-sizes.result c.args.bytes.now o) c.in-None.is c.in_ok-line.ensures)
