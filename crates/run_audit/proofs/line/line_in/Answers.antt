use Rattle.std.proofs.Common.{◌∷◌}
use Rattle.std.specs.Prelude.{codes}
use Rattle.guards_audit.specs.Lines.{ReportLine, steps_told}
use Rattle.guards_model.specs.Texts.{TraceValue}
use Rattle.run_audit.specs.declared.line.Sizes.{Sizes}
use Rattle.run_audit.specs.Values.{IsReadAs, IsReadFrom, fields, first_word}
use Rattle.run_audit.proofs.LineLemmas.{by_word, ok_as, head_word, cycle_word, channel_word, steps_word, end_word, out_word, done_word}
use Rattle.run_audit.proofs.line.line_in.Goals as goal

pub returns-in-guards-clause-read : goal.returns-in-guards-clause-read
returns-in-guards-clause-read c =
    λ line.
    by_word c.args.sizes c.args.text.now c.piece.result.0.now c.piece.result.1.now (codes "guards") c.head_in.result
    c.in-guards.is c.piece.ensures.cut
    (head_word c.args.sizes c.piece.result.1.now c.head_in.result (c.head_in.ensures.read c.args.sizes)) line

pub returns-in-cycle-clause-read : goal.returns-in-cycle-clause-read
returns-in-cycle-clause-read c =
    λ line.
    by_word c.args.sizes c.args.text.now c.piece.result.0.now c.piece.result.1.now (codes "cycle") c.cycle_in.result
    c.in-cycle.is c.piece.ensures.cut
    (cycle_word c.args.sizes c.piece.result.1.now c.cycle_in.result (c.cycle_in.ensures.read c.args.sizes)) line

pub returns-in-ch-clause-read : goal.returns-in-ch-clause-read
returns-in-ch-clause-read c =
    λ line.
    by_word c.args.sizes c.args.text.now c.piece.result.0.now c.piece.result.1.now (codes "ch") c.channel_in.result
    c.in-ch.is c.piece.ensures.cut
    (channel_word c.args.sizes c.piece.result.1.now c.channel_in.result c.channel_in.ensures.read) line

pub returns-in-end-clause-read : goal.returns-in-end-clause-read
returns-in-end-clause-read c =
    λ line.
    by_word c.args.sizes c.args.text.now c.piece.result.0.now c.piece.result.1.now (codes "end") c.end_in.result
    c.in-end.is c.piece.ensures.cut
    (end_word c.args.sizes c.piece.result.1.now c.end_in.result (c.end_in.ensures.read c.args.sizes)) line

pub returns-in-done-clause-read : goal.returns-in-done-clause-read
returns-in-done-clause-read c =
    λ line.
    by_word c.args.sizes c.args.text.now c.piece.result.0.now c.piece.result.1.now (codes "done") c.done_in.result
    c.in-done.is c.piece.ensures.cut
    (done_word c.args.sizes c.piece.result.1.now c.done_in.result (c.done_in.ensures.read c.args.sizes)) line

pub returns-in-trace-clause-read : goal.returns-in-trace-clause-read
returns-in-trace-clause-read c =
    ok_as (λ read. (s : Sizes) (t : TraceValue) → IsReadAs s c.piece.result.1.now read (steps_told t))
    (λ read. (line : ReportLine) → IsReadFrom c.args.sizes (first_word line ∷ fields line) c.args.text.now line read)
    c.steps_in.result c.steps_in.ensures.read
    (λ read all line.
    by_word c.args.sizes c.args.text.now c.piece.result.0.now c.piece.result.1.now (codes "trace") read c.in-trace.is
    c.piece.ensures.cut
    (steps_word c.args.sizes c.piece.result.1.now read (all c.args.sizes)) line)

pub returns-in-out-clause-read : goal.returns-in-out-clause-read
returns-in-out-clause-read c =
    λ line.
    by_word c.args.sizes c.args.text.now c.piece.result.0.now c.piece.result.1.now (codes "out") c.out_in.result
    c.in-out.is c.piece.ensures.cut
    (out_word c.args.sizes c.piece.result.1.now c.out_in.result c.out_in.ensures.read) line
