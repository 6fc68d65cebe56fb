use Rattle.std.proofs.Common.{◌≡◌, ◌∙◌, Bool, List, ap, subst}
use Rattle.guards_model.specs.Texts.{TextValue}
use Rattle.guards_io.specs.Views.{SinkView}
use Rattle.guards_io.proofs.WritesLemmas.{puts_writes}
use Rattle.lint_lines.specs.LineTexts.{lint_text, warns}
use Rattle.lint_lines.specs.declared.line.LintLine.{LintLine}
use Rattle.lint_run.specs.Outcomes.{TellsLines, told_lines}
use Rattle.lint_run.proofs.top.tell.Goals as goal

pub returns : goal.returns
returns g c =
    let ls = told_lines c.args.bytes.now c.args.mission.now in
    let before : SinkView = g.K.Sink.seen c.args.out.now in
    let after : SinkView = g.K.Sink.seen c.put-written.new.out in
    let lines : c.as_slice.result.now ≡ ls = c.as_slice.ensures ∙ c.in-Ok.ensures in
    let again : c.as_slice-2.result.now ≡ ls = c.as_slice-2.ensures ∙ c.in-Ok.ensures in
    let text : c.as_str.result.now ≡ lint_text ls =
    c.as_str.ensures ∙ c.in-Ok-lines_text.ensures ∙ ap (λ (l : List LintLine). lint_text l) lines in
    let warned : c.warn.result ≡ warns ls = c.warn.ensures ∙ ap (λ (l : List LintLine). warns l) again in
    subst (λ (w : Bool). TellsLines (lint_text ls) w before after c.told.result) warned
    (subst (λ (t : TextValue). TellsLines t c.warn.result before after c.told.result) text
    (c.told.ensures c.as_str.result.now before after
    (puts_writes before after c.as_str.result.now c.put-written.result c.put-written.ensures)))
