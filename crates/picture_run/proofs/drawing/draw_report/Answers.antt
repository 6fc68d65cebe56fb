use Rattle.std.proofs.Common.{◌≡◌, ℕ, Err, sym, ap, subst, ◌∙◌}
use Rattle.report_story.specs.Answers.{TellsStory}
use Rattle.report_story.specs.Places.{story_of}
use Rattle.report_story.specs.declared.reading.BadReport.{BadReport}
use Rattle.picture_run.proofs.drawing.draw_report.Goals as goal

pub returns-in-Err-Line : goal.returns-in-Err-Line
returns-in-Err-Line g c =
    let known = c.args.known in
    let report = c.args.report.now in
    let told : story_of known report ≡ Err c.in-Err-Line.line =
    subst (λ (r : BadReport). TellsStory known report (Err r)) c.in-Err-Line.field-0-is c.in-Err-Line.ensures in
    c.refuse.ensures c.args.limits known report (told ∙ ap (λ (n : ℕ). Err n) (sym c.in-Err-Line.line-is))
