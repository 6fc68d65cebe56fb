use Rattle.std.proofs.Common.{◌≡◌, ℕ, List, length, string_bytes, ap, subst, ◌∙◌}
use Rattle.guards_io.specs.Writes.{Writes}
use Rattle.guards_io.proofs.WritesLemmas.{puts_writes}
use Rattle.picture_marks.specs.Marks.{marks_of}
use Rattle.picture_svg.specs.Picture.{svg_of}
use Rattle.report_story.specs.Places.{StoryPlace}
use Rattle.picture_run.specs.Drawing.{picture_of}
use Rattle.picture_run.proofs.drawing.draw.Goals as goal

pub returns-in-Ok : goal.returns-in-Ok
returns-in-Ok g c =
    let old = g.K.Sink.seen c.args.out.now in
    let new = g.K.Sink.seen c.put.new.out in
    let p = c.story.inside in
    let outputs = c.outputs_of-outputs.ensures in
    let told = c.as_slice-told.ensures.value in
    let text : string_bytes c.in-Ok.text ≡ picture_of c.args.limits c.args.story.now =
    c.in-Ok.ensures
    ∙ (λ i. svg_of c.args.limits p.channels (outputs i) p.cycles (length (told i)) p.ending
    (marks_of c.args.limits p.channels (outputs i) (told i)))
    ∙ ap (λ (q : StoryPlace). picture_of c.args.limits q) c.story.view_is in
    let wrote = subst (λ (t : List ℕ). Writes old new t c.put.result) (c.deref.ensures ∙ text)
    (puts_writes old new c.deref.result.now c.put.result c.put.ensures) in
    c.status_of_write.ensures (picture_of c.args.limits c.args.story.now) old new wrote
