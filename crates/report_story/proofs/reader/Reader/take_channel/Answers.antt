use Rattle.std.proofs.Common.{◌≡◌, Some, ap, ◌∙◌}
use Rattle.guards_model.specs.Records.{shown_line}
use Rattle.report_story.specs.Places.{StoryPlace, with_story_line}
use Rattle.report_story.proofs.StoryFilling.{line_told}
use Rattle.report_story.proofs.reader.Reader.take_channel.Goals as goal

pub returns-then-fits-clause-told : goal.returns-then-fits-clause-told
returns-then-fits-clause-told c =
    let lengths = c.prove_lengths.ensures in
    let l = shown_line c.args.sizes.channels c.args.sizes.width c.args.sizes.outputs c.args.line.now in
    let last = c.with_line-self-inside.ensures ∙ ap (λ (p : StoryPlace). with_story_line p.last l) c.self.view_is in
    λ h.
    (λ i. record (c.self.view_is i) { sizes = Some c.args.sizes; last = last i })
    ∙ line_told c.args.self.now c.args.sizes l lengths.inputs lengths.votes (c.fits_channel-fits.ensures.channels h)
