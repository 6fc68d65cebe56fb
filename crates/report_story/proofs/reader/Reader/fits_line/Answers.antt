use Rattle.std.proofs.Common.{◌≡◌, ◌&&◌, Bool, sym, ap, ◌∙◌}
use Rattle.guards_model.specs.Records.{shown_line}
use Rattle.guards_model.specs.Texts.{LineValue}
use Rattle.report_story.specs.Places.{StoryPlace, line_comes_next}
use Rattle.report_story.proofs.StoryFilling.{line_fit}
use Rattle.report_story.proofs.reader.Reader.fits_line.Goals as goal

pub returns-then-has_sizes-clause-value : goal.returns-then-has_sizes-clause-value
returns-then-has_sizes-clause-value c =
    let lengths = c.prove_lengths.ensures in
    let next = c.comes_next.ensures ∙ ap (λ (p : StoryPlace). line_comes_next p.last c.line.inside.chan) c.self.view_is
    ∙ ap (λ (l : LineValue). line_comes_next c.args.self.now.last l.channel) c.line.view_is in
    next ∙ ap (λ (b : Bool). b && line_comes_next c.args.self.now.last c.args.line.now.channel) c.if-has_sizes.ensures
    ∙ line_fit c.args.self.now c.args.sizes
    (shown_line c.args.sizes.channels c.args.sizes.width c.args.sizes.outputs c.args.line.now) lengths.inputs
    lengths.votes lengths.counts

pub returns-else-has_sizes-clause-value : goal.returns-else-has_sizes-clause-value
returns-else-has_sizes-clause-value c =
    let lengths = c.prove_lengths.ensures in
    c.if-has_sizes.false ∙ ap (λ (b : Bool). b && line_comes_next c.args.self.now.last c.args.line.now.channel)
    c.if-has_sizes.ensures
    ∙ line_fit c.args.self.now c.args.sizes
    (shown_line c.args.sizes.channels c.args.sizes.width c.args.sizes.outputs c.args.line.now) lengths.inputs
    lengths.votes lengths.counts
