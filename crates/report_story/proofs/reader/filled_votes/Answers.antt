use Rattle.std.proofs.Common.{None, take, ap, ◌∙◌, arith}
use Rattle.report_story.specs.Places.{filled}
use Rattle.report_story.proofs.StoryFilling.{filled_up}
use Rattle.report_story.proofs.reader.filled_votes.Goals as goal

pub returns : goal.returns
returns c =
    filled_up None 8 c.from-count.result c.args.votes.now c.copy_from_slice.new.self c.copy_from_slice.ensures.after
    (omega (arith, c.from-count.ensures, c.told-votes, c.requires))
    ∙ ap (λ k. filled 8 None (take k c.args.votes.now)) c.from-count.ensures
