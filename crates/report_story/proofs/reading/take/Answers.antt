use Rattle.std.proofs.Common.{subst, None, Option}
use Rattle.report_story.specs.Places.{StoryPlace}
use Rattle.report_story.specs.Sizing.{ReadsSized}
use Rattle.report_story.specs.declared.sizes.SizedLine.{SizedLine}
use Rattle.report_story.proofs.Sized.{only_stops}
use Rattle.report_story.proofs.reading.take.Goals as goal

pub take_stop-requires : goal.take_stop-requires
take_stop-requires c =
    only_stops c.args.reader.now c.args.bytes.now c.requires
    (let h = subst (λ (o : Option SizedLine).
    ReadsSized c.reader.inside.channels c.reader.inside.sizes c.args.bytes.now o) c.in-None.is
    c.in_ok-read.ensures in
    subst (λ (p : StoryPlace). ReadsSized p.channels p.sizes c.args.bytes.now None) c.reader.view_is h)
