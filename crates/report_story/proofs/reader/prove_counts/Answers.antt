use Rattle.std.proofs.Common.{arith}
use Rattle.report_story.proofs.StoryFilling.{taken}
use Rattle.report_story.proofs.reader.prove_counts.Goals as goal

pub returns : goal.returns
returns c = taken c.args.channels c.args.counts.now (omega (arith, c.told-counts, c.requires))
