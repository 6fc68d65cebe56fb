use Rattle.std.proofs.Common.{arith}
use Rattle.report_story.proofs.StoryFilling.{taken}
use Rattle.report_story.proofs.reader.prove_votes.Goals as goal

pub returns : goal.returns
returns c = taken c.args.outputs c.args.votes.now (omega (arith, c.told-votes, c.requires))
