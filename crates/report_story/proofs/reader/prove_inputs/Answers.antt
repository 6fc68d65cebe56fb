use Rattle.std.proofs.Common.{arith}
use Rattle.report_story.proofs.StoryFilling.{taken}
use Rattle.report_story.proofs.reader.prove_inputs.Goals as goal

pub returns : goal.returns
returns c = taken c.args.width c.args.inputs.now (omega (arith, c.told-inputs, c.requires))
