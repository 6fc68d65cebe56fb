use Rattle.std.proofs.Common.{arith}
use Rattle.run_audit.proofs.verdict.sizes.Goals as goal

pub returns-clause-value : goal.returns-clause-value
returns-clause-value c = λ i.
    record { channels = c.channels.ensures i; width = c.width.ensures i; outputs = c.outputs.ensures i }

pub returns-clause-used : goal.returns-clause-used
returns-clause-used c =
    let sized = c.prove_sizes.ensures in
    record {
      channels = (omega (arith, c.channels.ensures, sized.many), omega (arith, c.channels.ensures, sized.seven));
      width = (omega (arith, c.width.ensures, sized.wide), omega (arith, c.width.ensures, sized.narrow));
      outputs = (omega (arith, c.outputs.ensures, sized.some), omega (arith, c.outputs.ensures, sized.few));
    }
