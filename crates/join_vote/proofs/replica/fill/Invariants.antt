use Rattle.guards_model.specs.Replicas.{voted_block}
use Rattle.join_vote.proofs.Filling.{IsFilled}
use Rattle.join_vote.proofs.replica.fill.Given as goal

abbrev pub invariant-loop-block : goal.invariant-loop-block
invariant-loop-block l = IsFilled (voted_block l.start l.frames l.fn.blocks) l.fn.blocks l.blocks l.block
