use Rattle.guards_model.specs.Contexts.{zero_block}
use Rattle.join_vote.proofs.Filling.{IsFilled}
use Rattle.join_vote.proofs.replica.clear.Given as goal

abbrev pub invariant-loop-block : goal.invariant-loop-block
invariant-loop-block l = IsFilled (λ k. zero_block) l.fn.blocks l.blocks l.block
