use Rattle.std.proofs.Common.{◌∙◌, ◌<◌, length, sym, ap, arith}
use Rattle.std.specs.Prelude.{unwrap_or}
use Rattle.guards_model.specs.Contexts.{block_at}
use Rattle.guards_model.specs.Replicas.{voted_block}
use Rattle.join_vote.proofs.Filling.{filled_length, filled_more, filled_same, no_words}
use Rattle.join_vote.proofs.replica.fill.Goals as goal
use Rattle.join_vote.proofs.replica.fill.Goals.{in-Some, in_default}

pub set_block-requires : goal.set_block-requires
set_block-requires c =
    let long = filled_length (voted_block c.args.start c.args.frames.now c.args.blocks.now) c.args.blocks.now
    c.loop-block.blocks c.loop-block.block c.loop-block.invariant in
    let end = c.len-block-end.ensures.value in
    let within = c.loop-block-test.true in
    omega arith

pub loop-block-preserved : goal.loop-block-preserved
loop-block-preserved c =
    let end = c.len-block-end.ensures.value in
    let within = c.loop-block-test.true in
    let lt : c.loop-block.block < length c.args.blocks.now = omega arith in
    elim c.match-most_words.branch [
      | in-Some w ↦
          filled_more (voted_block c.args.start c.args.frames.now c.args.blocks.now) c.args.blocks.now
          c.loop-block.blocks c.match-most_words.blocks c.loop-block.block w.in-Some.words.words lt
          c.loop-block.invariant (ap (λ o. unwrap_or o (block_at c.args.blocks.now c.loop-block.block))
          w.in-Some.ensures) (w.blocks-is ∙ w.set_block.ensures)
      | in_default w ↦
          filled_same (voted_block c.args.start c.args.frames.now c.args.blocks.now) c.args.blocks.now
          c.loop-block.blocks c.match-most_words.blocks c.loop-block.block lt
          c.loop-block.invariant
          (sym (ap (λ o. unwrap_or o (block_at c.args.blocks.now c.loop-block.block)) c.most_words.ensures)
          ∙ no_words (λ b. b.words) c.most_words.result (block_at c.args.blocks.now c.loop-block.block)
          w.in_default.not-Some)
          w.blocks-is
    ]
