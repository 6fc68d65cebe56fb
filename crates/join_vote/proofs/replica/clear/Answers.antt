use Rattle.std.proofs.Common.{refl, arith}
use Rattle.guards_model.specs.Contexts.{zero_block}
use Rattle.join_vote.proofs.Filling.{filled_length, filled_more, cleared_all}
use Rattle.join_vote.proofs.replica.clear.Goals as goal

pub set_block-requires : goal.set_block-requires
set_block-requires c =
    let long = filled_length (λ k. zero_block) c.args.blocks.now c.loop-block.blocks c.loop-block.block
    c.loop-block.invariant in
    let end = c.len-block-end.ensures.value in
    let within = c.loop-block-test.true in
    omega arith

pub loop-block-preserved : goal.loop-block-preserved
loop-block-preserved c =
    let end = c.len-block-end.ensures.value in
    let within = c.loop-block-test.true in
    filled_more (λ k. zero_block) c.args.blocks.now c.loop-block.blocks c.set_block.new.self c.loop-block.block
    zero_block (omega arith) c.loop-block.invariant refl c.set_block.ensures

pub returns : goal.returns
returns c =
    let end = c.len-block-end.ensures.value in
    let ended = c.loop-block-test.false in
    let within = c.loop-block.invariant.within in
    cleared_all c.args.blocks.now c.loop-block.blocks c.loop-block.block (omega arith) c.loop-block.invariant
