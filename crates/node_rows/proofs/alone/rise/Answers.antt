use Rattle.std.proofs.Common.{rules, ◌≡◌, true}
use Rattle.guards_model.specs.declared.Mode.TheVariants as mode
use Rattle.channel_node.specs.Answers.{mode_of_state}
use Rattle.node_rows.proofs.Rising.{took}
use Rattle.node_rows.proofs.alone.rise.Goals as goal

pub rise-requires : goal.rise-requires
rise-requires c =
    let joining : mode_of_state c.args.node.now.state ≡ mode.Joining = search rules in
    took c.args.frames.now.items c.args.node.now c.take_final.new.self c.take_final.result joining
    c.take_final.ensures.state c.take_final.ensures.taken c.if-take_final.true
