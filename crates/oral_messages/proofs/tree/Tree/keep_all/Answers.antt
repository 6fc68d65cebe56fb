use Rattle.std.proofs.Common.{◌≡◌, ◌<◌, ◌+◌, ◌-◌, length, refl, arith}
use Rattle.guards_model.specs.Frames.{item_in_range}
use Rattle.oral_messages.proofs.Putting.{kept_none, kept_more, kept_all, in_range_at}
use Rattle.oral_messages.proofs.tree.Tree.keep_all.Goals as goal

pub loop-left-init : goal.loop-left-init
loop-left-init c = kept_none c.args.self.now c.args.round c.args.from c.args.items.now _ refl

pub bounds-items-left : goal.bounds-items-left
bounds-items-left c = let bound = c.loop-left.invariant.bound in omega arith

pub keep-requires-clause-ranges : goal.keep-requires-clause-ranges
keep-requires-clause-ranges c =
    let bound = c.loop-left.invariant.bound in
    let lt : c.loop-left.left - 1 < length c.args.items.now = omega arith in
    in_range_at (item_in_range c.args.from c.args.round) c.args.items.now (c.loop-left.left - 1)
    c.index-items-left.result c.requires.ranges lt c.index-items-left.is

pub loop-left-preserved : goal.loop-left-preserved
loop-left-preserved c =
    let one : (c.loop-left.left - 1) + 1 ≡ c.loop-left.left = omega arith in
    kept_more c.args.self.now c.loop-left.self c.keep.new.self c.args.round c.args.from c.args.items.now
    c.loop-left.left (c.loop-left.left - 1) c.index-items-left.result one c.index-items-left.is
    c.loop-left.invariant c.keep.ensures.same c.keep.ensures.kept

pub returns-clause-kept : goal.returns-clause-kept
returns-clause-kept c = kept_all c.args.self.now c.loop-left.self c.args.round c.args.from c.args.items.now
    c.loop-left.left (omega arith) c.loop-left.invariant
