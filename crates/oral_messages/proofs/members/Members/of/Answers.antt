use Rattle.std.proofs.Common.{◌∙◌, length, ap, sym, arith}
use Rattle.guards_model.specs.Channels.{has}
use Rattle.oral_messages.specs.Sets.{members}
use Rattle.oral_messages.proofs.Listing.{listed_more, listed_same, listed_all, members_are_set}
use Rattle.oral_messages.proofs.Flags.{members_by_channel, length-by_channel}
use Rattle.oral_messages.proofs.members.Members.of.Goals as goal
use Rattle.oral_messages.proofs.members.Members.of.Goals.{then-active-label, else-active-label}

pub loop-label-preserved : goal.loop-label-preserved
loop-label-preserved c =
    elim c.if-active-label.branch [
      | then-active-label w ↦ rw (w.count-is, w.labels-is)
          (listed_more c.loop-label.label c.flags-active.result c.loop-label.count c.loop-label.labels
          c.loop-label.below (ap length c.flags-active.ensures.value ∙ length-by_channel (has c.args.set))
          c.loop-label-test.true w.if-active-label.true c.loop-label.invariant)
      | else-active-label w ↦ rw (w.count-is, w.labels-is)
          (listed_same c.loop-label.label c.flags-active.result c.loop-label.count c.loop-label.labels
          c.loop-label.below (ap length c.flags-active.ensures.value ∙ length-by_channel (has c.args.set))
          c.loop-label-test.true w.if-active-label.false c.loop-label.invariant)
    ]

pub invariant_of-result : goal.invariant_of-result
invariant_of-result c =
    listed_all c.loop-label.label c.flags-active.result c.loop-label.count c.loop-label.labels c.loop-label.below
    (ap length c.flags-active.ensures.value ∙ length-by_channel (has c.args.set)) (omega arith)
    c.loop-label.invariant

pub returns-clause-set : goal.returns-clause-set
unfolding members
returns-clause-set c = members_are_set c.flags-active.result
    (ap length c.flags-active.ensures.value ∙ length-by_channel (has c.args.set))

pub returns-clause-members : goal.returns-clause-members
returns-clause-members c =
    ap members c.flags-active.ensures.value ∙ members_by_channel (has c.args.set) ∙ sym c.flags-active.ensures.members
