use Rattle.std.proofs.Common.{◌∙◌, ◌++◌, [], ◌∷◌, ap, arith}
use Rattle.slot_traffic.proofs.Members.{all_members, one_member, no_member}
use Rattle.slot_traffic.proofs.receivers.members.Goals.{then-flags-number+in_ok-push, else-flags-number}
use Rattle.slot_traffic.proofs.receivers.members.Goals as goal

pub loop-number-preserved : goal.loop-number-preserved
loop-number-preserved c = elim c.if-flags-number.branch [
  | then-flags-number+in_ok-push w ↦
      rw w.numbers-is (w.in_ok-push.ensures.items ∙ ap (λ l. l ++ c.loop-number.number ∷ []) c.loop-number.invariant
      ∙ one_member c.args.set c.flags-flags.result c.loop-number.number c.flags-flags.ensures.value
      c.loop-number-test.true w.if-flags-number.true)
  | else-flags-number w ↦
      rw w.numbers-is (c.loop-number.invariant
      ∙ no_member c.args.set c.flags-flags.result c.loop-number.number c.flags-flags.ensures.value
      c.loop-number-test.true w.if-flags-number.false)
]

pub returns : goal.returns
returns c = c.loop-number.invariant
    ∙ all_members c.args.set c.loop-number.number (omega arith) c.flags-flags.ensures.members
