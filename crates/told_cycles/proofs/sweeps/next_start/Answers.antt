use Rattle.std.proofs.Common.{◌+◌, ◌%◌, ◌∙◌, sym, ap}
use Rattle.guards_model.specs.Transfers.{cursor_after}
use Rattle.dirty_tags.proofs.MarkedLists.{last_is, some_length}
use Rattle.told_cycles.proofs.sweeps.next_start.Goals as goal

pub returns-else-is_empty : goal.returns-else-is_empty
returns-else-is_empty c =
    ap (λ b. (b + 1) % c.args.blocks) c.from.ensures
    ∙ sym (ap (cursor_after c.args.blocks c.args.cursor)
    (last_is c.args.plan.now 0
    (some_length c.args.plan.now c.is_empty.result c.is_empty.ensures c.if-is_empty.false)))
