use Rattle.std.proofs.Common.{◌≡◌, ◌-◌, ◌++◌, take, ap, ◌∙◌}
use Rattle.std.specs.Prelude.{filter}
use Rattle.std.specs.List.{range_with_len}
use Rattle.dirty_tags.proofs.MarkedLists.{first_gathered, then_gathered}
use Rattle.guards_model.specs.Transfers.{planned_blocks}
use Rattle.told_cycles.specs.Sweeping.{is_flagged}
use Rattle.told_cycles.proofs.SweepSteps.{at_size, plan_is}
use Rattle.told_cycles.proofs.sweeps.Sweeps.plan.Goals as goal

pub returns : goal.returns
returns c =
    λ blocks next cycles h.
    let s = c.args.self.now in
    let flags = c.flags-flags.result in
    let late : c.gather.new.plan.items
    ≡ take c.args.sweep (filter (is_flagged flags) (range_with_len s.cursor (s.blocks - s.cursor)))
    = first_gathered (filter (is_flagged flags)) range_with_len c.gather.new.plan.items c.new-plan.result.items
    c.from-most.result c.args.sweep c.from-cursor.result s.cursor c.from.result s.blocks
    c.gather.ensures c.new-plan.ensures c.from-most.ensures c.from-cursor.ensures c.from.ensures in
    let whole : c.gather-2.new.plan.items
    ≡ take c.args.sweep (take c.args.sweep
    (filter (is_flagged flags) (range_with_len s.cursor (s.blocks - s.cursor)))
    ++ filter (is_flagged flags) (range_with_len 0 (s.cursor - 0)))
    = then_gathered (λ n. filter (is_flagged flags) (range_with_len 0 n)) c.gather-2.new.plan.items
    c.gather.new.plan.items _ c.from-most.result c.args.sweep c.from-cursor.result s.cursor
    c.gather-2.ensures late c.from-most.ensures c.from-cursor.ensures in
    plan_is s flags c.args.sweep next cycles c.gather-2.new.plan.items (at_size s blocks next cycles h)
    c.flags-flags.ensures whole ∙ ap (λ b. planned_blocks b c.args.sweep cycles) h.size
