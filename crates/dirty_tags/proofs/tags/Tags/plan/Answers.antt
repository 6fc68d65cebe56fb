use Rattle.std.proofs.Common.{◌≡◌, ℕ, List, All, ◌<◌, ◌-◌, ◌++◌, ◌∙◌, take, subst, sym}
use Rattle.std.specs.Prelude.{filter}
use Rattle.std.specs.List.{range_with_len}
use Rattle.guards_model.proofs.TagSteps.{stand_plan}
use Rattle.dirty_tags.specs.Marks.{is_marked}
use Rattle.dirty_tags.proofs.tags.Tags.plan.Goals as goal
use Rattle.dirty_tags.proofs.MarkedLists.{seen_plan, first_gathered, then_gathered, planned_below}

planned : goal.returns-clause-tags
planned c =
    let marks = c.self.inside.remaining in
    let blocks = c.self.inside.blocks in
    let cursor = c.self.inside.cursor in
    let late : c.gather.new.plan
    ≡ take c.args.sweep (filter (is_marked marks) (range_with_len cursor (blocks - cursor)))
    = first_gathered (filter (is_marked marks)) range_with_len c.gather.new.plan c.new-plan.result c.from.result
    c.args.sweep c.from-cursor.result cursor c.from-blocks.result blocks
    c.gather.ensures c.new-plan.ensures c.from.ensures c.from-cursor.ensures c.from-blocks.ensures in
    let both : c.gather-2.new.plan
    ≡ take c.args.sweep (take c.args.sweep (filter (is_marked marks) (range_with_len cursor (blocks - cursor)))
    ++ filter (is_marked marks) (range_with_len 0 (cursor - 0)))
    = then_gathered (λ n. filter (is_marked marks) (range_with_len 0 n)) c.gather-2.new.plan c.gather.new.plan _
    c.from-2.result c.args.sweep c.from-cursor.result cursor
    c.gather-2.ensures late c.from-2.ensures c.from-cursor.ensures in
    seen_plan blocks cursor marks c.self.inside.written c.args.self.now c.self.view_is c.args.sweep c.gather-2.new.plan
    c.self.invariant.within both

pub returns-clause-tags : goal.returns-clause-tags
returns-clause-tags c = planned c

pub returns-clause-cycles : goal.returns-clause-cycles
returns-clause-cycles c =
    λ cycles written stands. planned c ∙ stand_plan c.args.self.now cycles written stands c.args.sweep

pub returns-clause-below : goal.returns-clause-below
returns-clause-below c =
    let P : List ℕ → Type 0 = λ xs. All (λ b. b < c.args.self.now.blocks) xs in
    subst P (sym (planned c)) (planned_below c.args.sweep c.args.self.now)
