use Rattle.std.proofs.Common.{ℕ, ◌<◌, List, All, ◌≤◌, ◌-◌, ◌++◌, ◌∙◌, ap, length, take, arith, subst, sym}
use Rattle.std.specs.Prelude.{filter}
use Rattle.std.specs.List.{range_with_len}
use Rattle.guards_model.proofs.TagSteps.{stand_remain}
use Rattle.dirty_tags.specs.Marks.{is_marked, marked}
use Rattle.dirty_tags.proofs.tags.Tags.rest.Goals as goal
use Rattle.dirty_tags.proofs.MarkedLists.{whole_rest, rest_seen, rest_below}

whole : goal.returns-clause-tags
whole c =
    let marks = c.self.inside.remaining in
    let blocks = c.self.inside.blocks in
    let seen = rest_seen blocks c.self.inside.cursor marks c.self.inside.written c.args.self.now c.self.view_is in
    let few : length (marked blocks marks) ≤ 64 = omega (arith, c.requires, ap length seen) in
    c.gather.ensures
    ∙ ap (λ xs. take 64 (xs ++ filter (is_marked marks) (range_with_len 0 (c.from.result - 0)))) c.new-plan.ensures
    ∙ ap (λ n. take 64 (filter (is_marked marks) (range_with_len 0 (n - 0)))) c.from.ensures
    ∙ whole_rest blocks 64 marks few
    ∙ seen

pub returns-clause-tags : goal.returns-clause-tags
returns-clause-tags c = whole c

pub returns-clause-cycles : goal.returns-clause-cycles
returns-clause-cycles c = λ cycles written stands. whole c ∙ stand_remain c.args.self.now cycles written stands

pub returns-clause-below : goal.returns-clause-below
returns-clause-below c =
    let P : List ℕ → Type 0 = λ xs. All (λ b. b < c.args.self.now.blocks) xs in
    subst P (sym (whole c)) (rest_below c.self.inside.blocks c.self.inside.cursor c.self.inside.remaining
    c.self.inside.written c.args.self.now c.self.view_is)
