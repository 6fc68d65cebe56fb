use Rattle.std.proofs.Common.{ℕ, Bool, List, [], ◌∷◌, None, not, ◌&&◌, ◌∙◌, ap}
use Rattle.std.specs.List.{last_or}
use Rattle.guards_model.specs.Channels.{has}
use Rattle.guards_model.specs.Transfers.{cursor_after}
use Rattle.guards_model.specs.Tags.{tags_of}
use Rattle.dirty_tags.specs.Marks.{is_marked}
use Rattle.guards_model.proofs.TagSteps.{stand_closed}
use Rattle.dirty_tags.proofs.tags.Tags.close_cycle.Goals as goal
use Rattle.dirty_tags.proofs.MarkedLists.{seen_closed, blocks_seen}

closed : goal.returns-clause-tags
closed c =
    let test : List ℕ → ℕ → Bool = λ plan b. not (has plan b) && is_marked c.self.inside.remaining b in
    seen_closed c.self.inside.blocks c.self.inside.cursor c.self.inside.remaining c.self.inside.written c.args.self.now
    c.self.view_is
    c.args.plan.now c.unmark.new.marks c.mark.new.marks c.filled-self-inside.result c.next_start-self-inside.result
    c.self.invariant.most
    (λ b h. c.unmark.ensures b h ∙ ap (λ plan. test plan b) c.as_slice.ensures.value)
    c.mark.ensures
    c.filled-self-inside.ensures
    (c.next_start-self-inside.ensures
    ∙ ap (λ plan. cursor_after c.self.inside.blocks c.self.inside.cursor (last_or None plan))
    c.as_slice-2.ensures.value)

pub returns-clause-tags : goal.returns-clause-tags
returns-clause-tags c = closed c

pub returns-clause-cycles : goal.returns-clause-cycles
returns-clause-cycles c = λ cycles written stands.
    let same = blocks_seen c.self.inside.blocks c.self.inside.cursor c.self.inside.remaining c.self.inside.written
    c.args.self.now c.self.view_is in
    closed c ∙ stand_closed c.args.self.now cycles written stands c.args.plan.now
    ∙ ap (λ b. tags_of b (record { planned = c.args.plan.now; written = written } ∷ cycles) []) same
