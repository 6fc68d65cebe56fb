use Rattle.std.proofs.Common.{◌-◌, ◌/◌, ◌++◌, ◌+◌, ℕ, List, Option, ap, sym, ◌∙◌}
use Rattle.std.proofs.lemmas.List.FromFn.{length-range_with_len}
use Rattle.guards_model.specs.CheckTexts.{check_head_part}
use Rattle.guards_model.specs.JoinBound.{join_bound, most_blocks}
use Rattle.guards_model.specs.Missions.{RulesValue}
use Rattle.guards_model.specs.Texts.{part_text}
use Rattle.task_table.specs.Tables.{TableValue}
use Rattle.check_text.specs.Check.{head_text, rounds_of}
use Rattle.check_text.proofs.head.head_text.Goals as goal

pub returns : goal.returns
unfolding head_text
returns c =
    let M = c.args.mission.now in
    let text : ℕ → ℕ → ℕ → ℕ → ℕ → Option ℕ →
    List ℕ = λ channels cycles blocks rounds writes bound.
    part_text (check_head_part channels cycles blocks rounds writes bound) in
    let seen = c.rules.view_is ∙ c.rules-rules.ensures in
    let channels = ap (λ (r : RulesValue). r.channels) seen in
    let blocks = ap (λ (r : RulesValue). r.blocks) seen in
    let writes = c.most_blocks-writes.ensures ∙ ap (λ (t : TableValue). most_blocks t.rows) c.table.ensures in
    let rounds = ap (λ n. (n - 1) / 3 + 1) (channels ∙ sym (length-range_with_len 0 M.rules.channels)) in
    let bound = c.join_bound-bound.ensures
    ∙ ap (λ n. join_bound n c.from.result c.from-2.result c.most_blocks-writes.result) blocks
    ∙ ap (λ n. join_bound M.rules.blocks n c.from-2.result c.most_blocks-writes.result)
    (c.from.ensures ∙ ap (λ (r : RulesValue). r.sweep) seen)
    ∙ ap (λ n. join_bound M.rules.blocks M.rules.sweep n c.most_blocks-writes.result)
    (c.from-2.ensures ∙ ap (λ (r : RulesValue). r.last) seen)
    ∙ ap (join_bound M.rules.blocks M.rules.sweep M.rules.last) writes in
    c.in_ok-check_head.ensures.written
    ∙ ap (λ t. t ++ text c.rules.inside.channels c.cycles.result c.rules.inside.blocks
    ((c.rules.inside.channels - 1) / 3 + 1) c.most_blocks-writes.result c.join_bound-bound.result)
    c.new-text.ensures
    ∙ ap (λ n. text n c.cycles.result c.rules.inside.blocks ((c.rules.inside.channels - 1) / 3 + 1)
    c.most_blocks-writes.result c.join_bound-bound.result) channels
    ∙ ap (λ n. text M.rules.channels n c.rules.inside.blocks ((c.rules.inside.channels - 1) / 3 + 1)
    c.most_blocks-writes.result c.join_bound-bound.result) c.cycles.ensures
    ∙ ap (λ n. text M.rules.channels M.cycles n ((c.rules.inside.channels - 1) / 3 + 1) c.most_blocks-writes.result
    c.join_bound-bound.result) blocks
    ∙ ap (λ n. text M.rules.channels M.cycles M.rules.blocks n c.most_blocks-writes.result c.join_bound-bound.result)
    rounds
    ∙ ap (λ n. text M.rules.channels M.cycles M.rules.blocks (rounds_of M) n c.join_bound-bound.result) writes
    ∙ ap (text M.rules.channels M.cycles M.rules.blocks (rounds_of M) (most_blocks M.table)) bound
