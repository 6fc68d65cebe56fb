use Rattle.std.proofs.Common.{◌≡◌, ◌<◌, ◌≤◌, ◌*◌, ◌∙◌, ◌++◌, ℕ, [], ◌∷◌, List, cond, ap, arith}
use Rattle.std.specs.Prelude.{flat_map, nat_lt}
use Rattle.std.specs.List.{list_all}
use Rattle.context_blocks.specs.BlockSets.{flag_at}
use Rattle.guards_model.specs.Channels.{numbers_below}
use Rattle.guards_model.specs.Contexts.{ContextValue}
use Rattle.task_table.specs.Tables.{TableValue}
use Rattle.table_flow.specs.Flow.{is_depended_on, is_input_read, is_read, is_written, lists_from}
use Rattle.lint_lines.specs.declared.line.LintLine.{LintLine}
use Rattle.lint_lines.specs.declared.line.LintLine.TheVariants.{UnreadSensor}
use Rattle.lint_lines.specs.WordLines.{output_line, output_lines, sensor_line, sensor_lines, silent_line, silent_lines, unwritten_line, unwritten_lines, word_lines}
use Rattle.lint_lines.proofs.LineSteps.{four_appended, numbers_alike}
use Rattle.lint_lines.proofs.WordSets.{outputs_alike, outputs_low, silent_alike, unwritten_alike}
use Rattle.lint_lines.proofs.words.push_word_lines.Goals as goal

pub push_outputs-requires-clause-words : goal.push_outputs-requires-clause-words
push_outputs-requires-clause-words c =
    ap (list_all (λ (o : ℕ × ℕ). nat_lt o.1 8)) c.outputs-2.ensures
    ∙ outputs_low c.args.mission.now.rules.blocks c.args.mission.now.outputs c.prove_sizes.ensures.outputs

pub returns : goal.returns
unfolding word_lines
returns c =
    let M = c.args.mission.now in
    let old = c.args.lines.now.items in
    let l1 = c.push_silent.new.lines.items in
    let l2 = c.push_outputs.new.lines.items in
    let l3 = c.push_sensors.new.lines.items in
    let flow = c.table_flow-flow.result in
    let dep = c.depended_words-depended.result in
    let count = c.word_count-count.ensures.value in
    let few : M.rules.blocks ≤ 256 = omega (arith, count, c.word_count-count.ensures.few) in
    let small : (w : ℕ) → w < M.rules.blocks * 8 → w < 2048 = λ w low. omega (arith, low, few) in
    let written : (w : ℕ) → w < 2048 → flag_at flow.written w ≡ is_written M.table w = λ w low.
    c.table_flow-flow.ensures.written w low ∙ ap (λ (t : TableValue). is_written t.rows w) c.table.ensures in
    let read : (w : ℕ) → w < 2048 → flag_at flow.words w ≡ is_read M.table w = λ w low.
    c.table_flow-flow.ensures.read w low ∙ ap (λ (t : TableValue). is_read t.rows w) c.table.ensures in
    let inputs : (k : ℕ) → k < 4 → flag_at flow.inputs k ≡ is_input_read M.table k = λ k low.
    c.table_flow-flow.ensures.inputs k low ∙ ap (λ (t : TableValue). is_input_read t.rows k) c.table.ensures in
    let depended : (w : ℕ) → w < 2048 → flag_at dep w ≡ is_depended_on M.rules.blocks M.table M.outputs w = λ w low.
    c.depended_words-depended.ensures w low
    ∙ ap (λ n. is_depended_on n c.table-2.result.now.rows c.outputs.result.now w) c.block_count-blocks.ensures.value
    ∙ ap (λ (t : TableValue). is_depended_on M.rules.blocks t.rows c.outputs.result.now w) c.table-2.ensures
    ∙ ap (λ (os : List (ℕ × ℕ)). is_depended_on M.rules.blocks M.table os w) c.outputs.ensures in
    four_appended old (silent_lines M) (output_lines M) (sensor_lines M) (unwritten_lines M) l1 l2 l3
    c.push_unwritten.new.lines.items
    (c.in_ok-push_silent.ensures
    ∙ ap (λ n. old ++ flat_map (silent_line (flag_at flow.written) (flag_at dep)) (numbers_below n)) count
    ∙ ap (λ (ls : List LintLine). old ++ ls)
    (numbers_alike (silent_line (flag_at flow.written) (flag_at dep))
    (silent_line (is_written M.table) (is_depended_on M.rules.blocks M.table M.outputs)) (M.rules.blocks * 8)
    (λ w low. silent_alike (flag_at flow.written) (flag_at dep) (is_written M.table)
    (is_depended_on M.rules.blocks M.table M.outputs) w (written w (small w low)) (depended w (small w low)))))
    (c.in_ok-push_outputs.ensures
    ∙ ap (λ (os : List (ℕ × ℕ)). l1 ++ lists_from (output_line (flag_at flow.written)) 0 os) c.outputs-2.ensures
    ∙ ap (λ (ls : List LintLine). l1 ++ ls)
    (outputs_alike (flag_at flow.written) (is_written M.table) M.rules.blocks 0 M.outputs few
    c.prove_sizes.ensures.outputs written))
    (c.in_ok-push_sensors.ensures
    ∙ ap (λ n. l2 ++ flat_map (sensor_line (flag_at flow.inputs)) (numbers_below n)) c.width.ensures
    ∙ ap (λ (ls : List LintLine). l2 ++ ls)
    (numbers_alike (sensor_line (flag_at flow.inputs)) (sensor_line (is_input_read M.table)) M.width
    (λ k low. ap (λ t. cond t [] (UnreadSensor k ∷ [])) (inputs k (omega (arith, low, c.prove_sizes.ensures.narrow))))))
    (c.in_ok-push_unwritten.ensures
    ∙ ap (λ n. l3 ++ flat_map (unwritten_line c.initial.result.now (flag_at flow.words) (flag_at flow.written))
    (numbers_below n)) count
    ∙ ap (λ (ctx : ContextValue). l3
    ++ flat_map (unwritten_line ctx (flag_at flow.words) (flag_at flow.written))
    (numbers_below (M.rules.blocks * 8))) c.initial.ensures
    ∙ ap (λ (ls : List LintLine). l3 ++ ls)
    (numbers_alike (unwritten_line M.initial (flag_at flow.words) (flag_at flow.written))
    (unwritten_line M.initial (is_read M.table) (is_written M.table)) (M.rules.blocks * 8)
    (λ w low. unwritten_alike M.initial (flag_at flow.words) (flag_at flow.written) (is_read M.table)
    (is_written M.table) w (read w (small w low)) (written w (small w low)))))
