use Rattle.std.proofs.Common.{◌≡◌, ◌∙◌, ◌+◌, ◌++◌, Bool, List, refl, ap}
use Rattle.std.specs.Prelude.{filter_map, flat_map, is_some}
use Rattle.guards_model.specs.BusRules.{RuleValue}
use Rattle.guards_model.specs.Channels.{numbers_below, tolerated_faults}
use Rattle.guards_model.specs.Faults.{FaultValue}
use Rattle.guards_model.specs.Missions.{bus_rule, bus_rules, channels_of}
use Rattle.lint_lines.specs.declared.line.LintLine.{LintLine}
use Rattle.lint_lines.specs.ScriptLines.{crowded_line, crowded_lines, idle_entry, idle_rule, script_lines}
use Rattle.lint_lines.proofs.Entries.{lines_of_others}
use Rattle.lint_lines.proofs.LineSteps.{three_appended}
use Rattle.lint_lines.proofs.script.push_script_lines.Goals as goal

pub returns : goal.returns
unfolding script_lines
returns c =
    let M = c.args.mission.now in
    let old = c.args.lines.now.items in
    let l1 = c.push_crowded.new.lines.items in
    let l2 = c.push_idle_entries.new.lines.items in
    let script = c.script-script.result.now in
    let n = c.cycles.result in
    let rounds = c.rounds_of-rounds.result in
    let drives = c.has_actuator-drives.result in
    let rules = c.rules.result.now in
    let is = c.script-script.ensures in
    let channels = c.channels_of-channels.ensures in
    let rounds_is : rounds ≡ tolerated_faults (channels_of M) + 1 =
    c.rounds_of-rounds.ensures ∙ ap (λ k. tolerated_faults (numbers_below k) + 1) channels in
    let rules_are : rules ≡ bus_rules M = c.rules.ensures ∙ ap (filter_map bus_rule) is in
    three_appended old (crowded_lines M) (flat_map (idle_entry M.script) M.script)
    (flat_map (idle_rule M.rules.channels (tolerated_faults (channels_of M) + 1) (is_some M.actuator)) (bus_rules M))
    l1 l2 c.push_idle_rules.new.lines.items
    (c.in_ok-push_crowded.ensures
    ∙ ap (λ k. old ++ flat_map (crowded_line k script) (numbers_below n)) channels
    ∙ ap (λ s. old ++ flat_map (crowded_line M.rules.channels s) (numbers_below n)) is
    ∙ ap (λ k. old ++ flat_map (crowded_line M.rules.channels M.script) (numbers_below k)) c.cycles.ensures)
    (c.in_ok-push_idle_entries.ensures
    ∙ ap (λ (ls : List LintLine). l1 ++ ls)
    (lines_of_others (idle_entry script) (λ rule. refl) c.others.result.now script c.others.ensures
    ∙ ap (λ (s : List FaultValue). flat_map (idle_entry s) s) is))
    (c.in_ok-push_idle_rules.ensures
    ∙ ap (λ k. l2 ++ flat_map (idle_rule k rounds drives) rules) channels
    ∙ ap (λ k. l2 ++ flat_map (idle_rule M.rules.channels k drives) rules) rounds_is
    ∙ ap (λ (b : Bool). l2 ++ flat_map (idle_rule M.rules.channels (tolerated_faults (channels_of M) + 1) b) rules)
    c.has_actuator-drives.ensures
    ∙ ap (λ (rs : List RuleValue). l2
    ++ flat_map (idle_rule M.rules.channels (tolerated_faults (channels_of M) + 1) (is_some M.actuator)) rs)
    rules_are)
