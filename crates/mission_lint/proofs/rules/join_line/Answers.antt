use Rattle.std.proofs.Common.{◌∙◌, [], ◌∷◌, ap, ℕ, List}
use Rattle.std.specs.Prelude.{is_none, if◌then◌else◌}
use Rattle.guards_model.specs.JoinBound.{join_bound, most_blocks}
use Rattle.lint_lines.specs.declared.line.LintLine.{LintLine}
use Rattle.lint_lines.specs.declared.line.LintLine.TheVariants.{JoinUnbounded}
use Rattle.mission_lint.proofs.rules.join_line.Goals as goal

pub returns : goal.returns
returns c =
    let M = c.args.mission.now in
    let line : ℕ → ℕ → ℕ → List LintLine =
    λ writes sweep last. if is_none (join_bound M.rules.blocks sweep last writes)
    then JoinUnbounded writes sweep last ∷ [] else [] in
    c.unbounded_line.ensures M.rules.blocks
    ∙ ap (λ n. line n c.sweep_of.result c.last_of.result) c.writes_of.ensures
    ∙ ap (λ n. line (most_blocks M.table) n c.last_of.result) c.sweep_of.ensures.value
    ∙ ap (line (most_blocks M.table) M.rules.sweep) c.last_of.ensures
