use Rattle.std.proofs.Common.{◌≤◌, ◌∙◌, [], length, ap, arith}
use Rattle.std.specs.Prelude.{flat_map}
use Rattle.std.proofs.lemmas.List.{take_all}
use Rattle.lint_lines.specs.LineTexts.{line_text, lint_text}
use Rattle.lint_lines.proofs.LineSteps.{element_more}
use Rattle.lint_lines.proofs.text.lines_text.Goals as goal

pub loop-place-preserved : goal.loop-place-preserved
loop-place-preserved c =
    element_more [] c.loop-place.text c.push_text.new.text line_text c.args.lines.now c.loop-place.place _
    c.loop-place-test.true c.loop-place.invariant
    c.in_ok-push_text.ensures

pub returns : goal.returns
unfolding lint_text
returns c =
    let lines = c.args.lines.now in
    let end : length lines ≤ c.loop-place.place = omega (arith, c.loop-place-test.false) in
    c.loop-place.invariant ∙ ap (flat_map line_text) (take_all c.loop-place.place lines end)
