use Rattle.std.proofs.Common.{◌<◌, ◌++◌, ◌∙◌, length, append-nil, sym, ap, arith}
use Rattle.std.proofs.lemmas.List.{length-take-le}
use Rattle.context_blocks.specs.BlockSets.{flag_at}
use Rattle.lint_lines.specs.WordLines.{output_line}
use Rattle.lint_lines.proofs.LineSteps.{place_more}
use Rattle.lint_lines.proofs.words.push_outputs.Goals as goal

pub loop-place-init : goal.loop-place-init
loop-place-init c = sym (append-nil c.args.lines.now.items)

pub loop-place-preserved : goal.loop-place-preserved
loop-place-preserved c =
    let outputs = c.args.outputs.now in
    let at = c.loop-place.place in
    let low : at < length outputs = c.loop-place-test.true in
    place_more c.args.lines.now.items c.loop-place.lines.items c.push_line.new.lines.items
    (output_line (flag_at c.args.written.now)) outputs at (0, 0) low
    (length-take-le at outputs (omega (arith, low))) c.loop-place.invariant
    (c.in_ok-push_line.ensures ∙ ap (λ ls. c.loop-place.lines.items ++ ls) c.output_line.ensures)
