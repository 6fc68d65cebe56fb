use Rattle.std.proofs.Common.{◌≡◌, ◌++◌, ◌∙◌, append-nil, sym, ap, arith}
use Rattle.std.specs.Prelude.{flat_map}
use Rattle.context_blocks.specs.BlockSets.{flag_at}
use Rattle.guards_model.specs.Channels.{numbers_below}
use Rattle.lint_lines.specs.WordLines.{silent_line}
use Rattle.lint_lines.proofs.LineSteps.{number_more}
use Rattle.lint_lines.proofs.words.push_silent.Goals as goal

pub loop-w-init : goal.loop-w-init
loop-w-init c = record { within = omega arith; done = sym (append-nil c.args.lines.now.items) }

pub loop-w-preserved : goal.loop-w-preserved
loop-w-preserved c =
    record {
      within = omega (arith, c.loop-w-test.true);
      done =
          number_more c.args.lines.now.items c.loop-w.lines.items c.push_line.new.lines.items
          (silent_line (flag_at c.args.written.now) (flag_at c.args.depended.now)) c.loop-w.w
          c.loop-w.invariant.done
          (c.in_ok-push_line.ensures ∙ ap (λ ls. c.loop-w.lines.items ++ ls) c.silent_line.ensures);
    }

pub returns : goal.returns
returns c =
    let end : c.loop-w.w ≡ c.args.count = omega (arith, c.loop-w-test.false, c.loop-w.invariant.within) in
    c.loop-w.invariant.done ∙ ap
    (λ n. c.args.lines.now.items
    ++ flat_map (silent_line (flag_at c.args.written.now) (flag_at c.args.depended.now)) (numbers_below n)) end
