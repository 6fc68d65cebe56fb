use Rattle.std.proofs.Common.{◌≡◌, ◌++◌, ◌∙◌, append-nil, sym, ap, arith}
use Rattle.std.specs.Prelude.{flat_map}
use Rattle.context_blocks.specs.BlockSets.{flag_at}
use Rattle.guards_model.specs.Channels.{numbers_below}
use Rattle.lint_lines.specs.WordLines.{sensor_line}
use Rattle.lint_lines.proofs.LineSteps.{number_more}
use Rattle.lint_lines.proofs.words.push_sensors.Goals as goal

pub loop-k-init : goal.loop-k-init
loop-k-init c = record { within = omega arith; done = sym (append-nil c.args.lines.now.items) }

pub loop-k-preserved : goal.loop-k-preserved
loop-k-preserved c =
    record {
      within = omega (arith, c.loop-k-test.true);
      done =
          number_more c.args.lines.now.items c.loop-k.lines.items c.push_line.new.lines.items
          (sensor_line (flag_at c.args.read.now)) c.loop-k.k c.loop-k.invariant.done
          (c.in_ok-push_line.ensures ∙ ap (λ ls. c.loop-k.lines.items ++ ls) c.sensor_line.ensures);
    }

pub returns : goal.returns
returns c =
    let end : c.loop-k.k ≡ c.args.width = omega (arith, c.loop-k-test.false, c.loop-k.invariant.within) in
    c.loop-k.invariant.done ∙ ap
    (λ n. c.args.lines.now.items ++ flat_map (sensor_line (flag_at c.args.read.now)) (numbers_below n)) end
