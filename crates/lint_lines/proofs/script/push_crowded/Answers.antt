use Rattle.std.proofs.Common.{◌≡◌, ◌++◌, ◌∙◌, append-nil, sym, ap, arith}
use Rattle.std.specs.Prelude.{flat_map}
use Rattle.guards_model.specs.Channels.{numbers_below}
use Rattle.lint_lines.specs.ScriptLines.{crowded_line}
use Rattle.lint_lines.proofs.LineSteps.{number_more}
use Rattle.lint_lines.proofs.script.push_crowded.Goals as goal

pub loop-cycle-init : goal.loop-cycle-init
loop-cycle-init c = record { within = omega arith; done = sym (append-nil c.args.lines.now.items) }

pub loop-cycle-preserved : goal.loop-cycle-preserved
loop-cycle-preserved c =
    record {
      within = omega (arith, c.loop-cycle-test.true);
      done =
          number_more c.args.lines.now.items c.loop-cycle.lines.items c.push_line.new.lines.items
          (crowded_line c.args.channels c.args.script.now) c.loop-cycle.cycle c.loop-cycle.invariant.done
          (c.in_ok-push_line.ensures ∙ ap (λ ls. c.loop-cycle.lines.items ++ ls) c.crowded_line.ensures);
    }

pub returns : goal.returns
returns c =
    let end : c.loop-cycle.cycle ≡ c.args.cycles =
    omega (arith, c.loop-cycle-test.false, c.loop-cycle.invariant.within) in
    c.loop-cycle.invariant.done
    ∙ ap (λ n. c.args.lines.now.items
    ++ flat_map (crowded_line c.args.channels c.args.script.now) (numbers_below n)) end
