use Rattle.std.proofs.Common.{◌≡◌, ◌++◌, ◌∙◌, append-nil, sym, ap, arith}
use Rattle.std.specs.Prelude.{flat_map}
use Rattle.guards_model.specs.Channels.{numbers_below}
use Rattle.lint_lines.proofs.LineSteps.{number_more}
use Rattle.recovery_laws.specs.Lengths.{transfer_length}
use Rattle.mission_lint.specs.RuleLines.{length_line}
use Rattle.mission_lint.proofs.transfer.push_transfers.Goals as goal

pub loop-row-init : goal.loop-row-init
loop-row-init c = record { within = omega arith; done = sym (append-nil c.args.lines.now.items) }

pub loop-row-preserved : goal.loop-row-preserved
loop-row-preserved c =
    record {
      within = omega (arith, c.loop-row-test.true);
      done =
          number_more c.args.lines.now.items c.loop-row.lines.items c.push_line.new.lines.items
          (λ row. length_line row (transfer_length c.args.mission.now row)) c.loop-row.row
          c.loop-row.invariant.done
          (c.in_ok-push_line.ensures
          ∙ ap (λ ls. c.loop-row.lines.items ++ ls)
          (c.length_line.ensures ∙ ap (length_line c.loop-row.row) c.transfer_length.ensures));
    }

pub returns : goal.returns
returns c =
    let end : c.loop-row.row ≡ c.args.rows = omega (arith, c.loop-row-test.false, c.loop-row.invariant.within) in
    c.loop-row.invariant.done
    ∙ ap (λ n. c.args.lines.now.items
    ++ flat_map (λ row. length_line row (transfer_length c.args.mission.now row)) (numbers_below n)) end
