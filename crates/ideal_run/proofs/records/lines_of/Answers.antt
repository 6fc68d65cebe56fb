use Rattle.std.proofs.Common.{◌≤◌, length, map, take, ap, ◌∙◌, arith}
use Rattle.guards_base.specs.Seen.{Seen}
use Rattle.guards_model.specs.Records.{shown_line}
use Rattle.guards_model.specs.Texts.{LineValue}
use Rattle.guards_runs.specs.IdealReport.{ideal_line}
use Rattle.ideal_run.proofs.Shown.{lines_more}
use Rattle.ideal_run.proofs.records.lines_of.Goals as goal
use Rattle.ideal_run.proofs.records.lines_of.Goals.{in-Some+in_ok-push, in_default}

pub loop-number-preserved : goal.loop-number-preserved
loop-number-preserved c = λ width.
    let outputs = length c.args.ballot.now in
    let wanted = ideal_line c.args.channels (take width c.args.inputs) c.args.ballot.now in
    elim c.match-new.branch [
      | in-Some+in_ok-push w ↦
          ap (λ (lines : Seen LineValue). map (shown_line c.args.channels width outputs) lines.items) w.lines-is
          ∙ ap (map (shown_line c.args.channels width outputs)) w.in_ok-push.ensures.pushed
          ∙ lines_more c.args.channels width outputs c.loop-number.number wanted c.loop-number.lines.items
          w.line_of-line.result (c.loop-number.invariant width)
          (w.line_of-line.ensures c.args.channels width c.requires ∙ ap wanted w.in-Some.ensures)
      | in_default w ↦
          let none : 7 ≤ c.loop-number.number = w.in_default.ensures in
          absurd (omega (arith, none, c.loop-number-test.true, c.requires))
    ]
