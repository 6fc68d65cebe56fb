use Rattle.std.proofs.Common.{◌≡◌, ◌∙◌, ◌&&◌, ◌||◌, not, refl, ap, arith}
use Rattle.std.specs.List.{list_any}
use Rattle.guards_model.specs.Modes.{is_restart}
use Rattle.lint_lines.specs.ScriptLines.{is_crash_in, is_down_before}
use Rattle.lint_lines.proofs.Entries.{down_next}
use Rattle.lint_lines.proofs.script.is_down_before.Goals as goal

pub loop-before-init : goal.loop-before-init
loop-before-init c = record { within = omega arith; down = refl }

pub loop-before-preserved : goal.loop-before-preserved
loop-before-preserved c =
    let script = c.args.script.now in
    let q = c.args.channel in
    let n = c.loop-before.before in
    record {
      within = omega (arith, c.loop-before-test.true);
      down =
          c.is_down_after-down.ensures
          ∙ ap (λ d. list_any (is_crash_in q n) script || (d && not (list_any (is_restart q n) script)))
          c.loop-before.invariant.down
          ∙ down_next script q n;
    }

pub returns : goal.returns
returns c =
    let end : c.loop-before.before ≡ c.args.cycle =
    omega (arith, c.loop-before-test.false, c.loop-before.invariant.within) in
    c.loop-before.invariant.down ∙ ap (is_down_before c.args.script.now c.args.channel) end
