use Rattle.std.proofs.Common.{◌∙◌, sym, ap}
use Rattle.fault_script.specs.Entries.{fault_value}
use Rattle.lint_lines.specs.ScriptLines.{idle_entry}
use Rattle.lint_lines.proofs.script.idle_entry.Goals as goal

pub returns-in-Crash : goal.returns-in-Crash
returns-in-Crash c = c.crash_line.ensures ∙ sym (ap (λ e. idle_entry c.args.script.now (fault_value e)) c.in-Crash.is)
