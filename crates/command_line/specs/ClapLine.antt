-- The command line as `clap` is told it, and the command of what it finds.
use Rattle.std.specs.Prelude.{ℕ, Bool, true, false, List, [], Option, Some, None, option_map, option_and_then, if◌then◌else◌, codes}
use Rattle.std.specs.Option.{option_map_or}
use Rattle.std.specs.Str.{bytes_eq}
use Rattle.clap.specs.Words.{App, Row, Rule, Shape, Text, first_of, new_app, new_rule, with_rule, with_subcommand}
use Rattle.clap.specs.declared.builder.action.ArgAction.TheVariants.{Set, SetTrue}
use Rattle.command_line.specs.declared.command.Command.{Command}
use Rattle.command_line.specs.declared.command.Command.TheVariants.{Run, Check, Demo, Audit}
use Rattle.command_line.specs.Commands.{number_of, run_last}

-- the flag `--trace`
abbrev pub trace_rule : Rule
trace_rule = record (new_rule (codes "trace")) { long = Some (codes "trace"); action = Some SetTrue }

-- the option `--last`, which has a value
abbrev pub last_rule : Rule
last_rule = record (new_rule (codes "last")) { long = Some (codes "last"); action = Some Set }

-- a number, which has to be there
abbrev pub number_rule : Rule
number_rule = record (new_rule (codes "number")) { required = true }

abbrev pub run_shape : Shape
run_shape = (with_rule (with_rule (new_app (codes "run")) trace_rule) last_rule).top

abbrev pub check_shape : Shape
check_shape = (new_app (codes "check")).top

abbrev pub demo_shape : Shape
demo_shape = (with_rule (new_app (codes "demo")) number_rule).top

abbrev pub audit_shape : Shape
audit_shape = (new_app (codes "audit")).top

-- the words begin with a subcommand, and help is none
abbrev pub guards_top : Shape
guards_top = record (new_app (codes "guards")).top {
  no_binary_name = true;
  disable_help_flag = true;
  disable_help_subcommand = true;
  subcommand_required = true;
}

abbrev pub guards_app : App
guards_app =
    with_subcommand
    (with_subcommand (with_subcommand (with_subcommand (record { top = guards_top; subs = [] }) run_shape) check_shape)
    demo_shape)
    audit_shape

-- whether the flag was given
unfoldable pub has_flag : Text → List Row → Bool
has_flag id rows = option_map_or (λ text. bytes_eq text (codes "true")) (first_of id rows) false

-- the number that was given
unfoldable pub given_number : Text → List Row → Option ℕ
given_number id rows = option_and_then number_of (first_of id rows)

-- the command `run`, with the flag or without, and with the value of `--last` where it was given
abbrev pub run_given : Bool → Option Text → Option Command
run_given trace None = Some (Run trace None)
run_given trace (Some text) = run_last trace text

unfoldable pub run_found : List Row → Option Command
run_found rows = run_given (has_flag (codes "trace") rows) (first_of (codes "last") rows)

-- the command of a subcommand with its matches
unfoldable pub command_named : Text → List Row → Option Command
command_named name rows =
    if bytes_eq name (codes "run") then run_found rows
    else (if bytes_eq name (codes "check") then Some Check
    else (if bytes_eq name (codes "audit") then Some Audit
    else option_map Demo (given_number (codes "number") rows)))

abbrev pub command_found : Option (Text × List Row) → Option Command
command_found None = None
command_found (Some p) = command_named p.0 p.1
