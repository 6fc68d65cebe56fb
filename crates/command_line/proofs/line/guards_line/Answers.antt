use Rattle.std.proofs.Common.{◌≡◌, ◌∙◌, ap, ap₂, true, []}
use Rattle.std.proofs.lemmas.Result.{IfOk-weaker}
use Rattle.clap.specs.Words.{App, app_of, shape_of, with_subcommand}
use Rattle.clap.specs.Simple.{app_of_fields}
use Rattle.command_line.specs.ClapLine.{audit_shape, check_shape, guards_top}
use Rattle.command_line.proofs.line.guards_line.Goals as goal

pub returns : goal.returns
returns c =
    let named : (App → App) = λ a. record a { top = record a.top { no_binary_name = true } } in
    let without_flag : (App → App) = λ a. record a { top = record a.top { disable_help_flag = true } } in
    let without_help : (App → App) = λ a. record a { top = record a.top { disable_help_subcommand = true } } in
    let required : (App → App) = λ a. record a { top = record a.top { subcommand_required = true } } in
    let top : app_of c.subcommand_required-line.result ≡ record { top = guards_top; subs = [] } =
    ap app_of_fields c.subcommand_required-line.ensures
    ∙ ap required (ap app_of_fields c.disable_help_subcommand.ensures
    ∙ ap without_help (ap app_of_fields c.disable_help_flag.ensures
    ∙ ap without_flag (ap app_of_fields c.no_binary_name.ensures
    ∙ ap named c.new.ensures.app))) in
    let first = c.in_ok-subcommand.ensures.shape c.in_ok-run.ensures.own
    ∙ ap₂ with_subcommand top c.in_ok-run.ensures.shape in
    let check : shape_of c.new-check.result ≡ check_shape = ap (λ (a : App). a.top) c.new-check.ensures.app in
    let second = c.in_ok-subcommand-2.ensures.shape c.new-check.ensures.local ∙ ap₂ with_subcommand first check in
    let third = c.in_ok-subcommand-3.ensures.shape c.in_ok-demo.ensures.own
    ∙ ap₂ with_subcommand second c.in_ok-demo.ensures.shape in
    let audit : shape_of c.new-audit.result ≡ audit_shape = ap (λ (a : App). a.top) c.new-audit.ensures.app in
    IfOk-weaker c.subcommand-4.result _ _
    (λ line added. added.shape c.new-audit.ensures.local ∙ ap₂ with_subcommand third audit) c.subcommand-4.ensures
