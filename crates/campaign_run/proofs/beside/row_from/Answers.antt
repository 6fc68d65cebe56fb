use Rattle.std.proofs.Common.{refl, ap, ◌∙◌, string_bytes}
use Rattle.std.proofs.lemmas.Result.{IfOk-weaker}
use Rattle.mission_text.specs.Mission.{mission_of}
use Rattle.campaign_draws.specs.Drawing.{drawn_mission}
use Rattle.campaign_run.specs.Beside.{TellsFrom, told}
use Rattle.campaign_run.proofs.Campaigning.{drawn_row, same_read}
use Rattle.campaign_run.proofs.beside.row_from.Goals as goal

pub returns : goal.returns
returns g c =
    λ M is.
    let read = c.in-Ok.mission in
    let given = c.in_ok-drawn.ensures.mission ∙ ap (drawn_mission read c.args.rates) c.of-draws.ensures in
    IfOk-weaker c.run_row.result _ (TellsFrom M c.args.rates c.args.run c.args.state)
    (λ row tells.
    drawn_row M read c.in_ok-drawn.drawn c.args.rates c.args.state c.args.run c.args.state c.bound_of-bound.result
    (told row) (string_bytes row.text) (same_read (mission_of c.args.bytes.now) read M c.in-Ok.ensures is) given refl
    c.bound_of-bound.ensures tells)
    c.run_row.ensures
