use Rattle.std.proofs.Common.{◌∙◌, ap}
use Rattle.guards_model.specs.Missions.{MissionValue}
use Rattle.guards_model.specs.ScriptFaults.{script_fault}
use Rattle.campaign_draws.specs.Drawing.{with_script}
use Rattle.campaign_draws.proofs.DrawnMissions.{with_other}
use Rattle.campaign_draws.proofs.mission.with_script.Goals as goal

pub invariant_of-changed : goal.invariant_of-changed
invariant_of-changed c =
    let m = c.changed.inside in
    let kept =
    ap (λ (M : MissionValue). script_fault M.rules.channels M.cycles M.rules.blocks c.args.script) c.changed.view_is
    ∙ c.requires.kept in
    with_other m.rules m.cycles m.width m.return_after m.initial m.table m.outputs.items m.sensors.items m.script
    c.args.script m.actuator c.changed.invariant c.requires.entries kept

pub returns : goal.returns
returns c = ap (λ (m : MissionValue). with_script m c.args.script) c.changed.view_is
