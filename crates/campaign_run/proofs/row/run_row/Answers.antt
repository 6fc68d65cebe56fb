use Rattle.std.proofs.Common.{◌≡◌, ◌∙◌, List, ap, string_bytes, subst, sym}
use Rattle.guards_model.specs.Faults.{FaultValue}
use Rattle.guards_model.specs.Missions.{IsMission, MissionValue}
use Rattle.guards_model.specs.ScriptedBus.{IsScripted}
use Rattle.guards_world.specs.Worlds.{WorldValue}
use Rattle.campaign_text.specs.Rows.{row_text}
use Rattle.campaign_run.specs.Counting.{CountsTo}
use Rattle.campaign_run.proofs.Rows.{row_told}
use Rattle.campaign_run.proofs.row.run_row.Goals as goal

pub count_cycles-ran-requires-clause-mission : goal.count_cycles-ran-requires-clause-mission
count_cycles-ran-requires-clause-mission g c κs within =
    subst IsMission (sym (ap (λ (w : WorldValue). w.mission) c.in_ok-world.ensures)) c.prove_mission.ensures

pub returns : goal.returns
returns g c =
    let M = c.args.mission in
    let w = c.count_cycles-ran.new.world in
    let t = c.count_cycles-ran.new.tally in
    let stop = c.in_ok-stop.stop in
    let same : c.in_ok-world.world.mission ≡ M = ap (λ (x : WorldValue). x.mission) c.in_ok-world.ensures in
    let counts : CountsTo IsScripted M c.load.new.self M.cycles w c.count_cycles-ran.new.bus t c.count_cycles-ran.result =
    subst (λ (m : MissionValue).
    CountsTo IsScripted m c.load.new.self m.cycles w c.count_cycles-ran.new.bus t c.count_cycles-ran.result) same
    c.count_cycles-ran.ensures in
    let is : string_bytes c.in_ok-text.text ≡ row_text c.args.run c.args.state w.mission.script t stop c.args.bound =
    c.in_ok-text.ensures
    ∙ ap (λ (s : List FaultValue). row_text c.args.run c.args.state s t stop c.args.bound)
    (c.script-2.ensures ∙ ap (λ (m : MissionValue). m.script) c.mission-2.ensures) in
    row_told M c.args.run c.args.state c.args.bound c.load.new.self c.count_cycles-ran.new.bus w t
    (string_bytes c.in_ok-text.text) _ c.count_cycles-ran.result stop counts c.in_ok-stop.ensures is
