use Rattle.std.proofs.Common.{◌≡◌, map, not, filter, ap, sym, subst, ◌∙◌, List, true}
use Rattle.std.specs.List.{list_all}
use Rattle.guards_model.proofs.BoolTests.{both}
use Rattle.guards_model.proofs.ListTests.{all-filter}
use Rattle.guards_model.specs.Faults.{FaultValue}
use Rattle.guards_model.specs.Missions.{is_fault}
use Rattle.fault_script.specs.Entries.{fault_value, is_for_bus}
use Rattle.guards_nodes.specs.NodeCalls.{changed}
use Rattle.guards_world.specs.SlotSteps.{after_damages}
use Rattle.guards_nodes.specs.NodeStates.{RunningValue}
use Rattle.std.proofs.Math.Path.{fun_ext}
use Rattle.world_nodes.proofs.Damages.{without_rules}
use Rattle.world_nodes.proofs.opening.damage.Goals as goal

pub damage_by-requires-clause-faults : goal.damage_by-requires-clause-faults
damage_by-requires-clause-faults c =
    let M = c.args.mission.now in
    let parts = both _ (list_all (is_fault M) M.script) c.prove_mission.ensures.script in
    let here : map fault_value c.others.result.now ≡ filter (λ (e : FaultValue). not (is_for_bus e)) M.script =
    c.others.ensures ∙ ap (filter (λ (e : FaultValue). not (is_for_bus e))) c.script.ensures in
    subst (λ (xs : List FaultValue). list_all (is_fault M) xs ≡ true) (sym here)
    (all-filter (is_fault M) (λ (e : FaultValue). not (is_for_bus e)) M.script parts.1)

pub returns : goal.returns
returns c =
    let M = c.args.mission.now in
    let node = c.args.node.now in
    let here : map fault_value c.others.result.now ≡ filter (λ (e : FaultValue). not (is_for_bus e)) M.script =
    c.others.ensures ∙ ap (filter (λ (e : FaultValue). not (is_for_bus e))) c.script.ensures in
    c.damage_by.ensures
    ∙ ap (λ (xs : List FaultValue). changed (after_damages xs node.channel c.args.cycle) node) here
    ∙ ap (λ (f : RunningValue → RunningValue). changed f node)
    (fun_ext (λ r. without_rules M.script node.channel c.args.cycle r))
