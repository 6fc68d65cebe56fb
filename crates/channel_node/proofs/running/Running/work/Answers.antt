use Rattle.std.proofs.Common.{◌≡◌, ◌∙◌, ◌-◌, ◌++◌, pos, List, length, replicate, Some, sym, subst, ap, rules, true}
use Rattle.guards_model.specs.Contexts.{ContextValue}
use Rattle.guards_model.specs.Missions.{RulesValue, cycle_writes}
use Rattle.guards_model.specs.Rounds.{IsFull, copies_of_replay}
use Rattle.guards_model.specs.Tasks.{WriteValue, whole}
use Rattle.guards_nodes.specs.NodeStates.{RunningValue, DecidedValue}
use Rattle.guards_nodes.specs.NodeSteps.{plan_in, HasWorked}
use Rattle.sweep_round.specs.Trails.{trail_cycle, trail_steps}
use Rattle.task_table.specs.Tables.{TableValue, table_writes}
use Rattle.channel_node.specs.Fits.{tags_fit, rest_fits}
use Rattle.channel_node.proofs.RunningWorked.{length-whole, round_of, worked_with, works}
use Rattle.channel_node.proofs.running.Running.work.Goals as goal

pub invariant_of-result : goal.invariant_of-result
invariant_of-result g c =
    let same : length c.in-Ok.done.context ≡ length c.self.inside.context =
    ap (λ (x : ContextValue). length x) c.in-Ok.ensures.context
    ∙ length-whole (table_writes c.table.result.now c.args.cycle) c.self.inside.context c.args.cycle
    c.whole_inputs-inputs.result in
    record {
      tags = subst (λ n. tags_fit n c.self.inside.control.sweeping ≡ true) (sym same) c.self.invariant.tags;
      rest = subst (λ n. rest_fits n c.self.inside.closed ≡ true) (sym same) c.self.invariant.rest;
      heard_codes = c.self.invariant.heard_codes;
      hearing_codes = c.self.invariant.hearing_codes;
    }

pub returns-in-Ok-clause-blocks : goal.returns-in-Ok-clause-blocks
returns-in-Ok-clause-blocks g c =
    ap (λ (x : ContextValue). length x) c.in-Ok.ensures.context
    ∙ length-whole (table_writes c.table.result.now c.args.cycle) c.self.inside.context c.args.cycle
    c.whole_inputs-inputs.result
    ∙ ap (λ (r : RunningValue). length r.held.context) c.self.view_is

pub returns-in-Ok-clause-worked : goal.returns-in-Ok-clause-worked
returns-in-Ok-clause-worked g c =
    let i = c.self.inside in
    let old : RunningValue =
    record {
      held = record { context = i.context; control = i.control; accused = i.accused; heard = i.heard };
      progress = record {
        hearing = i.hearing;
        tree = i.tree;
        decided = i.decided;
        worked = i.worked;
        closed = i.closed;
      };
    } in
    let view : old ≡ c.args.self = c.self.view_is in
    let d : DecidedValue = c.requires.decided.0 in
    let row : List WriteValue = cycle_writes c.args.mission.now c.args.cycle in
    let had : old.progress.decided ≡ Some d =
    ap (λ (r : RunningValue). r.progress.decided) view ∙ c.requires.decided.1 in
    let kept : c.unwrap.result.now ≡ c.requires.decided.0 = search rules in
    let inputs : c.whole_inputs-inputs.result ≡ d.inputs ++ replicate (4 - length d.inputs) (pos 0) =
    c.whole_inputs-inputs.ensures
    ∙ ap (λ (x : DecidedValue). x.inputs ++ replicate (4 - length x.inputs) (pos 0)) kept in
    let told : c.plan-plan.result ≡ plan_in c.rules.result.now c.args.self.held = c.plan-plan.ensures.plan in
    let planned : c.plan-plan.result ≡ plan_in c.args.mission.now.rules old.held =
    told ∙ ap (λ (x : RulesValue). plan_in x c.args.self.held) c.rules.ensures
    ∙ ap (λ (r : RunningValue). plan_in c.args.mission.now.rules r.held) (sym view) in
    let table : table_writes c.table.result.now c.args.cycle ≡ row =
    ap (λ (t : TableValue). table_writes t c.args.cycle) c.table.ensures in
    let full : IsFull (round_of row i.context c.args.cycle c.whole_inputs-inputs.result c.plan-plan.result)
    (trail_steps c.in-Ok.done.history) =
    subst (λ ws. IsFull (round_of ws i.context c.args.cycle c.whole_inputs-inputs.result c.plan-plan.result)
    (trail_steps c.in-Ok.done.history)) table c.in-Ok.ensures.full in
    let after : c.in-Ok.done.context ≡ whole row i.context c.args.cycle c.whole_inputs-inputs.result =
    c.in-Ok.ensures.context ∙ ap (λ ws. whole ws i.context c.args.cycle c.whole_inputs-inputs.result) table in
    let made : c.in-Ok.done.copies.items
    ≡ copies_of_replay (round_of row i.context c.args.cycle c.whole_inputs-inputs.result c.plan-plan.result)
    (trail_steps c.in-Ok.done.history) =
    c.in-Ok.ensures.copies ∙ ap
    (λ ws. copies_of_replay (round_of ws i.context c.args.cycle c.whole_inputs-inputs.result c.plan-plan.result)
    (trail_steps c.in-Ok.done.history)) table in
    let worked : HasWorked c.args.mission.now.rules row c.args.cycle old
    (worked_with old c.in-Ok.done.context c.args.cycle (trail_steps c.in-Ok.done.history)
    c.in-Ok.done.copies.items) =
    works c.args.mission.now.rules row c.args.cycle old d c.whole_inputs-inputs.result c.plan-plan.result
    (trail_steps c.in-Ok.done.history)
    c.in-Ok.done.context c.in-Ok.done.copies.items had inputs planned full after made in
    let timed : HasWorked c.args.mission.now.rules row c.args.cycle old
    (worked_with old c.in-Ok.done.context (trail_cycle c.in-Ok.done.history) (trail_steps c.in-Ok.done.history)
    c.in-Ok.done.copies.items) =
    subst (λ n. HasWorked c.args.mission.now.rules row c.args.cycle old
    (worked_with old c.in-Ok.done.context n (trail_steps c.in-Ok.done.history) c.in-Ok.done.copies.items))
    (sym c.in-Ok.ensures.cycle) worked in
    subst
    (λ (x : RunningValue). HasWorked c.args.mission.now.rules row c.args.cycle x
    (worked_with old c.in-Ok.done.context (trail_cycle c.in-Ok.done.history) (trail_steps c.in-Ok.done.history)
    c.in-Ok.done.copies.items))
    view timed
