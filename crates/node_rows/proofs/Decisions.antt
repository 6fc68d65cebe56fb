-- That a node that is driven by hand has decided.
use Rattle.std.proofs.Common.{◌≡◌, ℕ, Option, Some, None, refl, subst, sym, ap}
use Rattle.guards_model.specs.Missions.{MissionValue, RulesValue}
use Rattle.guards_nodes.specs.NodeStates.{NodeValue, StateValue, running, RunningValue, ExchangeTreeValue, DecidedValue}
use Rattle.guards_nodes.specs.NodeSteps.{Received, after_decision, decides_by}
use Rattle.guards_nodes.specs.NodeCalls.{changed, on_running, HasDecided}
use Rattle.channel_node.specs.Answers.{HasDecidedState}
use Rattle.node_rows.specs.Driven.{InRound}
use Rattle.node_rows.proofs.Rounds.{stands_for}

decides_tree : (rules : RulesValue) (c : ℕ) (received : Received) (t : Option ExchangeTreeValue)
    (tree : ExchangeTreeValue) (r : RunningValue) →
    t ≡ Some tree → (d : DecidedValue) × ((decides_by rules c received t r).progress.decided ≡ Some d)
decides_tree rules c received None tree r is = absurd cc
decides_tree rules c received (Some t) tree r is = (_, refl)

part_decides : (rules : RulesValue) (c : ℕ) (received : Received) (r : RunningValue) (tree : ExchangeTreeValue) →
    r.progress.tree ≡ Some tree →
    HasDecidedState (running (after_decision rules c received r))
part_decides rules c received r tree had =
    let (d, is) = decides_tree rules c received r.progress.tree tree r had in
    record { part = after_decision rules c received r; decided = d; runs = refl; had = is }

decide_is : (M : MissionValue) (c round from : ℕ) (old new : NodeValue) (at : InRound round from old) →
    HasDecided M c old new →
    new ≡ changed (after_decision M.rules c at.received) old
decide_is M c round from old new at does =
    does at.received (stands_for old.state at.part at.tree at.received at.runs at.begun at.stands)

pub decide_rules : (M : MissionValue) (c round from : ℕ) (old new : NodeValue) → InRound round from old →
    HasDecided M c old new →
    new.rules ≡ old.rules
decide_rules M c round from old new at does = ap (λ (n : NodeValue). n.rules) (decide_is M c round from old new at does)

-- it decided
pub decides : (M : MissionValue) (c round from : ℕ) (old new : NodeValue) → InRound round from old →
    HasDecided M c old new → HasDecidedState new.state
decides M c round from old new at does =
    subst (λ (n : NodeValue). HasDecidedState n.state) (sym (decide_is M c round from old new at does))
    (subst (λ (s : StateValue). HasDecidedState (on_running (after_decision M.rules c at.received) s)) (sym at.runs)
    (part_decides M.rules c at.received at.part at.tree at.begun))
