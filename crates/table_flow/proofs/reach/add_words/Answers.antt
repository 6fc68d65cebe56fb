use Rattle.std.proofs.Common.{◌≡◌, ◌<◌, ◌≤◌, List, map, option_map, length, get_or, Option, sym, subst, arith}
use Rattle.std.proofs.lemmas.List.{get_or-map, length-map, length-take-le, take_all}
use Rattle.guards_model.specs.Expressions.{Expression}
use Rattle.expr_core.specs.Tree.{tree}
use Rattle.context_blocks.specs.BlockSets.{flag_at}
use Rattle.table_flow.specs.Flow.{FlowsInto, lists_from, word_assignments}
use Rattle.table_flow.proofs.Flows.{flows_none, flows_place}
use Rattle.table_flow.proofs.reach.add_words.Goals as goal

pub loop-word-init : goal.loop-word-init
loop-word-init c = flows_none (flag_at c.args.kept.now) c.args.flow.now

pub loop-word-preserved : goal.loop-word-preserved
loop-word-preserved c =
    let e = c.index-set-word.result in
    let at = c.loop-word.word in
    let kept = flag_at c.args.kept.now in
    let set : List (Option Expression) = map (option_map tree) c.args.set.now in
    let this : get_or set at (option_map tree e) ≡ option_map tree (get_or c.args.set.now at e) =
    get_or-map (option_map tree) c.args.set.now at e (option_map tree e)
    (omega (arith, c.type_inv.set, c.loop-word-test.true)) in
    let low : at < length set =
    omega (arith, length-map c.args.set.now (option_map tree), c.type_inv.set, c.loop-word-test.true) in
    flows_place kept set at (option_map tree e) c.args.flow.now c.loop-word.flow c.add_word.new.flow
    (word_assignments c.args.block)
    low (length-take-le at set (omega (arith, low))) c.loop-word.invariant
    (subst (λ (x : Option Expression).
    FlowsInto kept (word_assignments c.args.block at x) c.loop-word.flow c.add_word.new.flow) (sym this)
    c.add_word.ensures)

pub returns : goal.returns
returns c =
    let set : List (Option Expression) = map (option_map tree) c.args.set.now in
    let all : length set ≤ c.loop-word.word =
    omega (arith, length-map c.args.set.now (option_map tree), c.type_inv.set, c.loop-word-test.false) in
    subst (λ (s : List (Option Expression)).
    FlowsInto (flag_at c.args.kept.now) (lists_from (word_assignments c.args.block) 0 s) c.args.flow.now
    c.loop-word.flow)
    (take_all c.loop-word.word set all) c.loop-word.invariant
