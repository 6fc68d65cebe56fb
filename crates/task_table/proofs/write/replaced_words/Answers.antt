use Rattle.std.proofs.Common.{rules, tests, ◌≡◌, ◌∙◌, refl, sym, ap, subst, ℕ, ◌+◌, ◌-◌, ◌*◌, ◌<◌, ◌≤◌, ◌==◌, Bool, true, false, cond, ◌&&◌, ◌||◌, List, [], ◌∷◌, ◌++◌, length, take, drop, get_or, Option, Some, None, arith, length-append, w64, to_z, of_z, ℤ, set as set_at}
use Rattle.std.specs.Prelude.{map, option_map}
use Rattle.std.proofs.lemmas.List.{length-map}
use Rattle.guards_model.specs.Contexts.{BlockValue}
use Rattle.guards_model.specs.Expressions.{Expression, value_of}
use Rattle.guards_model.specs.Tasks.{replaced}
use Rattle.expr_core.specs.Tree.{tree}
use Rattle.task_table.proofs.Replacing.{set_word, replaced_more, expr_fits, tree_at, taken_all}
use Rattle.task_table.proofs.write.replaced_words.Goals.{in-Some, in_default}
use Rattle.task_table.proofs.write.replaced_words.Goals as goal

pub loop-at-init : goal.loop-at-init
loop-at-init g c = refl

pub eval-requires : goal.eval-requires
eval-requires g c =
    let there : c.loop-at.at < length c.args.set.now = omega (arith, c.loop-at-test.true, c.type_inv.set) in
    expr_fits (length c.args.ctx.now) c.args.set.now c.loop-at.at c.index-set-at.result c.in-Some.expr there
    c.in-Some.is c.requires

pub loop-at-preserved : goal.loop-at-preserved
loop-at-preserved g c =
    let set = c.args.set.now in
    let at = c.loop-at.at in
    let there : at < length set = omega (arith, c.loop-at-test.true, c.type_inv.set) in
    let sets : List (Option Expression) = map (option_map tree) set in
    let size = length-map set (option_map tree) in
    let old : length c.args.old ≡ 8 = search rules in
    let more = replaced_more c.args.ctx.now c.args.inputs.now c.args.cycle sets c.args.old at
    (omega (arith, there, size)) (omega (arith, size, old, c.type_inv.set)) in
    let here = tree_at set at c.index-set-at.result there in
    let before : BlockValue = replaced (take at sets) c.args.old c.args.ctx.now c.args.inputs.now c.args.cycle in
    let set_by : Option Expression →
    BlockValue = λ o. set_word o before at c.args.ctx.now c.args.inputs.now c.args.cycle in
    elim c.match-set-at.branch [
      | in-Some w ↦ (
          let value : ℤ = value_of (tree w.in-Some.expr) c.args.ctx.now c.args.inputs.now c.args.cycle in
          let stays : to_z w64 (of_z w64 w.eval.result) ≡ w.eval.result = search rules in
          w.words-is ∙ ap (set_at c.loop-at.words at) (stays ∙ w.eval.ensures)
          ∙ ap (λ ws. set_at ws at value) c.loop-at.invariant
          ∙ sym (more ∙ ap set_by (here ∙ ap (option_map tree) w.in-Some.is))
          )
      | in_default w ↦ (w.words-is ∙ c.loop-at.invariant
          ∙ sym (more ∙ ap set_by (here ∙ ap (option_map tree) w.in_default.is)))
    ]

pub returns : goal.returns
returns g c =
    let sets : List (Option Expression) = map (option_map tree) c.args.set.now in
    let size = length-map c.args.set.now (option_map tree) in
    let all : take c.loop-at.at sets ≡ sets =
    taken_all sets c.loop-at.at (omega (arith, size, c.type_inv.set, c.loop-at-test.false)) in
    c.loop-at.invariant ∙ ap (λ s. replaced s c.args.old c.args.ctx.now c.args.inputs.now c.args.cycle) all
