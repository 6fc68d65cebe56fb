use Rattle.std.proofs.Common.{◌≡◌, ◌<◌, ◌≤◌, ◌++◌, ℕ, List, map, option_map, length, get_or, Option, sym, ap, ◌∙◌, arith}
use Rattle.std.proofs.lemmas.List.{get_or-map, length-map, length-take-le, take_all}
use Rattle.guards_model.specs.Expressions.{Expression}
use Rattle.expr_core.specs.Tree.{tree}
use Rattle.check_text.specs.Check.{texts_from, word_text}
use Rattle.check_text.proofs.PlaceTexts.{place_more}
use Rattle.check_text.proofs.rows.push_words.Goals as goal

pub loop-word-preserved : goal.loop-word-preserved
loop-word-preserved c =
    let e = c.index-set-word.result in
    let at = c.loop-word.word in
    let line : ℕ → Option Expression → List ℕ = word_text c.args.row c.args.task.now c.args.block in
    let set : List (Option Expression) = map (option_map tree) c.args.set.now in
    let this : get_or set at (option_map tree e) ≡ option_map tree (get_or c.args.set.now at e) =
    get_or-map (option_map tree) c.args.set.now at e (option_map tree e)
    (omega (arith, c.type_inv.set, c.loop-word-test.true)) in
    let low : at < length set =
    omega (arith, length-map c.args.set.now (option_map tree), c.type_inv.set, c.loop-word-test.true) in
    place_more c.args.text.now set at (option_map tree e) c.loop-word.text c.push_word.new.text line
    low (length-take-le at set (omega (arith, low))) c.loop-word.invariant
    (c.in_ok-push_word.ensures ∙ ap (λ x. c.loop-word.text ++ line at x) (sym this))

pub returns : goal.returns
returns c =
    let set : List (Option Expression) = map (option_map tree) c.args.set.now in
    let all : length set ≤ c.loop-word.word =
    omega (arith, length-map c.args.set.now (option_map tree), c.type_inv.set, c.loop-word-test.false) in
    c.loop-word.invariant ∙ ap
    (λ s. c.args.text.now ++ texts_from (word_text c.args.row c.args.task.now c.args.block) 0 s)
    (take_all c.loop-word.word set all)
