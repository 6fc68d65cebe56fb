use Rattle.std.proofs.Common.{◌≡◌, ◌∙◌, ◌||◌, sym, ap}
use Rattle.expr_core.specs.Tree.{tree}
use Rattle.expr_core.proofs.Trees.{tree_native, tree_pick}
use Rattle.context_blocks.specs.BlockSets.{flag_at}
use Rattle.table_flow.specs.Flow.{names_input, names_word}
use Rattle.table_flow.proofs.Flows.{or_three}
use Rattle.table_flow.proofs.names.+flag_names.Goals as goal

pub returns-in-Native-clause-words : goal.returns-in-Native-clause-words
returns-in-Native-clause-words t c = λ w low.
    let a = names_word (tree c.get-in-Native.result.now) w in
    let b = names_word (tree c.get-in-Native-2.result.now) w in
    let d = names_word (tree c.get-in-Native-3.result.now) w in
    let named : names_word (tree c.args.expr.now) w
    ≡ ((names_word (tree c.in-Native.a) w || names_word (tree c.in-Native.b) w)
    || names_word (tree c.in-Native.c) w) =
    ap (λ e. names_word (tree e) w) c.in-Native.is
    ∙ ap (λ e. names_word e w) (tree_native c.in-Native.field-0 c.in-Native.a c.in-Native.b c.in-Native.c) in
    let first : a ≡ names_word (tree c.in-Native.a) w = ap (λ e. names_word (tree e) w) c.get-in-Native.ensures in
    let second : b ≡ names_word (tree c.in-Native.b) w = ap (λ e. names_word (tree e) w) c.get-in-Native-2.ensures in
    let third : d ≡ names_word (tree c.in-Native.c) w = ap (λ e. names_word (tree e) w) c.get-in-Native-3.ensures in
    c.flag_names-in-Native-3.ensures.words w low
    ∙ ap (λ f. f || d) (c.flag_names-in-Native-2.ensures.words w low
    ∙ ap (λ f. f || b) (c.flag_names-in-Native.ensures.words w low))
    ∙ or_three (flag_at c.args.flow.now.words w) a b d
    ∙ ap (λ x. flag_at c.args.flow.now.words w || x)
    (ap (λ x. (x || b) || d) first ∙ ap (λ x. (names_word (tree c.in-Native.a) w || x) || d) second
    ∙ ap (λ x. (names_word (tree c.in-Native.a) w || names_word (tree c.in-Native.b) w) || x) third ∙ sym named)

pub returns-in-Native-clause-inputs : goal.returns-in-Native-clause-inputs
returns-in-Native-clause-inputs t c = λ k low.
    let a = names_input (tree c.get-in-Native.result.now) k in
    let b = names_input (tree c.get-in-Native-2.result.now) k in
    let d = names_input (tree c.get-in-Native-3.result.now) k in
    let named : names_input (tree c.args.expr.now) k
    ≡ ((names_input (tree c.in-Native.a) k || names_input (tree c.in-Native.b) k)
    || names_input (tree c.in-Native.c) k) =
    ap (λ e. names_input (tree e) k) c.in-Native.is
    ∙ ap (λ e. names_input e k) (tree_native c.in-Native.field-0 c.in-Native.a c.in-Native.b c.in-Native.c) in
    let first : a ≡ names_input (tree c.in-Native.a) k = ap (λ e. names_input (tree e) k) c.get-in-Native.ensures in
    let second : b ≡ names_input (tree c.in-Native.b) k = ap (λ e. names_input (tree e) k) c.get-in-Native-2.ensures in
    let third : d ≡ names_input (tree c.in-Native.c) k = ap (λ e. names_input (tree e) k) c.get-in-Native-3.ensures in
    c.flag_names-in-Native-3.ensures.inputs k low
    ∙ ap (λ f. f || d) (c.flag_names-in-Native-2.ensures.inputs k low
    ∙ ap (λ f. f || b) (c.flag_names-in-Native.ensures.inputs k low))
    ∙ or_three (flag_at c.args.flow.now.inputs k) a b d
    ∙ ap (λ x. flag_at c.args.flow.now.inputs k || x)
    (ap (λ x. (x || b) || d) first ∙ ap (λ x. (names_input (tree c.in-Native.a) k || x) || d) second
    ∙ ap (λ x. (names_input (tree c.in-Native.a) k || names_input (tree c.in-Native.b) k) || x) third ∙ sym named)

pub returns-in-Pick-clause-words : goal.returns-in-Pick-clause-words
returns-in-Pick-clause-words t c = λ w low.
    let a = names_word (tree c.get-in-Pick.result.now) w in
    let b = names_word (tree c.get-in-Pick-2.result.now) w in
    let d = names_word (tree c.get-in-Pick-3.result.now) w in
    let named : names_word (tree c.args.expr.now) w
    ≡ ((names_word (tree c.in-Pick.a) w || names_word (tree c.in-Pick.b) w) || names_word (tree c.in-Pick.c) w) =
    ap (λ e. names_word (tree e) w) c.in-Pick.is
    ∙ ap (λ e. names_word e w) (tree_pick c.in-Pick.a c.in-Pick.b c.in-Pick.c) in
    let first : a ≡ names_word (tree c.in-Pick.a) w = ap (λ e. names_word (tree e) w) c.get-in-Pick.ensures in
    let second : b ≡ names_word (tree c.in-Pick.b) w = ap (λ e. names_word (tree e) w) c.get-in-Pick-2.ensures in
    let third : d ≡ names_word (tree c.in-Pick.c) w = ap (λ e. names_word (tree e) w) c.get-in-Pick-3.ensures in
    c.flag_names-in-Pick-3.ensures.words w low
    ∙ ap (λ f. f || d) (c.flag_names-in-Pick-2.ensures.words w low
    ∙ ap (λ f. f || b) (c.flag_names-in-Pick.ensures.words w low))
    ∙ or_three (flag_at c.args.flow.now.words w) a b d
    ∙ ap (λ x. flag_at c.args.flow.now.words w || x)
    (ap (λ x. (x || b) || d) first ∙ ap (λ x. (names_word (tree c.in-Pick.a) w || x) || d) second
    ∙ ap (λ x. (names_word (tree c.in-Pick.a) w || names_word (tree c.in-Pick.b) w) || x) third ∙ sym named)

pub returns-in-Pick-clause-inputs : goal.returns-in-Pick-clause-inputs
returns-in-Pick-clause-inputs t c = λ k low.
    let a = names_input (tree c.get-in-Pick.result.now) k in
    let b = names_input (tree c.get-in-Pick-2.result.now) k in
    let d = names_input (tree c.get-in-Pick-3.result.now) k in
    let named : names_input (tree c.args.expr.now) k
    ≡ ((names_input (tree c.in-Pick.a) k || names_input (tree c.in-Pick.b) k) || names_input (tree c.in-Pick.c) k) =
    ap (λ e. names_input (tree e) k) c.in-Pick.is
    ∙ ap (λ e. names_input e k) (tree_pick c.in-Pick.a c.in-Pick.b c.in-Pick.c) in
    let first : a ≡ names_input (tree c.in-Pick.a) k = ap (λ e. names_input (tree e) k) c.get-in-Pick.ensures in
    let second : b ≡ names_input (tree c.in-Pick.b) k = ap (λ e. names_input (tree e) k) c.get-in-Pick-2.ensures in
    let third : d ≡ names_input (tree c.in-Pick.c) k = ap (λ e. names_input (tree e) k) c.get-in-Pick-3.ensures in
    c.flag_names-in-Pick-3.ensures.inputs k low
    ∙ ap (λ f. f || d) (c.flag_names-in-Pick-2.ensures.inputs k low
    ∙ ap (λ f. f || b) (c.flag_names-in-Pick.ensures.inputs k low))
    ∙ or_three (flag_at c.args.flow.now.inputs k) a b d
    ∙ ap (λ x. flag_at c.args.flow.now.inputs k || x)
    (ap (λ x. (x || b) || d) first ∙ ap (λ x. (names_input (tree c.in-Pick.a) k || x) || d) second
    ∙ ap (λ x. (names_input (tree c.in-Pick.a) k || names_input (tree c.in-Pick.b) k) || x) third ∙ sym named)
