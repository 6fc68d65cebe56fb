use Rattle.std.proofs.Common.{◌≡◌, ◌≤◌, ◌∙◌, length, ap, subst, arith}
use Rattle.oral_messages.specs.Trees.{TreeValue, tree_level}
use Rattle.oral_messages.proofs.Formulas.{AreSized, sizes}
use Rattle.oral_messages.proofs.tree.Tree.level.Goals as goal

pub returns-else-round-eq2 : goal.returns-else-round-eq2
returns-else-round-eq2 c =
    λ received h.
    let sized : AreSized c.self.inside.members = sizes c.self.inside.members c.self.invariant.set in
    let seven : length c.args.self.now.members ≤ 7 =
    subst (λ (t : TreeValue). length t.members ≤ 7) c.self.view_is sized.seven in
    let high = c.requires.high in
    let low = c.requires.low in
    let one = c.if-round-eq1.false in
    let two = c.if-round-eq2.false in
    let last : 3 ≡ c.args.round = omega arith in
    let many : 7 ≤ length c.args.self.now.members = omega arith in
    c.as_slice-else-round-eq2.ensures.value ∙ ap (λ (t : TreeValue). t.third) c.self.view_is ∙ h.third many
    ∙ ap (tree_level c.args.self.now received) last
