use Rattle.std.proofs.Common.{true, ◌≡◌, ◌≤◌, ◌∙◌, length, ap, subst, sym, refl, arith}
use Rattle.oral_messages.specs.Trees.{TreeValue, Holds, owed_items}
use Rattle.guards_model.specs.Frames.{exchange_in_range}
use Rattle.oral_messages.proofs.Formulas.{AreSized, sizes}
use Rattle.oral_messages.proofs.Ranged.{in_range_at}
use Rattle.oral_messages.proofs.Owed.{owed_own, owed_sources, owed_relays}
use Rattle.oral_messages.specs.contracts.tree.Tree.{the_view}
use Rattle.oral_messages.proofs.tree.Tree.relay.Goals as goal
use Rattle.oral_messages.proofs.tree.Tree.relay.Goals.{then-round-eq1+in_ok-items, else-round-eq1+then-round-eq2+in_ok-items-2, else-round-eq1+else-round-eq2+in_ok-items-3}

pub returns-clause-items : goal.returns-clause-items
returns-clause-items c =
    λ received.
    let items = c.if-round-eq1.items.items in
    let told = the_view c.self.inside in
    elim c.if-round-eq1.branch [
      | then-round-eq1+in_ok-items w ↦
          subst (λ (t : TreeValue). Holds t received → items ≡ owed_items t received c.args.round) c.self.view_is
          (λ holds. owed_own told received holds items (ap (λ v. v.items) w.items-is ∙ w.in_ok-items.ensures.items)
          ∙ ap (owed_items told received) (sym w.if-round-eq1.true))
      | else-round-eq1+then-round-eq2+in_ok-items-2 w ↦
          subst (λ (t : TreeValue). Holds t received → items ≡ owed_items t received c.args.round) c.self.view_is
          (λ holds. owed_sources told received holds items c.self.inside.first.items refl
          (λ value same. ap (λ v. v.items) w.items-is
          ∙ w.in_ok-items-2.ensures.items value (w.as_slice.ensures.value ∙ same))
          ∙ ap (owed_items told received) (sym w.if-round-eq2.true))
      | else-round-eq1+else-round-eq2+in_ok-items-3 w ↦
          let sized : AreSized c.self.inside.members = sizes c.self.inside.members c.self.invariant.set in
          let seven : length c.self.inside.members ≤ 7 = sized.seven in
          let high = c.requires.high in
          let low = c.requires.low in
          let one = w.if-round-eq1.false in
          let two = w.if-round-eq2.false in
          let same : length c.self.inside.members ≡ length c.args.self.now.members =
          ap (λ (t : TreeValue). length t.members) c.self.view_is in
          let last : 3 ≡ c.args.round = omega arith in
          let many : 4 ≤ length c.self.inside.members = omega arith in
          subst (λ (t : TreeValue). Holds t received → items ≡ owed_items t received c.args.round) c.self.view_is
          (λ holds. owed_relays told received holds items c.self.inside.second.items refl many
          (λ value same. ap (λ v. v.items) w.items-is
          ∙ w.in_ok-items-3.ensures.items value (w.as_slice-else-round-eq2.ensures.value ∙ same))
          ∙ ap (owed_items told received) last)
    ]

pub returns-clause-range : goal.returns-clause-range
returns-clause-range c =
    let items = c.if-round-eq1.items.items in
    let me = c.self.inside.me in
    let low = c.requires.low in
    let high = c.requires.high in
    let sized : AreSized c.self.inside.members = sizes c.self.inside.members c.self.invariant.set in
    let seven : length c.self.inside.members ≤ 7 = sized.seven in
    let same : length c.self.inside.members ≡ length c.args.self.now.members =
    ap (λ (t : TreeValue). length t.members) c.self.view_is in
    subst (λ (t : TreeValue). exchange_in_range t.me (record { round = c.args.round; items = items }) ≡ true)
    c.self.view_is
    (elim c.if-round-eq1.branch [
      | then-round-eq1+in_ok-items w ↦ in_range_at me c.args.round 1 items _ w.if-round-eq1.true
          (ap (λ v. v.items) w.items-is) w.in_ok-items.ensures.range
      | else-round-eq1+then-round-eq2+in_ok-items-2 w ↦ in_range_at me c.args.round 2 items _ w.if-round-eq2.true
          (ap (λ v. v.items) w.items-is) w.in_ok-items-2.ensures.range
      | else-round-eq1+else-round-eq2+in_ok-items-3 w ↦
          let one = w.if-round-eq1.false in
          let two = w.if-round-eq2.false in
          let last : c.args.round ≡ 3 = omega arith in
          in_range_at me c.args.round 3 items _ last (ap (λ v. v.items) w.items-is) w.in_ok-items-3.ensures.range
    ])
