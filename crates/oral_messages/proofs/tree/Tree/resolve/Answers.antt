use Rattle.std.proofs.Common.{◌≡◌, ◌≤◌, ◌<◌, ◌+◌, ◌-◌, ◌*◌, ◌∙◌, IsTrue, [], ◌∷◌, length, take, drop, ap, sym, subst, arith}
use Rattle.std.specs.Prelude.{slice_get}
use Rattle.guards_model.specs.Channels.{has, tolerated_faults}
use Rattle.guards_model.specs.OralMessages.{majority_value}
use Rattle.oral_messages.specs.contracts.tree.Tree.{the_view}
use Rattle.oral_messages.specs.Ranks.{rank}
use Rattle.oral_messages.specs.Trees.{TreeValue, Holds}
use Rattle.oral_messages.proofs.Levels.{resolved, resolved_at_once, resolved_by_branches, resolved_by_levels, value_at, SourcePlace, source_place, source_path}
use Rattle.oral_messages.proofs.tree.Tree.resolve.Goals as goal

pub index-requires-then-count-lt4 : goal.index-requires-then-count-lt4
index-requires-then-count-lt4 c =
    let member : IsTrue (has c.self.inside.members c.args.source) =
    subst (λ (t : TreeValue). IsTrue (has t.members c.args.source)) (sym c.self.view_is) c.requires in
    let place : c.first-place.result ≡ rank c.self.inside.members (c.args.source ∷ []) =
    c.first-place.ensures ∙ ap (λ s. rank c.self.inside.members (s ∷ [])) c.index.ensures.number in
    let at : SourcePlace c.self.inside.members c.args.source =
    source_place c.self.inside.members c.args.source c.self.invariant.set member in
    omega arith

pub settle_branches-requires-clause-small : goal.settle_branches-requires-clause-small
settle_branches-requires-clause-small c =
    let member : IsTrue (has c.self.inside.members c.args.source) =
    subst (λ (t : TreeValue). IsTrue (has t.members c.args.source)) (sym c.self.view_is) c.requires in
    let place : c.first-place.result ≡ rank c.self.inside.members (c.args.source ∷ []) =
    c.first-place.ensures ∙ ap (λ s. rank c.self.inside.members (s ∷ [])) c.index.ensures.number in
    let at : SourcePlace c.self.inside.members c.args.source =
    source_place c.self.inside.members c.args.source c.self.invariant.set member in
    omega arith

pub settle_branches-requires-clause-within : goal.settle_branches-requires-clause-within
settle_branches-requires-clause-within c =
    let member : IsTrue (has c.self.inside.members c.args.source) =
    subst (λ (t : TreeValue). IsTrue (has t.members c.args.source)) (sym c.self.view_is) c.requires in
    let place : c.first-place.result ≡ rank c.self.inside.members (c.args.source ∷ []) =
    c.first-place.ensures ∙ ap (λ s. rank c.self.inside.members (s ∷ [])) c.index.ensures.number in
    let at : SourcePlace c.self.inside.members c.args.source =
    source_place c.self.inside.members c.args.source c.self.invariant.set member in
    let left : c.from.result - 1 ≡ length c.self.inside.members - 1 = omega arith in
    let some : 4 ≤ length c.self.inside.members = omega arith in
    let long = c.self.invariant.second some in
    subst (λ n. c.first-place.result * n + n ≤ length c.deref.result.now) (sym left)
    (subst (λ p. p * (length c.self.inside.members - 1) + (length c.self.inside.members - 1)
    ≤ length c.deref.result.now) (sym place)
    (subst (λ n. rank c.self.inside.members
    (c.args.source ∷ []) * (length c.self.inside.members - 1) + (length c.self.inside.members - 1) ≤ n)
    (sym (c.deref.ensures.len ∙ long)) at.branches))

pub settle_each-requires-clause-within : goal.settle_each-requires-clause-within
settle_each-requires-clause-within c =
    let member : IsTrue (has c.self.inside.members c.args.source) =
    subst (λ (t : TreeValue). IsTrue (has t.members c.args.source)) (sym c.self.view_is) c.requires in
    let place : c.first-place.result ≡ rank c.self.inside.members (c.args.source ∷ []) =
    c.first-place.ensures ∙ ap (λ s. rank c.self.inside.members (s ∷ [])) c.index.ensures.number in
    let at : SourcePlace c.self.inside.members c.args.source =
    source_place c.self.inside.members c.args.source c.self.invariant.set member in
    omega arith

pub returns-then-count-lt4 : goal.returns-then-count-lt4
returns-then-count-lt4 c =
    λ received h.
    let P : TreeValue → Type 0 = λ t. IsTrue (has t.members c.args.source) → Holds t received →
    c.index-then-count-lt4.result.now ≡ resolved t received (tolerated_faults t.members) c.args.source in
    let place : c.first-place.result ≡ rank c.self.inside.members (c.args.source ∷ []) =
    c.first-place.ensures ∙ ap (λ s. rank c.self.inside.members (s ∷ [])) c.index.ensures.number in
    let few : length c.self.inside.members < 4 = omega arith in
    subst P c.self.view_is
    (λ member holds.
    value_at c.self.inside.first.items c.first-place.result c.index-then-count-lt4.result.now
    (resolved (the_view c.self.inside) received (tolerated_faults c.self.inside.members) c.args.source)
    c.index-then-count-lt4.ensures
    (ap (slice_get c.self.inside.first.items) place
    ∙ resolved_at_once (the_view c.self.inside) received c.args.source c.self.invariant.set member few holds))
    c.requires h

pub returns-then-count-lt7 : goal.returns-then-count-lt7
returns-then-count-lt7 c =
    λ received h.
    let P : TreeValue → Type 0 = λ t. IsTrue (has t.members c.args.source) → Holds t received →
    c.settle_branches.result ≡ resolved t received (tolerated_faults t.members) c.args.source in
    let place : c.first-place.result ≡ rank c.self.inside.members (c.args.source ∷ []) =
    c.first-place.ensures ∙ ap (λ s. rank c.self.inside.members (s ∷ [])) c.index.ensures.number in
    let some : 4 ≤ length c.self.inside.members = omega arith in
    let few : length c.self.inside.members < 7 = omega arith in
    let left : c.from.result - 1 ≡ length c.self.inside.members - 1 = omega arith in
    subst P c.self.view_is
    (λ member holds.
    c.settle_branches.ensures
    ∙ ap (λ n. majority_value (take n (drop (c.first-place.result * n) c.deref.result.now))) left
    ∙ ap (λ p. majority_value
    (take (length c.self.inside.members - 1) (drop (p * (length c.self.inside.members - 1)) c.deref.result.now)))
    place
    ∙ ap (λ xs. majority_value
    (take (length c.self.inside.members - 1)
    (drop (rank c.self.inside.members (c.args.source ∷ []) * (length c.self.inside.members - 1)) xs)))
    c.deref.ensures.value
    ∙ resolved_by_branches (the_view c.self.inside) received c.args.source c.self.invariant.set member some few holds)
    c.requires h

pub returns-else-count-lt7 : goal.returns-else-count-lt7
returns-else-count-lt7 c =
    λ received h.
    let P : TreeValue → Type 0 = λ t. IsTrue (has t.members c.args.source) → Holds t received →
    c.settle.result ≡ resolved t received (tolerated_faults t.members) c.args.source in
    let place : c.first-place.result ≡ rank c.self.inside.members (c.args.source ∷ []) =
    c.first-place.ensures ∙ ap (λ s. rank c.self.inside.members (s ∷ [])) c.index.ensures.number in
    subst P c.self.view_is
    (λ member holds.
    let at : SourcePlace c.self.inside.members c.args.source =
    source_place c.self.inside.members c.args.source c.self.invariant.set member in
    let seven : length c.self.inside.members ≡ 7 = omega arith in
    c.settle.ensures
    ∙ resolved_by_levels (the_view c.self.inside) received c.args.source c.settle_each.result c.self.invariant.set
    member seven
    c.settle_each.ensures.six
    (λ k lt. c.settle_each.ensures.settled k lt
    ∙ ap (λ p. majority_value (take 5 (drop ((p * 6 + k) * 5) c.deref-else-count-lt7.result.now))) place
    ∙ ap (λ xs. majority_value (take 5 (drop ((rank c.self.inside.members (c.args.source ∷ []) * 6 + k) * 5) xs)))
    c.deref-else-count-lt7.ensures.value)
    holds)
    c.requires h

pub first-place-requires : goal.first-place-requires
first-place-requires c =
    let member : IsTrue (has c.self.inside.members c.args.source) =
    subst (λ (t : TreeValue). IsTrue (has t.members c.args.source)) (sym c.self.view_is) c.requires in
    source_path c.self.inside.members c.index.result
    (subst (λ s. IsTrue (has c.self.inside.members s)) (sym c.index.ensures.number) member)
