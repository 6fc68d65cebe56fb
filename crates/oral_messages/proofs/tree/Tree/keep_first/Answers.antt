use Rattle.std.proofs.Common.{◌≢◌, ◌≤◌, [], ◌∷◌, IsTrue, length, refl, sym, ap, subst, arith}
use Rattle.std.specs.Prelude.{slice_set}
use Rattle.guards_model.specs.Channels.{has}
use Rattle.oral_messages.specs.Trees.{TreeValue, KeepsFirst}
use Rattle.oral_messages.proofs.Levels.{first_below, second_below, source_path, own_path, apart_one}
use Rattle.oral_messages.proofs.tree.Tree.keep_first.Goals as goal

pub index_mut-requires : goal.index_mut-requires
index_mut-requires c =
    let member : IsTrue (has c.self.inside.members c.args.a) =
    subst (λ (t : TreeValue). IsTrue (has t.members c.args.a)) (sym c.self.view_is) c.requires.member in
    let below = first_below c.self.inside.members (c.args.a ∷ []) c.self.invariant.set
    (source_path c.self.inside.members c.args.a member) refl in
    let small = below.0 in
    let place = c.first-place.ensures in
    omega arith

pub index_mut-requires-then-count-ge4 : goal.index_mut-requires-then-count-ge4
index_mut-requires-then-count-ge4 c =
    let member : IsTrue (has c.self.inside.members c.args.a) =
    subst (λ (t : TreeValue). IsTrue (has t.members c.args.a)) (sym c.self.view_is) c.requires.member in
    let ne : c.args.a ≢ c.self.inside.me =
    subst (λ (t : TreeValue). c.args.a ≢ t.me) (sym c.self.view_is) c.requires.another in
    let path = own_path c.self.inside.members c.self.inside.me (c.args.a ∷ [])
    (source_path c.self.inside.members c.args.a member) c.self.invariant.mine
    (apart_one c.args.a c.self.inside.me ne) in
    let below = second_below c.self.inside.members (c.self.inside.me ∷ c.args.a ∷ []) c.self.invariant.set path refl in
    let many : 4 ≤ length c.self.inside.members = omega arith in
    let long = c.self.invariant.second many in
    let small = below.0 in
    let place = c.second-told.ensures in
    omega arith

pub returns-then-count-ge4 : goal.returns-then-count-ge4
returns-then-count-ge4 c =
    let after : TreeValue = record {
      members = c.self.inside.members;
      me = c.self.inside.me;
      width = c.self.inside.width;
      own = c.self.inside.own;
      first = (slice_set c.self.inside.first.items c.first-place.result c.args.word.now);
      second = (slice_set c.self.inside.second.items c.second-told.result c.args.word.now);
      third = c.self.inside.third.items;
    } in
    subst (λ (t : TreeValue). KeepsFirst t after c.args.a c.args.word.now) c.self.view_is
    (record {
      same = record { members = refl; me = refl; width = refl; own = refl };
      first = ap (λ p. slice_set c.self.inside.first.items p c.args.word.now) c.first-place.ensures;
      second = λ many. ap (λ p. slice_set c.self.inside.second.items p c.args.word.now) c.second-told.ensures;
      third = refl;
    })

pub returns-else-count-ge4 : goal.returns-else-count-ge4
returns-else-count-ge4 c =
    let after : TreeValue = record {
      members = c.self.inside.members;
      me = c.self.inside.me;
      width = c.self.inside.width;
      own = c.self.inside.own;
      first = (slice_set c.self.inside.first.items c.first-place.result c.args.word.now);
      second = c.self.inside.second.items;
      third = c.self.inside.third.items;
    } in
    subst (λ (t : TreeValue). KeepsFirst t after c.args.a c.args.word.now) c.self.view_is
    (record {
      same = record { members = refl; me = refl; width = refl; own = refl };
      first = ap (λ p. slice_set c.self.inside.first.items p c.args.word.now) c.first-place.ensures;
      second = λ many. absurd (omega arith);
      third = refl;
    })

pub first-place-requires : goal.first-place-requires
first-place-requires c =
    source_path c.self.inside.members c.args.a
    (subst (λ (t : TreeValue). IsTrue (has t.members c.args.a)) (sym c.self.view_is) c.requires.member)

pub second-told-requires : goal.second-told-requires
second-told-requires c =
    let member : IsTrue (has c.self.inside.members c.args.a) =
    subst (λ (t : TreeValue). IsTrue (has t.members c.args.a)) (sym c.self.view_is) c.requires.member in
    let ne : c.args.a ≢ c.self.inside.me =
    subst (λ (t : TreeValue). c.args.a ≢ t.me) (sym c.self.view_is) c.requires.another in
    own_path c.self.inside.members c.self.inside.me (c.args.a ∷ []) (source_path c.self.inside.members c.args.a member)
    c.self.invariant.mine (apart_one c.args.a c.self.inside.me ne)
