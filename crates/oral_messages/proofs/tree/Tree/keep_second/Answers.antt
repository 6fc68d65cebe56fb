use Rattle.std.proofs.Common.{◌≢◌, ◌≤◌, [], ◌∷◌, IsTrue, length, refl, sym, ap, subst, arith}
use Rattle.std.specs.Prelude.{slice_set}
use Rattle.oral_messages.specs.Ranks.{is_path}
use Rattle.oral_messages.specs.Trees.{TreeValue, KeepsSecond}
use Rattle.oral_messages.proofs.Levels.{second_below, third_below, few_members, own_path, apart_two}
use Rattle.oral_messages.proofs.tree.Tree.keep_second.Goals as goal

pub index_mut-requires : goal.index_mut-requires
index_mut-requires c =
    let path : IsTrue (is_path c.self.inside.members (c.args.b ∷ c.args.a ∷ [])) =
    subst (λ (t : TreeValue). IsTrue (is_path t.members (c.args.b ∷ c.args.a ∷ []))) (sym c.self.view_is)
    c.requires.path in
    let many : 4 ≤ length c.self.inside.members =
    subst (λ (t : TreeValue). 4 ≤ length t.members) (sym c.self.view_is) c.requires.many in
    let long = c.self.invariant.second many in
    let below = second_below c.self.inside.members (c.args.b ∷ c.args.a ∷ []) c.self.invariant.set path refl in
    let small = below.0 in
    let place = c.second-place.ensures in
    omega arith

pub index_mut-requires-then-a-self : goal.index_mut-requires-then-a-self
index_mut-requires-then-a-self c =
    let front : IsTrue (is_path c.self.inside.members (c.args.b ∷ c.args.a ∷ [])) =
    subst (λ (t : TreeValue). IsTrue (is_path t.members (c.args.b ∷ c.args.a ∷ []))) (sym c.self.view_is)
    c.requires.path in
    let ne : c.args.b ≢ c.self.inside.me =
    subst (λ (t : TreeValue). c.args.b ≢ t.me) (sym c.self.view_is) c.requires.another in
    let path = own_path c.self.inside.members c.self.inside.me (c.args.b ∷ c.args.a ∷ []) front c.self.invariant.mine
    (apart_two c.args.a c.args.b c.self.inside.me c.if-a-self.true ne) in
    let below = third_below c.self.inside.members (c.self.inside.me ∷ c.args.b ∷ c.args.a ∷ []) c.self.invariant.set
    path refl in
    let many : 7 ≤ length c.self.inside.members = omega arith in
    let long = c.self.invariant.third many in
    let place = c.third-told.ensures in
    omega arith

pub returns-then-a-self : goal.returns-then-a-self
returns-then-a-self c =
    let after : TreeValue = record {
      members = c.self.inside.members;
      me = c.self.inside.me;
      width = c.self.inside.width;
      own = c.self.inside.own;
      first = c.self.inside.first.items;
      second = (slice_set c.self.inside.second.items c.second-place.result c.args.word.now);
      third = (slice_set c.self.inside.third.items c.third-told.result c.args.word.now);
    } in
    subst (λ (t : TreeValue). KeepsSecond t after c.args.a c.args.b c.args.word.now) c.self.view_is
    (record {
      same = record { members = refl; me = refl; width = refl; own = refl };
      first = refl;
      second = ap (λ p. slice_set c.self.inside.second.items p c.args.word.now) c.second-place.ensures;
      third = λ many ne. ap (λ p. slice_set c.self.inside.third.items p c.args.word.now) c.third-told.ensures;
      own = λ e. absurd (c.if-a-self.true e);
    })

pub returns-else-count-eq7 : goal.returns-else-count-eq7
returns-else-count-eq7 c =
    let after : TreeValue = record {
      members = c.self.inside.members;
      me = c.self.inside.me;
      width = c.self.inside.width;
      own = c.self.inside.own;
      first = c.self.inside.first.items;
      second = (slice_set c.self.inside.second.items c.second-place.result c.args.word.now);
      third = c.self.inside.third.items;
    } in
    subst (λ (t : TreeValue). KeepsSecond t after c.args.a c.args.b c.args.word.now) c.self.view_is
    (record {
      same = record { members = refl; me = refl; width = refl; own = refl };
      first = refl;
      second = ap (λ p. slice_set c.self.inside.second.items p c.args.word.now) c.second-place.ensures;
      third = λ many ne. let few = few_members c.self.inside.members c.self.invariant.set in let other =
          c.if-count-eq7.false in absurd (omega arith);
      own = λ e. refl;
    })

pub returns-else-a-self : goal.returns-else-a-self
returns-else-a-self c =
    let after : TreeValue = record {
      members = c.self.inside.members;
      me = c.self.inside.me;
      width = c.self.inside.width;
      own = c.self.inside.own;
      first = c.self.inside.first.items;
      second = (slice_set c.self.inside.second.items c.second-place.result c.args.word.now);
      third = c.self.inside.third.items;
    } in
    subst (λ (t : TreeValue). KeepsSecond t after c.args.a c.args.b c.args.word.now) c.self.view_is
    (record {
      same = record { members = refl; me = refl; width = refl; own = refl };
      first = refl;
      second = ap (λ p. slice_set c.self.inside.second.items p c.args.word.now) c.second-place.ensures;
      third = λ many ne. absurd (ne c.if-a-self.false);
      own = λ e. refl;
    })

pub third-told-requires : goal.third-told-requires
third-told-requires c =
    let front : IsTrue (is_path c.self.inside.members (c.args.b ∷ c.args.a ∷ [])) =
    subst (λ (t : TreeValue). IsTrue (is_path t.members (c.args.b ∷ c.args.a ∷ []))) (sym c.self.view_is)
    c.requires.path in
    let ne : c.args.b ≢ c.self.inside.me =
    subst (λ (t : TreeValue). c.args.b ≢ t.me) (sym c.self.view_is) c.requires.another in
    own_path c.self.inside.members c.self.inside.me (c.args.b ∷ c.args.a ∷ []) front c.self.invariant.mine
    (apart_two c.args.a c.args.b c.self.inside.me c.if-a-self.true ne)
