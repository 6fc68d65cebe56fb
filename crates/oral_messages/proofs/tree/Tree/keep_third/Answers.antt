use Rattle.std.proofs.Common.{◌≤◌, [], ◌∷◌, IsTrue, length, refl, sym, ap, subst, arith}
use Rattle.std.specs.Prelude.{slice_set}
use Rattle.oral_messages.specs.Ranks.{is_path}
use Rattle.oral_messages.specs.Trees.{TreeValue, KeepsThird}
use Rattle.oral_messages.proofs.Levels.{third_below}
use Rattle.oral_messages.proofs.tree.Tree.keep_third.Goals as goal

pub index_mut-requires : goal.index_mut-requires
index_mut-requires c =
    let path : IsTrue (is_path c.self.inside.members (c.args.c ∷ c.args.b ∷ c.args.a ∷ [])) =
    subst (λ (t : TreeValue). IsTrue (is_path t.members (c.args.c ∷ c.args.b ∷ c.args.a ∷ []))) (sym c.self.view_is)
    c.requires.path in
    let many : 7 ≤ length c.self.inside.members =
    subst (λ (t : TreeValue). 7 ≤ length t.members) (sym c.self.view_is) c.requires.many in
    let long = c.self.invariant.third many in
    let below = third_below c.self.inside.members (c.args.c ∷ c.args.b ∷ c.args.a ∷ []) c.self.invariant.set path
    refl in
    let place = c.third-place.ensures in
    omega arith

pub returns : goal.returns
returns c =
    let after : TreeValue = record {
      members = c.self.inside.members;
      me = c.self.inside.me;
      width = c.self.inside.width;
      own = c.self.inside.own;
      first = c.self.inside.first.items;
      second = c.self.inside.second.items;
      third = (slice_set c.self.inside.third.items c.third-place.result c.args.word.now);
    } in
    subst (λ (t : TreeValue). KeepsThird t after c.args.a c.args.b c.args.c c.args.word.now) c.self.view_is
    (record {
      same = record { members = refl; me = refl; width = refl; own = refl };
      first = refl;
      second = refl;
      third = ap (λ p. slice_set c.self.inside.third.items p c.args.word.now) c.third-place.ensures;
    })
