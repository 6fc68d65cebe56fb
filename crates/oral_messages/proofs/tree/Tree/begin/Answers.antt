use Rattle.std.proofs.Common.{◌≡◌, ◌≤◌, ◌-◌, ◌*◌, ◌∙◌, true, [], ◌∷◌, length, None, Some, refl, sym, ap, subst, arith}
use Rattle.std.specs.Prelude.{replicate, slice_set}
use Rattle.std.proofs.lemmas.List.{length-replicate}
use Rattle.guards_model.specs.Channels.{has}
use Rattle.oral_messages.specs.Trees.{TreeValue}
use Rattle.oral_messages.proofs.Levels.{first_below, source_path}
use Rattle.oral_messages.proofs.TreeBegun.{begins}
use Rattle.oral_messages.proofs.tree.Tree.begin.Goals as goal

pub index_mut-requires : goal.index_mut-requires
index_mut-requires c =
    let mine : has c.of-members.result c.index-me.result ≡ true =
    subst (λ s. has s c.index-me.result ≡ true) (sym c.of-members.ensures.members)
    (subst (λ q. has c.args.active q ≡ true) (sym c.index-me.ensures.number) c.requires.mine) in
    let below = first_below c.of-members.result (c.index-me.result ∷ []) c.of-members.ensures.set
    (source_path c.of-members.result c.index-me.result mine) refl in
    let small = below.0 in
    let place = c.first-place.ensures in
    let long : length c.in_ok-first.first.items ≡ c.from-count.result =
    ap length c.in_ok-first.ensures ∙ length-replicate c.from-count.result None in
    let ok = c.in_ok-first.first.ok in
    omega arith

pub returns : goal.returns
returns c =
    let mine : has c.of-members.result c.index-me.result ≡ true =
    subst (λ s. has s c.index-me.result ≡ true) (sym c.of-members.ensures.members)
    (subst (λ q. has c.args.active q ≡ true) (sym c.index-me.ensures.number) c.requires.mine) in
    let tree : TreeValue = record {
      members = c.of-members.result;
      me = c.index-me.result;
      width = c.args.width;
      own = c.args.own;
      first = (slice_set c.in_ok-first.first.items c.first-place.result (Some c.args.own));
      second = c.in_ok-second.second.items;
      third = c.in_ok-third.third.items;
    } in
    let count : c.from-count.result ≡ length c.of-members.result = c.from-count.ensures ∙ c.count.ensures in
    record {
      members_are = c.of-members.ensures.members;
      me_is = c.index-me.ensures.number;
      width_is = refl;
      own_is = refl;
      holds = begins tree c.from-count.result c.second_size.result c.third_size.result c.of-members.ensures.set mine
          count
          (λ many. c.second_size.ensures (subst (λ n. 4 ≤ n) (sym count) many) ∙ ap (λ n. n * (n - 1)) count)
          (λ many. c.third_size.ensures (subst (λ n. 7 ≤ n) (sym count) many))
          (ap (λ xs. slice_set xs c.first-place.result (Some c.args.own)) c.in_ok-first.ensures
          ∙ ap (λ p. slice_set (replicate c.from-count.result None) p (Some c.args.own)) c.first-place.ensures)
          (λ many. c.in_ok-second.ensures)
          (λ many. c.in_ok-third.ensures);
    }

pub first-place-requires : goal.first-place-requires
first-place-requires c =
    source_path c.of-members.result c.index-me.result
    (subst (λ s. has s c.index-me.result ≡ true) (sym c.of-members.ensures.members)
    (subst (λ q. has c.args.active q ≡ true) (sym c.index-me.ensures.number) c.requires.mine))
