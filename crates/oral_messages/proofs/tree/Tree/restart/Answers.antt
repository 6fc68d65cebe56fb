use Rattle.std.proofs.Common.{◌≡◌, ◌≤◌, ◌<◌, ◌-◌, ◌*◌, ◌∙◌, true, [], ◌∷◌, length, None, Some, refl, sym, ap, subst, arith}
use Rattle.std.specs.Prelude.{replicate, slice_set}
use Rattle.std.proofs.lemmas.List.{length-replicate}
use Rattle.std.proofs.lemmas.Nat.{mul-le}
use Rattle.guards_model.specs.Channels.{has}
use Rattle.oral_messages.specs.Trees.{TreeValue}
use Rattle.oral_messages.proofs.Levels.{first_below, source_path}
use Rattle.oral_messages.proofs.TreeBegun.{begins}
use Rattle.oral_messages.proofs.tree.Tree.restart.Goals as goal

pub first-place-requires : goal.first-place-requires
first-place-requires c =
    let mine : has c.of-members.result c.self.inside.me ≡ true =
    subst (λ (t : TreeValue). has c.of-members.result t.me ≡ true) (sym c.self.view_is)
    (subst (λ s. has s c.args.self.now.me ≡ true) (sym c.of-members.ensures.members) c.requires.mine) in
    source_path c.of-members.result c.self.inside.me mine

pub index_mut-requires : goal.index_mut-requires
index_mut-requires c =
    let mine : has c.of-members.result c.self.inside.me ≡ true =
    subst (λ (t : TreeValue). has c.of-members.result t.me ≡ true) (sym c.self.view_is)
    (subst (λ s. has s c.args.self.now.me ≡ true) (sym c.of-members.ensures.members) c.requires.mine) in
    let below = first_below c.of-members.result (c.self.inside.me ∷ []) c.of-members.ensures.set
    (source_path c.of-members.result c.self.inside.me mine) refl in
    let small = below.0 in
    let place = c.first-place.ensures in
    let count : c.from-count.result ≡ length c.of-members.result = c.from-count.ensures ∙ c.count.ensures in
    let same : length c.of-members.result ≡ length c.args.active = ap length c.of-members.ensures.members in
    let before : length c.self.inside.members ≡ length c.args.self.now.members =
    ap (λ (t : TreeValue). length t.members) c.self.view_is in
    let room = c.requires.room in
    let ones = c.self.invariant.first in
    let seen = c.self.inside.first.ok in
    let fits : c.from-count.result ≤ length c.self.inside.first.items = omega arith in
    let long : length c.clear.new.values.items ≡ c.from-count.result =
    ap length (c.clear.ensures fits) ∙ length-replicate c.from-count.result None in
    let ok = c.clear.new.values.ok in
    omega arith

pub invariant_of-self : goal.invariant_of-self
invariant_of-self c =
    let mine : has c.of-members.result c.self.inside.me ≡ true =
    subst (λ (t : TreeValue). has c.of-members.result t.me ≡ true) (sym c.self.view_is)
    (subst (λ s. has s c.args.self.now.me ≡ true) (sym c.of-members.ensures.members) c.requires.mine) in
    let count : c.from-count.result ≡ length c.of-members.result = c.from-count.ensures ∙ c.count.ensures in
    let same : length c.of-members.result ≡ length c.args.active = ap length c.of-members.ensures.members in
    let before : length c.self.inside.members ≡ length c.args.self.now.members =
    ap (λ (t : TreeValue). length t.members) c.self.view_is in
    let room = c.requires.room in
    let some = c.requires.some in
    let less : length c.of-members.result ≤ length c.self.inside.members = omega arith in
    let ones = c.self.invariant.first in
    let seen = c.self.inside.first.ok in
    let fits : c.from-count.result ≤ length c.self.inside.first.items = omega arith in
    let long : length c.clear.new.values.items ≡ c.from-count.result =
    ap length (c.clear.ensures fits) ∙ length-replicate c.from-count.result None in
    let ok = c.clear.new.values.ok in
    record {
      set = c.of-members.ensures.set;
      some = omega arith;
      mine = mine;
      first = omega arith;
      second = λ many.
          let size : c.second_size.result ≡ length c.of-members.result * (length c.of-members.result - 1) =
          c.second_size.ensures (subst (λ n. 4 ≤ n) (sym count) many) ∙ ap (λ n. n * (n - 1)) count in
          let twos = c.self.invariant.second (omega arith) in
          let held = c.self.inside.second.ok in
          let products : length c.of-members.result * (length c.of-members.result - 1)
          ≤ length c.self.inside.members * (length c.self.inside.members - 1) =
          mul-le (length c.of-members.result) (length c.of-members.result - 1) (length c.self.inside.members)
          (length c.self.inside.members - 1) less (omega arith) in
          let fits2 : c.second_size.result ≤ length c.self.inside.second.items = omega arith in
          let long2 : length c.clear-2.new.values.items ≡ c.second_size.result =
          ap length (c.clear-2.ensures fits2) ∙ length-replicate c.second_size.result None in
          let ok2 = c.clear-2.new.values.ok in
          omega arith;
      third = λ many.
          let size : c.third_size.result ≡ 210 = c.third_size.ensures (subst (λ n. 7 ≤ n) (sym count) many) in
          let threes = c.self.invariant.third (omega arith) in
          let held = c.self.inside.third.ok in
          let fits3 : c.third_size.result ≤ length c.self.inside.third.items = omega arith in
          let long3 : length c.clear-3.new.values.items ≡ c.third_size.result =
          ap length (c.clear-3.ensures fits3) ∙ length-replicate c.third_size.result None in
          let ok3 = c.clear-3.new.values.ok in
          omega arith;
    }

pub returns : goal.returns
returns c =
    let mine : has c.of-members.result c.self.inside.me ≡ true =
    subst (λ (t : TreeValue). has c.of-members.result t.me ≡ true) (sym c.self.view_is)
    (subst (λ s. has s c.args.self.now.me ≡ true) (sym c.of-members.ensures.members) c.requires.mine) in
    let count : c.from-count.result ≡ length c.of-members.result = c.from-count.ensures ∙ c.count.ensures in
    let same : length c.of-members.result ≡ length c.args.active = ap length c.of-members.ensures.members in
    let before : length c.self.inside.members ≡ length c.args.self.now.members =
    ap (λ (t : TreeValue). length t.members) c.self.view_is in
    let room = c.requires.room in
    let some = c.requires.some in
    let less : length c.of-members.result ≤ length c.self.inside.members = omega arith in
    let ones = c.self.invariant.first in
    let seen = c.self.inside.first.ok in
    let fits : c.from-count.result ≤ length c.self.inside.first.items = omega arith in
    let tree : TreeValue = record {
      members = c.of-members.result;
      me = c.self.inside.me;
      width = c.self.inside.width;
      own = c.args.own;
      first = (slice_set c.clear.new.values.items c.first-place.result (Some c.args.own));
      second = c.clear-2.new.values.items;
      third = c.clear-3.new.values.items;
    } in
    record {
      members_are = c.of-members.ensures.members;
      me_is = ap (λ (t : TreeValue). t.me) c.self.view_is;
      width_is = ap (λ (t : TreeValue). t.width) c.self.view_is;
      own_is = refl;
      holds = begins tree c.from-count.result c.second_size.result c.third_size.result c.of-members.ensures.set mine
          count
          (λ many. c.second_size.ensures (subst (λ n. 4 ≤ n) (sym count) many) ∙ ap (λ n. n * (n - 1)) count)
          (λ many. c.third_size.ensures (subst (λ n. 7 ≤ n) (sym count) many))
          (ap (λ xs. slice_set xs c.first-place.result (Some c.args.own)) (c.clear.ensures fits)
          ∙ ap (λ p. slice_set (replicate c.from-count.result None) p (Some c.args.own)) c.first-place.ensures)
          (λ many.
          let size : c.second_size.result ≡ length c.of-members.result * (length c.of-members.result - 1) =
          c.second_size.ensures (subst (λ n. 4 ≤ n) (sym count) many) ∙ ap (λ n. n * (n - 1)) count in
          let twos = c.self.invariant.second (omega arith) in
          let held = c.self.inside.second.ok in
          let products : length c.of-members.result * (length c.of-members.result - 1)
          ≤ length c.self.inside.members * (length c.self.inside.members - 1) =
          mul-le (length c.of-members.result) (length c.of-members.result - 1) (length c.self.inside.members)
          (length c.self.inside.members - 1) less (omega arith) in
          c.clear-2.ensures (omega arith))
          (λ many.
          let size : c.third_size.result ≡ 210 = c.third_size.ensures (subst (λ n. 7 ≤ n) (sym count) many) in
          let threes = c.self.invariant.third (omega arith) in
          let held = c.self.inside.third.ok in
          c.clear-3.ensures (omega arith));
    }
