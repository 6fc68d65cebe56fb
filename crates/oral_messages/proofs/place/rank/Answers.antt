use Rattle.std.proofs.Common.{◌≡◌, [], ◌∷◌, IsTrue, get_or, refl, sym, subst, arith}
use Rattle.oral_messages.specs.Ranks.{is_path}
use Rattle.oral_messages.specs.Paths.{path_of}
use Rattle.oral_messages.proofs.Levels.{first_below, second_below, third_below, stored_at}
use Rattle.oral_messages.proofs.Stored.{path_one, path_two, path_three}
use Rattle.oral_messages.proofs.place.rank.Goals as goal

pub overflow_cast-result : goal.overflow_cast-result
overflow_cast-result c =
    let path : IsTrue (is_path c.of-members.result (get_or c.args.path.now.at 0 0 ∷ [])) =
    subst (λ s. IsTrue (is_path s (get_or c.args.path.now.at 0 0 ∷ []))) (sym c.of-members.ensures.members)
    (subst (λ y. IsTrue (is_path c.args.active y)) (path_one c.args.path.now c.if-path-eq1.true) c.requires.path) in
    let below = first_below c.of-members.result (get_or c.args.path.now.at 0 0 ∷ []) c.of-members.ensures.set path
    refl in
    let at = c.first.ensures in
    omega arith

pub returns-then-path-eq1-clause-place : goal.returns-then-path-eq1-clause-place
returns-then-path-eq1-clause-place c =
    stored_at c.of-members.result c.args.active c.args.path.now.count c.first.result (path_of c.args.path.now)
    (get_or c.args.path.now.at 0 0 ∷ [])
    c.of-members.ensures.set c.of-members.ensures.members c.requires.path (path_one c.args.path.now c.if-path-eq1.true)
    (sym c.if-path-eq1.true) c.requires.high c.first.ensures

pub overflow_cast-result-then-path-eq2 : goal.overflow_cast-result-then-path-eq2
overflow_cast-result-then-path-eq2 c =
    let path : IsTrue (is_path c.of-members.result
    (get_or c.args.path.now.at 1 0 ∷ get_or c.args.path.now.at 0 0 ∷ [])) =
    subst (λ s. IsTrue (is_path s (get_or c.args.path.now.at 1 0 ∷ get_or c.args.path.now.at 0 0 ∷ [])))
    (sym c.of-members.ensures.members)
    (subst (λ y. IsTrue (is_path c.args.active y)) (path_two c.args.path.now c.if-path-eq2.true) c.requires.path) in
    let below = second_below c.of-members.result (get_or c.args.path.now.at 1 0 ∷ get_or c.args.path.now.at 0 0 ∷ [])
    c.of-members.ensures.set path refl in
    let at = c.second.ensures in
    omega arith

pub returns-then-path-eq2-clause-place : goal.returns-then-path-eq2-clause-place
returns-then-path-eq2-clause-place c =
    stored_at c.of-members.result c.args.active c.args.path.now.count c.second.result (path_of c.args.path.now)
    (get_or c.args.path.now.at 1 0 ∷ get_or c.args.path.now.at 0 0 ∷ [])
    c.of-members.ensures.set c.of-members.ensures.members c.requires.path (path_two c.args.path.now c.if-path-eq2.true)
    (sym c.if-path-eq2.true) c.requires.high c.second.ensures

pub overflow_cast-result-else-path-eq2 : goal.overflow_cast-result-else-path-eq2
overflow_cast-result-else-path-eq2 c =
    let high = c.requires.high in
    let low = c.requires.low in
    let one = c.if-path-eq1.false in
    let two = c.if-path-eq2.false in
    let three : c.args.path.now.count ≡ 3 = omega arith in
    let path : IsTrue (is_path c.of-members.result
    (get_or c.args.path.now.at 2 0 ∷ get_or c.args.path.now.at 1 0 ∷ get_or c.args.path.now.at 0 0 ∷ [])) =
    subst (λ s. IsTrue (is_path s
    (get_or c.args.path.now.at 2 0 ∷ get_or c.args.path.now.at 1 0 ∷ get_or c.args.path.now.at 0 0 ∷ [])))
    (sym c.of-members.ensures.members)
    (subst (λ y. IsTrue (is_path c.args.active y)) (path_three c.args.path.now three) c.requires.path) in
    let below = third_below c.of-members.result
    (get_or c.args.path.now.at 2 0 ∷ get_or c.args.path.now.at 1 0 ∷ get_or c.args.path.now.at 0 0 ∷ [])
    c.of-members.ensures.set path refl in
    let at = c.third.ensures in
    omega arith

pub returns-else-path-eq2-clause-place : goal.returns-else-path-eq2-clause-place
returns-else-path-eq2-clause-place c =
    let high = c.requires.high in
    let low = c.requires.low in
    let one = c.if-path-eq1.false in
    let two = c.if-path-eq2.false in
    let three : c.args.path.now.count ≡ 3 = omega arith in
    stored_at c.of-members.result c.args.active c.args.path.now.count c.third.result (path_of c.args.path.now)
    (get_or c.args.path.now.at 2 0 ∷ get_or c.args.path.now.at 1 0 ∷ get_or c.args.path.now.at 0 0 ∷ [])
    c.of-members.ensures.set c.of-members.ensures.members c.requires.path (path_three c.args.path.now three) (sym three)
    c.requires.high c.third.ensures
