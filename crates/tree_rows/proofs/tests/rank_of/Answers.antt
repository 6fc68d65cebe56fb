use Rattle.std.proofs.Common.{◌≡◌, true, [], ◌∷◌, sym, subst, ◌∙◌}
use Rattle.guards_model.specs.Channels.{has}
use Rattle.oral_messages.proofs.Levels.{source_path, own_path, apart_one, apart_two}
use Rattle.tree_rows.proofs.tests.rank_of.Goals as goal

pub rank-requires-clause-path : goal.rank-requires-clause-path
rank-requires-clause-path c =
    let set = c.args.active.now in
    let x = c.index-x.result in
    let y = c.index-y.result in
    let z = c.index-z.result in
    let there_x : has set x ≡ true =
    subst (λ q. has set q ≡ true) (sym c.index-x.ensures.number) (sym c.has.ensures ∙ c.if-has.true) in
    let there_y : has set y ≡ true =
    subst (λ q. has set q ≡ true) (sym c.index-y.ensures.number) (sym c.has-then-has.ensures ∙ c.if-has-2.true) in
    let there_z : has set z ≡ true =
    subst (λ q. has set q ≡ true) (sym c.index-z.ensures.number) (sym c.has-then-has-2.ensures ∙ c.if-has-3.true) in
    own_path set z (y ∷ x ∷ [])
    (own_path set y (x ∷ []) (source_path set x there_x) there_y (apart_one x y c.if-x-y.true)) there_z
    (apart_two x y z c.if-x-z.true c.if-y-z.true)
