use Rattle.std.proofs.Common.{rules, ◌≤◌, sym, ◌∙◌, subst, refl}
use mathlib.Core.Option.{some-injective}
use Rattle.guards_model.specs.declared.Actor.{Actor}
use Rattle.ctx_lock.specs.History.{times}
use Rattle.ctx_lock.proofs.Seating.{made_first, splits, claims_sweep}
use Rattle.ctx_lock.proofs.Seats.{opens_as, still_opens}
use Rattle.ctx_lock.proofs.TableClosed.{stays_empty}
use Rattle.ctx_lock.proofs.shared.Laid.new.Goals as goal

pub vacant-requires : goal.vacant-requires
vacant-requires g c =
    let t = g.T.Turned in
    let key = c.of-key.result.value in
    made_first t.origin t.history t.due (t.origin key) (t.history key)
    (subst (λ (x : g.row.T.Denot). (a : Actor) → times a (t.history x) ≤ t.due (t.origin x) a)
    (sym c.of-key.ensures) c.requires)

pub split_seat-sweeper-requires : goal.split_seat-sweeper-requires
split_seat-sweeper-requires g c =
    let t = g.T.Turned in
    let key = c.in_ok-table.table.shared.key.value in
    let seat = opens_as c.in_ok-table.opener.me _ _ c.in_ok-table.ensures.4 in
    (search rules, search rules, splits t.origin t.history t.due (t.origin key) (t.history key) _ _ _ seat.0)

pub swap-requires : goal.swap-requires
swap-requires g c =
    let t = g.T.Turned in
    let key = c.in_ok-table.table.shared.key.value in
    let seat = opens_as c.in_ok-table.opener.me _ _ c.in_ok-table.ensures.4 in (
      search rules,
      search rules,
      claims_sweep t.origin t.history t.due (t.origin key) (t.history key) _ _ _ _ _ c.split_seat-sweeper.ensures.4
          seat.0 refl,
    )

pub unreachable-requires : goal.unreachable-requires
unreachable-requires g c =
    let t = g.T.Turned in
    let key = c.in_ok-table.table.shared.key.value in
    let seat = still_opens _ _ _ _ c.split_seat-sweeper.ensures.2 c.in_ok-table.ensures.4 in
    let empty = stays_empty t.origin t.history t.due (t.origin key) (t.history key) _ _ _ _ _ seat.0 seat.1
    c.close_with-closed.ensures.values.2 in
    c.in_default.not-None (some-injective _ _ (sym c.take-empty.ensures.value ∙ empty))
