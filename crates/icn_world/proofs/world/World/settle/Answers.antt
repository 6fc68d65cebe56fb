use Rattle.std.proofs.Common.{refl}
use Rattle.guards_model.specs.declared.Slot.TheVariants.{Request, Round1, Round2, Round3, Tasks}
use Rattle.icn_world.proofs.Chaining.{halted_by}
use Rattle.icn_world.proofs.NextSlot.{then_slot, may_enter_then, then_settled}
use Rattle.icn_world.proofs.world.World.settle.Goals as goal

pub returns-in_err-ask : goal.returns-in_err-ask
returns-in_err-ask g c = halted_by c.from_residual.result c.from_residual.ensures.1 c.in_err-ask.ensures

pub round-requires-clause-stands : goal.round-requires-clause-stands
round-requires-clause-stands g c =
    may_enter_then Request Round1 refl (λ earlier current steps within. within) c.requires c.in_ok-ask.ensures

pub returns-in_err-round : goal.returns-in_err-round
returns-in_err-round g c =
    then_slot Request Round1 refl (λ earlier current steps within. within) c.in_ok-ask.ensures
    (halted_by c.from_residual-in_err-round.result c.from_residual-in_err-round.ensures.1 c.in_err-round.ensures)

pub round-requires-2-clause-stands : goal.round-requires-2-clause-stands
round-requires-2-clause-stands g c =
    may_enter_then Round1 Round2 refl (λ earlier current steps within. within) c.requires
    (then_slot Request Round1 refl (λ earlier current steps within. within) c.in_ok-ask.ensures c.in_ok-round.ensures)

pub returns-in_err-round-2 : goal.returns-in_err-round-2
returns-in_err-round-2 g c =
    then_slot Round1 Round2 refl (λ earlier current steps within. within)
    (then_slot Request Round1 refl (λ earlier current steps within. within) c.in_ok-ask.ensures c.in_ok-round.ensures)
    (halted_by c.from_residual-in_err-round-2.result c.from_residual-in_err-round-2.ensures.1 c.in_err-round-2.ensures)

pub last_round-requires : goal.last_round-requires
last_round-requires g c =
    may_enter_then Round2 Round3 refl (λ earlier current steps within. within) c.requires
    (then_slot Round1 Round2 refl (λ earlier current steps within. within)
    (then_slot Request Round1 refl (λ earlier current steps within. within) c.in_ok-ask.ensures c.in_ok-round.ensures)
    c.in_ok-round-2.ensures)

pub returns-in_err-reconfiguration : goal.returns-in_err-reconfiguration
returns-in_err-reconfiguration g c =
    then_slot Round2 Round3 refl (λ earlier current steps within. within)
    (then_slot Round1 Round2 refl (λ earlier current steps within. within)
    (then_slot Request Round1 refl (λ earlier current steps within. within) c.in_ok-ask.ensures c.in_ok-round.ensures)
    c.in_ok-round-2.ensures)
    (halted_by c.from_residual-in_err-reconfiguration.result c.from_residual-in_err-reconfiguration.ensures.1
    c.in_err-reconfiguration.ensures)

pub pass_slot-requires-clause-stands : goal.pass_slot-requires-clause-stands
pass_slot-requires-clause-stands g c =
    may_enter_then Round3 Tasks refl (λ earlier current steps decided. decided.stands) c.requires
    (then_slot Round2 Round3 refl (λ earlier current steps within. within)
    (then_slot Round1 Round2 refl (λ earlier current steps within. within)
    (then_slot Request Round1 refl (λ earlier current steps within. within) c.in_ok-ask.ensures c.in_ok-round.ensures)
    c.in_ok-round-2.ensures)
    c.in_ok-reconfiguration.ensures)

pub returns-in_err-pass_slot : goal.returns-in_err-pass_slot
returns-in_err-pass_slot g c =
    then_slot Round3 Tasks refl (λ earlier current steps decided. decided.stands)
    (then_slot Round2 Round3 refl (λ earlier current steps within. within)
    (then_slot Round1 Round2 refl (λ earlier current steps within. within)
    (then_slot Request Round1 refl (λ earlier current steps within. within) c.in_ok-ask.ensures c.in_ok-round.ensures)
    c.in_ok-round-2.ensures)
    c.in_ok-reconfiguration.ensures)
    (halted_by c.from_residual-in_err-pass_slot.result c.from_residual-in_err-pass_slot.ensures.1
    c.in_err-pass_slot.ensures)

pub returns : goal.returns
returns g c =
    then_settled _ _
    (then_slot Round2 Round3 refl (λ earlier current steps within. within)
    (then_slot Round1 Round2 refl (λ earlier current steps within. within)
    (then_slot Request Round1 refl (λ earlier current steps within. within) c.in_ok-ask.ensures c.in_ok-round.ensures)
    c.in_ok-round-2.ensures)
    c.in_ok-reconfiguration.ensures)
    c.in_ok-pass_slot.ensures
