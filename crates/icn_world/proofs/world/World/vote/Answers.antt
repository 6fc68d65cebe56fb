use Rattle.std.proofs.Common.{refl}
use Rattle.std.proofs.lemmas.Result.{err_from_is_err_and}
use Rattle.icn_world.proofs.Voting.{may_vote, slot_halts, may_take, take_fails, votes_taken}
use Rattle.icn_world.proofs.world.World.vote.Goals as goal

pub pass_slot-requires : goal.pass_slot-requires
pass_slot-requires g c =
    let held = c.requires in
    record {
      on = refl;
      among = λ e. refl;
      stands = (held.0, held.1, held.2, may_vote held.0 held.1 held.2 c.args.self.now c.args.disturbance.now held.3);
    }

pub returns-in_err-arrived : goal.returns-in_err-arrived
returns-in_err-arrived g c =
    let p = err_from_is_err_and c.from_residual.result c.from_residual.ensures.1 in
    rw (p.1, p.2) (slot_halts c.args.self.now c.pass_slot.new.self c.args.disturbance.now c.pass_slot.new.disturbance _
    _ c.in_err-arrived.ensures)

pub take_votes-requires : goal.take_votes-requires
take_votes-requires g c =
    may_take c.args.self.now c.pass_slot.new.self c.args.disturbance.now c.pass_slot.new.disturbance _ _
    c.in_ok-arrived.ensures c.requires

pub returns-in_err-lines : goal.returns-in_err-lines
returns-in_err-lines g c =
    let p = err_from_is_err_and c.from_residual-in_err-lines.result c.from_residual-in_err-lines.ensures.1 in
    rw p.1
    (take_fails c.args.self.now c.pass_slot.new.self c.args.disturbance.now c.pass_slot.new.disturbance _ _
    c.in_ok-arrived.ensures
    c.take_votes.new.self c.take_votes.ensures.kept p.2)

pub returns : goal.returns
returns g c =
    votes_taken c.args.self.now c.pass_slot.new.self c.args.disturbance.now c.pass_slot.new.disturbance _ _
    c.in_ok-arrived.ensures
    c.take_votes.new.self c.take_votes.ensures.kept c.in_ok-lines.ensures.state c.in_ok-lines.ensures.lines
