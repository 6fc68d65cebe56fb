use Rattle.std.proofs.Common.{◌≡◌, ℕ, Bool, true, false, not, ◌&&◌, Option, Some, refl, sym, ap, ◌∙◌}
use Rattle.std.specs.Prelude.{filter}
use Rattle.guards_model.specs.Channels.{ChannelSet, has, without}
use Rattle.guards_model.specs.Diagnosis.{Agreed}
use Rattle.guards_model.specs.Transfers.{TransferValue, stays, kept_targets}
use Rattle.guards_model.specs.Decisions.{dropped_of}
use Rattle.guards_model.specs.Controls.{SweepingValue, transfer_in}
use Rattle.guards_model.proofs.Tables.{has-filter}
use Rattle.guards_model.proofs.TagSteps.{filter_alike}
use Rattle.control_state.proofs.transfers.drop_targets.Goals as goal

and_with : (a b : Bool) → b ≡ true → (a && b) ≡ a
and_with true b h = h
and_with false b h = refl

others : (p : ℕ → Bool) (set : ChannelSet) → without set (filter p set) ≡ filter (λ q. not (p q)) set
others p set = filter_alike (λ q. not (has (filter p set) q)) (λ q. not (p q)) set
    (λ q h. ap not (has-filter p set q ∙ and_with (p q) (has set q) h))

dropped : (active : ChannelSet) (agreed : Agreed) (cycle : ℕ) (running : Option SweepingValue) (s : SweepingValue)
    (targets kept : ChannelSet) (start : ℕ) (r : ChannelSet) →
    running ≡ Some s → s.transfer ≡ record { targets = targets; start = start } →
    kept ≡ kept_targets active agreed cycle (Some (record { targets = targets; start = start })) →
    r ≡ without targets kept → r ≡ dropped_of active agreed cycle (transfer_in running)
dropped active agreed cycle running s targets kept start r was is k e =
    let t : TransferValue = record { targets = targets; start = start } in
    e ∙ ap (without targets) k ∙ others (stays active agreed cycle t) targets
    ∙ ap (λ (u : TransferValue). dropped_of active agreed cycle (Some u)) (sym is)
    ∙ ap (λ (o : Option SweepingValue). dropped_of active agreed cycle (transfer_in o)) (sym was)

pub returns-in-Some : goal.returns-in-Some
returns-in-Some c =
    dropped c.args.active c.args.agreed.now c.args.cycle c.args.running.now c.in-Some.transfer c.transfer.inside.targets
    c.stayers-kept.result c.transfer.inside.start c.difference.result
    c.in-Some.is (ap (λ (u : SweepingValue). u.transfer) (sym c.transfer.view_is)) c.stayers-kept.ensures
    c.difference.ensures
