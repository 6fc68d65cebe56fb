use Rattle.std.proofs.Common.{◌==◌, ◌&&◌, Bool, ap, sym, ◌∙◌}
use Rattle.std.specs.Prelude.{nat_lt, bytes_eq}
use Rattle.std.proofs.lemmas.Slice.Eq.{bytes_eq-Decides}
use Rattle.guards_model.specs.Channels.{ChannelSet}
use Rattle.guards_model.specs.Records.{transfer_of_pair}
use Rattle.guards_audit.specs.Tests.{transfer_fits}
use Rattle.guards_audit.specs.Told.{active_told, next_cycle_number}
use Rattle.told_cycles.proofs.FitLemmas.{and_given}
use Rattle.told_cycles.proofs.auditor.Auditor.cycle_fits.Goals as goal

pub returns : goal.returns
returns c =
    let M = c.args.mission.now in
    let a = c.args.self.now in
    let t = transfer_of_pair c.args.transfer.now in
    λ told h.
    let next = c.both-is_next.ensures
    ∙ (λ i. nat_lt c.args.cycle (c.cycles.ensures i) && c.args.cycle == h.knows.done i) in
    let same = c.are_same.ensures ∙ ap (bytes_eq c.args.active) h.knows.active in
    let runs = c.transfer_fits.ensures told h in
    c.both-2.ensures ∙ (λ i. next i && c.both.ensures i)
    ∙ ap (λ (x : Bool). (nat_lt c.args.cycle M.cycles && c.args.cycle == next_cycle_number told) && x)
    ((λ i. same i && runs i)
    ∙ and_given (bytes_eq c.args.active (active_told M told)) (transfer_fits M told a.active t)
    (transfer_fits M told c.args.active t)
    (λ k. ap (λ (s : ChannelSet). transfer_fits M told s t)
    (h.knows.active ∙ sym ((bytes_eq-Decides c.args.active (active_told M told)).0 k))))
