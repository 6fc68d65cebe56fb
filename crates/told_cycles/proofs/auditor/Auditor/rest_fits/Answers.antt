use Rattle.std.proofs.Common.{◌&&◌, Option, ap, sym, ◌∙◌}
use Rattle.std.specs.Prelude.{bytes_eq, option_map}
use Rattle.guards_model.specs.Decisions.{joined_of}
use Rattle.guards_model.specs.Transfers.{TransferValue, remaining_blocks}
use Rattle.guards_audit.specs.Tests.{same_number}
use Rattle.told_cycles.proofs.EndLemmas.{joined_same, number_same}
use Rattle.told_cycles.proofs.auditor.Auditor.rest_fits.Goals as goal

pub returns : goal.returns
returns c =
    let M = c.args.mission.now in
    λ told r e closed.
    let blocks = remaining_blocks M.rules.blocks closed.cycles in
    let rest = c.remaining-rest.ensures M.rules.blocks _ closed.cycles closed.stand in
    let number = c.is_same_number.ensures
    ∙ ap (same_number c.args.remaining)
    (c.remaining_of.ensures ∙ ap (option_map (λ (t : TransferValue). c.remaining-rest.result)) e
    ∙ number_same M told r closed c.remaining-rest.result rest) in
    let joined = c.are_same.ensures
    ∙ ap (bytes_eq c.args.joined)
    (c.joins.ensures blocks (sym rest) ∙ ap (λ (o : Option TransferValue). joined_of M.rules.last o blocks) e
    ∙ joined_same M told r closed) in
    c.both.ensures ∙ (λ i. number i && joined i)
