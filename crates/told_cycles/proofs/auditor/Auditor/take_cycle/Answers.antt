use Rattle.std.proofs.Common.{sym, ◌∙◌}
use Rattle.guards_model.specs.Records.{transfer_of_pair}
use Rattle.told_cycles.proofs.StandLemmas.{between_somewhere, differ, cycle_no, cycle_yes}
use Rattle.told_cycles.proofs.auditor.Auditor.take_cycle.Goals as goal

pub returns-then-not-is_between : goal.returns-then-not-is_between
returns-then-not-is_between c =
    λ p h. cycle_no c.args.mission.now p c.args.self.now c.args.cycle c.args.active (transfer_of_pair c.args.transfer) h
    (λ is told k. differ (sym is ∙ sym c.is_between.ensures ∙ c.if-not-is_between.true))

pub returns-then-not-cycle_fits : goal.returns-then-not-cycle_fits
returns-then-not-cycle_fits c =
    λ p h. cycle_no c.args.mission.now p c.args.self.now c.args.cycle c.args.active (transfer_of_pair c.args.transfer) h
    (λ is told k. sym (c.cycle_fits.ensures told k) ∙ c.if-not-cycle_fits.true)

pub open-requires : goal.open-requires
open-requires c = between_somewhere c.args.mission.now c.requires.0 c.args.self.now c.requires.1
    (sym c.is_between.ensures ∙ c.if-not-is_between.false)

pub returns : goal.returns
returns c =
    λ p h. cycle_yes c.args.mission.now p c.args.self.now c.open.new.self c.args.cycle c.args.active
    (transfer_of_pair c.args.transfer) h (sym c.is_between.ensures ∙ c.if-not-is_between.false)
    (λ told k.
    let fits = sym (c.cycle_fits.ensures told k) ∙ c.if-not-cycle_fits.false in
    (fits, c.open.ensures told c.args.cycle c.args.active k fits))
