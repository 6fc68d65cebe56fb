use Rattle.std.proofs.Common.{◌∙◌, ap, sym}
use Rattle.slot_traffic.proofs.EntryFound.{frame_found, found_here, found_later}
use Rattle.slot_traffic.proofs.traffic.+frame_between.Goals as goal

pub returns-then-is_between-clause-same : goal.returns-then-is_between-clause-same
returns-then-is_between-clause-same t c = λ c' slot.
    let parcel = c.in_ok-parcel.parcel.now in
    c.frame_to.ensures.same
    ∙ found_here c' slot c.args.from c.args.to parcel c.in_ok-parcel.rest.now
    (sym c.is_between.ensures ∙ c.if-is_between.true)
    ∙ ap (frame_found c' slot c.args.from c.args.to) (sym c.in_ok-parcel.ensures.cases.0)

pub returns-else-is_between-clause-same : goal.returns-else-is_between-clause-same
returns-else-is_between-clause-same t c = λ c' slot.
    let parcel = c.in_ok-parcel.parcel.now in
    c.frame_between.ensures.same c' slot
    ∙ found_later c' slot c.args.from c.args.to parcel c.in_ok-parcel.rest.now
    (sym c.is_between.ensures ∙ c.if-is_between.false)
    ∙ ap (frame_found c' slot c.args.from c.args.to) (sym c.in_ok-parcel.ensures.cases.0)
