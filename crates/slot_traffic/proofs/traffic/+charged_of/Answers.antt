use Rattle.std.proofs.Common.{◌∙◌, ap, sym, [], ◌∷◌}
use Rattle.guards_model.specs.Channels.{channels_where, union}
use Rattle.slot_traffic.proofs.PiecesRead.{no_items}
use Rattle.slot_traffic.proofs.Charging.{charges, nobody, none_charged, one_charged}
use Rattle.slot_traffic.proofs.traffic.+charged_of.Goals as goal

pub returns-in_default : goal.returns-in_default
returns-in_default t c = λ c' slot. c.empty.ensures ∙ nobody c' slot
    ∙ ap (λ xs. channels_where (charges c' slot xs)) (sym (no_items c.args.parcels.now c.in_default.ensures.cases))

pub returns-then-is_changed : goal.returns-then-is_changed
returns-then-is_changed t c = λ c' slot.
    let parcel = c.in-Some.parcel.now in
    c.with.ensures ∙ ap (λ s. union c.charged_of-others.result (s ∷ [])) c.sender.ensures
    ∙ ap (λ set. union set (parcel.frame.sender ∷ [])) (c.charged_of-others.ensures c' slot)
    ∙ one_charged c' slot parcel c.in-Some.rest.now (sym c.is_changed.ensures ∙ c.if-is_changed.true)
    ∙ ap (λ xs. channels_where (charges c' slot xs)) (sym c.in-Some.ensures.cases.0)

pub returns-else-is_changed : goal.returns-else-is_changed
returns-else-is_changed t c = λ c' slot.
    let parcel = c.in-Some.parcel.now in
    c.charged_of-others.ensures c' slot
    ∙ none_charged c' slot parcel c.in-Some.rest.now (sym c.is_changed.ensures ∙ c.if-is_changed.false)
    ∙ ap (λ xs. channels_where (charges c' slot xs)) (sym c.in-Some.ensures.cases.0)
