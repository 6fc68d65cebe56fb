use Rattle.std.proofs.Common.{sym, ap, ◌∙◌, ◌∷◌}
use Rattle.std.specs.Prelude.{take}
use Rattle.guards_model.specs.Channels.{ChannelSet, union, place_or}
use Rattle.guards_model.specs.Texts.{LineValue}
use Rattle.guards_audit.specs.Lines.{closed_record}
use Rattle.told_cycles.proofs.EndLemmas.{ends, first_is, first_there, stands_after}
use Rattle.told_cycles.proofs.auditor.Auditor.end.Goals as goal

pub returns : goal.returns
returns g c =
    let M = c.args.mission.now in
    let old = c.args.self.now in
    λ told r left h some.
    let first = first_there M r old.part.first h.part.first some in
    let shown = first_is M r old.part.first first.0 h.part.first first.1 in
    stands_after M (closed_record r c.args.removed c.args.joined left ∷ told) _
    (ends M told r c.args.removed c.args.joined left old h some c.next_place-self.result c.union-self.result
    c.counts_of_line-self.result c.words_after-self.result
    (c.union-self.ensures ∙ ap (λ (s : ChannelSet). union s c.args.joined) c.difference.ensures)
    (λ q low. c.counts_of_line-self.ensures first.0 first.1 q low
    ∙ ap (λ n. place_or (take n first.0.counts) q 0) c.channel_count.ensures.value
    ∙ ap (λ (l : LineValue). place_or l.counts q 0) (sym shown.1))
    c.words_after-self.ensures) c.next_place-self.ensures.none c.next_place-self.ensures.some
