use Rattle.std.proofs.Common.{◌&&◌, List, not, length, ap, sym, ◌∙◌}
use Rattle.std.specs.Prelude.{nat_le, take}
use Rattle.std.specs.List.{list_all}
use Rattle.guards_model.specs.Channels.{ChannelSet, has, place_or, without}
use Rattle.guards_model.specs.Texts.{LineValue}
use Rattle.guards_audit.specs.Lines.{is_empty}
use Rattle.guards_audit.specs.Tests.{all_traced, removed_fits, stays_rightly}
use Rattle.told_cycles.proofs.ChannelLemmas.{none_before}
use Rattle.told_cycles.proofs.EndLemmas.{first_is, traced_all}
use Rattle.told_cycles.proofs.auditor.Auditor.may_end.Goals as goal

pub returns-in_default : goal.returns-in_default
returns-in_default c =
    let M = c.args.mission.now in
    λ told r h.
    sym (ap (λ (ls : List LineValue). (not (is_empty ls) && all_traced r) && removed_fits M r c.args.removed)
    (none_before M r c.args.self.now.part.first h.part.first c.in_default.is))

pub returns : goal.returns
returns c =
    let M = c.args.mission.now in
    let a = c.args.self.now in
    let removed = c.args.removed in
    λ told r h.
    let first = first_is M r a.part.first c.in-Some.first h.part.first c.in-Some.is in
    let active = h.knows.active ∙ sym h.part.active in
    let stay = c.all_stay_rightly.ensures r (sym active)
    (λ q low. c.counts_told-counts.ensures q low
    ∙ ap (λ n. place_or (take n c.in-Some.first.counts) q 0) c.channel_count.ensures.value
    ∙ ap (λ (l : LineValue). place_or l.counts q 0) (sym first.1)) in
    let left = c.count-left.ensures.value ∙ ap length c.difference.ensures in
    let lined = c.within.ensures ∙ traced_all r a.part.lined a.part.traced h.part.lined h.part.traced in
    c.both-2.ensures
    ∙ (λ i. lined i && (c.both.ensures
    ∙ (λ j. c.within-2.ensures j && (c.both-stay.ensures ∙ (λ k. nat_le 3 (left k) && stay k)) j)) i)
    ∙ ap (λ (s : ChannelSet). all_traced r
    && (list_all (has s) removed
    && (nat_le 3 (length (without s removed)) && list_all (stays_rightly M r removed) s))) active
    ∙ ap (λ b. (not b && all_traced r) && removed_fits M r removed) (sym first.0)
