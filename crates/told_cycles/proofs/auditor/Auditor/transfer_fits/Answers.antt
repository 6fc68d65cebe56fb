use Rattle.std.proofs.Common.{◌==◌, ◌&&◌, ◌||◌, ap, sym, ◌∙◌}
use Rattle.std.specs.Prelude.{nat_le}
use Rattle.std.specs.List.{list_all}
use Rattle.guards_model.specs.Channels.{ChannelSet, has, without}
use Rattle.guards_model.specs.Records.{transfer_of_pair}
use Rattle.guards_audit.specs.Tests.{transfer_fits}
use Rattle.told_cycles.proofs.FitLemmas.{passive_are}
use Rattle.told_cycles.proofs.auditor.Auditor.transfer_fits.Goals as goal

pub returns-in_default : goal.returns-in_default
returns-in_default c = λ told h.
    sym (ap (λ o. transfer_fits c.args.mission.now told c.args.self.now.active (transfer_of_pair o)) c.in_default.is)

pub returns : goal.returns
returns c =
    let M = c.args.mission.now in
    let a = c.args.self.now in
    let targets = c.in-Some.targets in
    λ told h.
    let few = c.both-some.ensures
    ∙ (λ i. nat_le 1 (c.count-count.ensures.value i)
    && nat_le (c.count-count.ensures.value i) (c.returning_of.ensures i)) in
    let rest = c.within.ensures
    ∙ ap (λ (s : ChannelSet). list_all (has s) targets)
    (c.difference-passive.ensures ∙ ap (λ (s : ChannelSet). without s a.active) c.everyone.ensures)
    ∙ passive_are M a.active targets in
    let runs = c.either-running.ensures ∙ (λ i. c.in-Some.start == h.knows.done i || c.goes_on.ensures M told h i) in
    c.both-2.ensures ∙ (λ i. few i && (c.both.ensures ∙ (λ j. rest j && runs j)) i)
    ∙ ap (λ o. transfer_fits M told a.active (transfer_of_pair o)) (sym c.in-Some.is)
