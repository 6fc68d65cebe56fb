use Rattle.std.proofs.Common.{◌==◌, ◌&&◌, length, map, ap, sym, ◌∙◌}
use Rattle.guards_model.specs.Channels.{ChannelSet}
use Rattle.guards_model.specs.Missions.{cycle_writes}
use Rattle.guards_model.specs.Texts.{TraceValue}
use Rattle.guards_model.proofs.ListTests.{any-map}
use Rattle.guards_audit.specs.Tests.{comes_next}
use Rattle.task_table.specs.Tables.{TableValue, table_writes}
use Rattle.told_cycles.proofs.FitLemmas.{some_lined}
use Rattle.told_cycles.proofs.auditor.Auditor.steps_fit.Goals as goal

pub returns : goal.returns
returns c =
    let M = c.args.mission.now in
    let a = c.args.self.now in
    λ told r h.
    let chans = map (λ (t : TraceValue). t.channel) r.traces in
    let some = c.is_some.ensures ∙ some_lined M r a.part.first h.part.first in
    let next = c.comes_next.ensures chans
    (λ q. h.part.traced q ∙ sym (any-map (λ p. p == q) (λ (t : TraceValue). t.channel) r.traces))
    ∙ ap (comes_next a.active chans) c.worker_of.ensures
    ∙ ap (λ (s : ChannelSet). comes_next s chans c.args.trace.now.channel) (h.knows.active ∙ sym h.part.active) in
    let row = c.steps.ensures.count ∙ ap (λ (t : TableValue). length (table_writes t a.done)) c.table.ensures
    ∙ ap (λ n. length (cycle_writes M n)) h.knows.done in
    let plan = c.len.ensures.value ∙ ap length h.part.plan in
    c.both-2.ensures
    ∙ (λ i. (c.both-comes.ensures ∙ (λ j. some j && next j)) i
    && (c.both.ensures ∙ (λ j. c.writes_told.ensures j == row j && c.copies_told.ensures j == plan j)) i)
