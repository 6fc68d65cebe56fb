use Rattle.std.proofs.Common.{◌&&◌, map, take, Some, ap, sym, ◌∙◌}
use Rattle.std.specs.Prelude.{bytes_eq}
use Rattle.std.specs.List.{list_all}
use Rattle.guards_model.specs.Channels.{ChannelSet, has}
use Rattle.guards_model.specs.Contexts.{ContextValue}
use Rattle.guards_model.specs.Diagnosis.{counts_of}
use Rattle.guards_model.specs.Missions.{cycle_writes, output_words}
use Rattle.guards_model.specs.Tasks.{whole}
use Rattle.guards_audit.specs.Tests.{same_votes}
use Rattle.guards_audit.specs.Told.{counts_told, next_cycle_number}
use Rattle.told_cycles.specs.Standing.{shown_in}
use Rattle.told_cycles.proofs.ChannelLemmas.{amid_first, amid_none, base_at}
use Rattle.told_cycles.proofs.auditor.Auditor.first_fits.Goals as goal

pub returns-clause-fits : goal.returns-clause-fits
returns-clause-fits g c =
    let M = c.args.mission.now in
    let a = c.args.self.now in
    let line = c.args.line.now in
    λ told r h e.
    let l = shown_in M line in
    let n = next_cycle_number told in
    let active = h.knows.active ∙ sym h.part.active in
    let judged = c.within.ensures ∙ (λ i. list_all (has (active i)) (c.judged_of-judged.ensures i)) in
    let base = counts_told M told in
    let same = base_at M told a.counts a.joined h.knows.counts h.knows.joined in
    let counts = c.counts_by-counts.ensures base
    (λ q low there. same q low (ap (λ (s : ChannelSet). has s q) (sym h.knows.active) ∙ there))
    ∙ (λ i. counts_of M.rules.law M.rules.keep M.rules.decrement (active i) (c.judged_of-judged.ensures i) base) in
    let tallied = c.has_counts.ensures
    ∙ (λ i. bytes_eq (take (c.channel_count.ensures.value i) line.counts)
    (take (c.channel_count.ensures.value i) (counts i))) in
    let context = c.run_line.ensures.value ∙ ap (λ k. whole (cycle_writes M k) a.context k l.inputs) h.knows.done
    ∙ ap (λ (x : ContextValue). whole (cycle_writes M n) x n l.inputs) (h.knows.context ∙ amid_none M told r l e) in
    let votes = c.votes_fit.ensures
    ∙ ap (λ (x : ContextValue). same_votes l.votes (map (λ w. Some w) (output_words M x))) context in
    c.both.ensures
    ∙ (λ i. (c.both-fits.ensures ∙ (λ j. c.has_width.ensures j && judged j)) i
    && (c.both-follows.ensures ∙ (λ j. tallied j && votes j)) i)

pub returns-clause-context : goal.returns-clause-context
returns-clause-context g c =
    let M = c.args.mission.now in
    let a = c.args.self.now in
    λ told r h e.
    let l = shown_in M c.args.line.now in
    let n = next_cycle_number told in
    let context = c.run_line.ensures.value ∙ ap (λ k. whole (cycle_writes M k) a.context k l.inputs) h.knows.done
    ∙ ap (λ (x : ContextValue). whole (cycle_writes M n) x n l.inputs) (h.knows.context ∙ amid_none M told r l e)
    ∙ sym (amid_first M told r l e) in
    ap (λ (x : ContextValue). record a { context = x }) context
