use Rattle.std.proofs.Common.{◌==◌, ◌&&◌, map, ap, sym, ◌∙◌}
use Rattle.guards_model.specs.Texts.{LineValue}
use Rattle.guards_model.proofs.ListTests.{any-map}
use Rattle.guards_audit.specs.Lines.{is_empty}
use Rattle.guards_audit.specs.Tests.{comes_next}
use Rattle.told_cycles.proofs.FitLemmas.{none_traced}
use Rattle.told_cycles.proofs.auditor.Auditor.line_comes_next.Goals as goal

pub returns : goal.returns
returns c =
    λ M told r h.
    let chans = map (λ (l : LineValue). l.channel) r.lines in
    let next = c.comes_next.ensures chans
    (λ q. h.part.lined q ∙ sym (any-map (λ p. p == q) (λ (l : LineValue). l.channel) r.lines)) in
    let none = ap (λ n. n == 0) c.count.ensures.value
    ∙ none_traced r c.args.self.now.part.traced h.part.traced h.part.traced_low in
    c.both.ensures ∙ (λ i. none i && next i)
    ∙ ap (λ a. is_empty r.traces && comes_next a chans c.args.chan) (h.knows.active ∙ sym h.part.active)
