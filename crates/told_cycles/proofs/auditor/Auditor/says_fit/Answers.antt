use Rattle.std.proofs.Common.{ap, sym, ◌∙◌}
use Rattle.guards_model.specs.Contexts.{ContextValue}
use Rattle.told_cycles.specs.Standing.{shown_in}
use Rattle.told_cycles.proofs.ChannelLemmas.{amid_later, none_before, says_first, says_later}
use Rattle.told_cycles.proofs.auditor.Auditor.says_fit.Goals as goal

pub returns-in-Some-clause-fits : goal.returns-in-Some-clause-fits
returns-in-Some-clause-fits g c =
    let M = c.args.mission.now in
    λ told r h.
    c.says_same.ensures ∙ sym
    (says_later M told r (shown_in M c.args.line.now) c.args.self.now.part.first c.in-Some.first h.part.first
    c.in-Some.is).1

pub returns-in-Some-clause-context : goal.returns-in-Some-clause-context
returns-in-Some-clause-context g c =
    let M = c.args.mission.now in
    let a = c.args.self.now in
    λ told r h.
    let later = says_later M told r (shown_in M c.args.line.now) a.part.first c.in-Some.first h.part.first
    c.in-Some.is in
    ap (λ (x : ContextValue). record a { context = x })
    (h.knows.context ∙ sym (amid_later M told r (shown_in M c.args.line.now) later.0))

pub returns-clause-fits : goal.returns-clause-fits
returns-clause-fits g c =
    let M = c.args.mission.now in
    λ told r h.
    let none = none_before M r c.args.self.now.part.first h.part.first c.in_default.is in
    c.first_fits.ensures.fits told r h none ∙ sym (says_first M told r (shown_in M c.args.line.now) none)

pub returns-clause-context : goal.returns-clause-context
returns-clause-context g c =
    λ told r h. c.first_fits.ensures.context told r h
    (none_before c.args.mission.now r c.args.self.now.part.first h.part.first c.in_default.is)
