use Rattle.std.proofs.Common.{◌==◌, ◌&&◌, ap, sym, ◌∙◌}
use Rattle.guards_model.specs.Records.{transfer_of_pair}
use Rattle.told_cycles.proofs.FitLemmas.{none_goes_on, one_goes_on}
use Rattle.told_cycles.proofs.auditor.Auditor.goes_on.Goals as goal

pub returns-in_default : goal.returns-in_default
returns-in_default c =
    λ M told h. none_goes_on told (record { targets = c.args.targets; start = c.args.start })
    (sym (ap transfer_of_pair c.in_default.is) ∙ h.knows.transfer)

pub returns : goal.returns
returns c =
    λ M told h.
    c.both-2.ensures
    ∙ (λ i. (c.count.ensures.value i == 0)
    && (c.both.ensures ∙ (λ j. (c.in-Some.since == c.args.start) && c.within.ensures j)) i)
    ∙ one_goes_on told c.args.self.now.joined (record { targets = c.in-Some.before; start = c.in-Some.since })
    (record { targets = c.args.targets; start = c.args.start })
    h.knows.joined (sym (ap transfer_of_pair c.in-Some.is) ∙ h.knows.transfer)
