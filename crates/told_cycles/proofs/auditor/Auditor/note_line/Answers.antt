use Rattle.std.proofs.Common.{[], ◌∷◌, ap, sym, ◌∙◌}
use Rattle.guards_model.specs.Channels.{union}
use Rattle.told_cycles.proofs.ChannelLemmas.{kept_first, new_first}
use Rattle.told_cycles.proofs.auditor.Auditor.note_line.Goals as goal

pub returns-then-is_some : goal.returns-then-is_some
returns-then-is_some c =
    let a = c.args.self.now in
    let lined = c.with-self.ensures ∙ ap (λ q. union a.part.lined (q ∷ [])) c.teller_of.ensures in
    let first = kept_first a.part.first c.args.line (sym c.is_some.ensures ∙ c.if-is_some.true) in
    λ i. record a { part = record a.part { lined = lined i; first = first i } }

pub returns-else-is_some : goal.returns-else-is_some
returns-else-is_some c =
    let a = c.args.self.now in
    let lined = c.with-self.ensures ∙ ap (λ q. union a.part.lined (q ∷ [])) c.teller_of.ensures in
    let first = new_first a.part.first c.args.line (sym c.is_some.ensures ∙ c.if-is_some.false) in
    λ i. record a { part = record a.part { lined = lined i; first = first i } }
