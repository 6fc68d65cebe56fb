use Rattle.std.proofs.Common.{◌∷◌, [], ◌++◌, ap, map, sym, ◌∙◌, ℕ}
use Rattle.circular_buffer.specs.Buffer.{Buffer, keep_last}
use Rattle.guards_base.specs.Seen.{Seen}
use Rattle.flight_log.specs.Kept.{Kept}
use Rattle.flight_log.proofs.LastKept.{kept_more}
use Rattle.flight_log.proofs.log.FlightLog.push.Goals as goal

pub returns-clause-last : goal.returns-clause-last
returns-clause-last c = λ pushed last.
    let buffer = c.self.inside.buffer in
    let room = ap (λ (log : Kept). log.room) c.self.view_is in
    let had = ap (λ (log : Kept). log.parts) c.self.view_is ∙ last ∙ ap (λ n. keep_last n pushed) (sym room) in
    let now = c.push_back.ensures.items in
    ap (λ (b : Buffer (Seen ℕ)). map (λ (part : Seen ℕ). part.items) b.items) now
    ∙ kept_more (λ (part : Seen ℕ). part.items) buffer.capacity buffer.items c.args.part pushed had
    ∙ ap (λ (b : Buffer (Seen ℕ)). keep_last b.capacity (pushed ++ c.args.part.items ∷ [])) (sym now)
