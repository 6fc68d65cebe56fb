use Rattle.std.proofs.Common.{◌&&◌, [], ◌∷◌, Some, refl}
use Rattle.std.specs.Prelude.{codes}
use Rattle.guards_model.specs.Frames.{is_set}
use Rattle.guards_model.specs.Texts.{set_text, remaining_text}
use Rattle.guards_model.proofs.BoolTests.{both}
use Rattle.guards_audit.specs.Lines.{end_told, is_small, if_there}
use Rattle.run_audit.proofs.LineLemmas.{lacks_set, lacks_remaining}
use Rattle.run_audit.proofs.line.end_in.Goals as goal

pub returns-clause-read : goal.returns-clause-read
returns-clause-read c =
    λ s removed joined left form size e.
    let parts = both (is_set removed) (is_set joined && if_there is_small left) form in
    let more = both (is_set joined) (if_there is_small left) parts.1 in
    let a = c.labelled.ensures (codes "removed") (set_text removed)
    (codes "joined" ∷ set_text joined ∷ codes "remaining" ∷ remaining_text left ∷ []) refl (lacks_set removed) e in
    let b = c.labelled-2.ensures (codes "joined") (set_text joined) (codes "remaining" ∷ remaining_text left ∷ []) refl
    (lacks_set joined) a.1 in
    let d = c.labelled-3.ensures (codes "remaining") (remaining_text left) [] refl (lacks_remaining left) b.1 in
    let gone = c.set.ensures.read removed parts.0 a.0 in
    let come = c.set-2.ensures.read joined more.0 b.0 in
    let rest = c.remaining.ensures left size d.0 in
    λ i. Some (end_told (gone i) (come i) (rest i))
