use Rattle.std.proofs.Common.{◌&&◌, suc, ◌^◌, [], ◌∷◌, Some, refl}
use Rattle.std.specs.Prelude.{codes}
use Rattle.std.specs.Fmt.{decimal}
use Rattle.std.proofs.lemmas.Bool.{leb-true}
use Rattle.guards_model.specs.Frames.{is_set}
use Rattle.guards_model.specs.Texts.{set_text, transfer_text}
use Rattle.guards_model.proofs.BoolTests.{both}
use Rattle.guards_audit.specs.Lines.{cycle_told, is_small, if_there, is_transfer}
use Rattle.guards_audit.proofs.ReadBack.{lacks-decimal}
use Rattle.run_audit.proofs.LineLemmas.{lacks_set, lacks_transfer}
use Rattle.run_audit.proofs.line.cycle_in.Goals as goal

pub returns-clause-read : goal.returns-clause-read
returns-clause-read c =
    λ s cycle active running form size e.
    let parts = both (is_small cycle) (is_set active && if_there is_transfer running) form in
    let more = both (is_set active) (if_there is_transfer running) parts.1 in
    let a = c.piece.ensures.cut (decimal cycle)
    (codes "active" ∷ set_text active ∷ codes "transfer" ∷ transfer_text running ∷ []) (lacks-decimal 32 cycle refl)
    e in
    let b = c.labelled.ensures (codes "active") (set_text active) (codes "transfer" ∷ transfer_text running ∷ []) refl
    (lacks_set active) a.1 in
    let d = c.labelled-2.ensures (codes "transfer") (transfer_text running) [] refl (lacks_transfer running) b.1 in
    let n = c.number.ensures.read cycle (leb-true (suc cycle) (2 ^ 32) parts.0) a.0 in
    let set = c.set.ensures.read active more.0 b.0 in
    let t = c.transfer.ensures.read running more.1 d.0 in
    λ i. Some (cycle_told (n i) (set i) (t i))
