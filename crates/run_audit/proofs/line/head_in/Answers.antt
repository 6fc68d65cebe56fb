use Rattle.std.proofs.Common.{suc, ◌^◌, [], ◌∷◌, Some, refl}
use Rattle.std.specs.Prelude.{codes}
use Rattle.std.specs.Fmt.{decimal}
use Rattle.std.proofs.lemmas.Bool.{leb-true}
use Rattle.guards_model.proofs.BoolTests.{both}
use Rattle.guards_audit.specs.Lines.{head_told, is_small}
use Rattle.guards_audit.proofs.ReadBack.{lacks-decimal}
use Rattle.run_audit.proofs.line.head_in.Goals as goal

pub returns-clause-read : goal.returns-clause-read
returns-clause-read c =
    λ s channels cycles form size e.
    let parts = both (is_small channels) (is_small cycles) form in
    let a = c.labelled.ensures (codes "channels") (decimal channels) (codes "cycles" ∷ decimal cycles ∷ []) refl
    (lacks-decimal 32 channels refl) e in
    let b = c.labelled-2.ensures (codes "cycles") (decimal cycles) [] refl (lacks-decimal 32 cycles refl) a.1 in
    let n = c.small_number.ensures channels (leb-true (suc channels) (2 ^ 8) size) a.0 in
    let m = c.number.ensures.read cycles (leb-true (suc cycles) (2 ^ 32) parts.1) b.0 in
    λ i. Some (head_told (n i) (m i))
