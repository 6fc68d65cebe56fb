use Rattle.std.proofs.Common.{◌≡◌, ◌++◌, List, ℕ, take, drop, ap, sym, ◌∙◌, append_assoc, take-append-drop, rules}
use Rattle.std.proofs.KnownBytes.{Appends-trans}
use Rattle.guards_io.proofs.writing.write_all.Goals as goal

cut : (piece front rest : List ℕ) (count : ℕ) → piece ≡ front ++ rest →
    piece ≡ (front ++ take count rest) ++ drop count rest
cut piece front rest count whole =
    whole ∙ ap (λ (l : List ℕ). front ++ l) (sym (take-append-drop count rest))
    ∙ sym (append_assoc front (take count rest) (drop count rest))

pub loop-rest-preserved : goal.loop-rest-preserved
loop-rest-preserved g c =
    let (front, whole, appended) = c.loop-rest.invariant.written in
    record {
      written = (
        front ++ take c.in_ok-count.count c.loop-rest.rest.now,
        rw c.split_at.ensures.back (cut _ front _ c.in_ok-count.count whole),
        Appends-trans _ _ _ _ _ appended c.in_ok-count.ensures.bytes,
      );
      kept = search rules;
    }
