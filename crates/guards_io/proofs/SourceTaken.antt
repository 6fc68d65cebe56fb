-- What was taken of a source where a read stopped: what stood before it, and what it took itself.
use Rattle.std.proofs.Common.{◌≡◌, ◌≤◌, ◌+◌, ◌-◌, ℕ, List, ◌++◌, length, Option, Some, None, Err, refl, sym, ap, ◌∙◌, append_assoc, length-append, arith}
use Rattle.std.specs.Io.KnownBytes.{Consumes, Keeps}
use Rattle.guards_io.specs.Causes.{Rose}
use Rattle.guards_io.specs.declared.reading.ReadStop.{ReadStop}
use Rattle.guards_io.specs.declared.reading.ReadStop.TheVariants.{Failed, TooLong, Memory}
use Rattle.guards_io.specs.Stream.{ReadsAll}
use Rattle.guards_io.specs.Views.{SourceView}

taken_then : (old between new : Option (List ℕ)) (front piece : List ℕ) → Consumes old between front →
    Consumes between new piece → Consumes old new (front ++ piece)
taken_then None between new front piece first second = tt
taken_then (Some xs) None new front piece first second = absurd first
taken_then (Some xs) (Some ys) None front piece first second = absurd second
taken_then (Some xs) (Some ys) (Some zs) front piece first second =
    first ∙ ap (λ (l : List ℕ). front ++ l) second ∙ sym (append_assoc front piece zs)

then_kept : (old between new : Option (List ℕ)) (front : List ℕ) → Consumes old between front → Keeps between new →
    Consumes old new front
then_kept None between new front first kept = tt
then_kept (Some xs) None new front first kept = absurd first
then_kept (Some xs) (Some ys) None front first kept = absurd kept
then_kept (Some xs) (Some ys) (Some zs) front first kept = first ∙ ap (λ (l : List ℕ). front ++ l) (sym kept)

module _ (old between new : SourceView) (bytes : List ℕ) (limit most : ℕ) (left : most ≡ limit + 1 - length bytes)
    (within : length bytes ≤ limit) (taken : Consumes old.left between.left bytes)
    (quiet : between.faults ≡ old.faults) where
  pub stopped : (stop : ReadStop) → (stop ≡ Failed → Keeps between.left new.left × Rose between.faults new.faults) →
      (stop ≡ TooLong → ⊥)
      → (stop ≡ Memory → (piece : List ℕ) × (length piece ≤ most) × Consumes between.left new.left piece
      × (new.faults ≡ between.faults)) → ReadsAll limit old new (Err stop)
  stopped Failed failed long short =
      let h = failed refl in
      ((bytes, within, then_kept old.left between.left new.left bytes taken h.0), rw⁻¹ quiet h.1)
  stopped TooLong failed long short = absurd (long refl)
  stopped Memory failed long short =
      let h = short refl in (
        (
          bytes ++ h.0,
          omega (arith, length-append bytes h.0, h.1, left, within),
          taken_then old.left between.left new.left bytes h.0 taken h.2,
        ),
        h.3 ∙ quiet,
      )
