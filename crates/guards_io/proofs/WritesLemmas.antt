-- Texts that are written one after the other.
use Rattle.std.proofs.Common.{ℕ, List, [], ◌++◌, Result, Ok, Err, refl, sym, ap, subst, ◌∙◌, append_assoc, length-append, arith}
use Rattle.std.specs.Io.KnownBytes.{Appends}
use Rattle.std.proofs.KnownBytes.{Appends-nil, Appends-trans}
use Rattle.guards_io.specs.Views.{SinkView}
use Rattle.guards_io.specs.Writes.{Puts, Writes}
use Rattle.guards_io.specs.declared.writing.WriteStop.{WriteStop}
use Rattle.guards_io.specs.declared.writing.WriteStop.TheVariants.{Failed, Memory}

-- nothing was written of a text for which there was no memory
pub nothing_written : (a : SinkView) (x : List ℕ) → Writes a a x (Err Memory)
nothing_written a x = (([], x, refl, Appends-nil a.written), refl)

-- what writes a part writes a text of one part
pub puts_writes : (a b : SinkView) (x : List ℕ) (r : Result (Unit {0}) WriteStop) → Puts a b x r → Writes a b x r
puts_writes a b x (Ok _) h = h
puts_writes a b x (Err Failed) h = h
puts_writes a b x (Err Memory) h = (
  ([], x, refl, subst (λ (s : SinkView). Appends a.written s.written []) (sym h) (Appends-nil a.written)),
  ap (λ (s : SinkView). s.faults) h,
)

-- a text, and then another
pub writes_then : (a b c : SinkView) (x y : List ℕ) (r : Result (Unit {0}) WriteStop) → Writes a b x (Ok tt) →
    Writes b c y r → Writes a c (x ++ y) r
writes_then a b c x y (Ok _) first second =
    (Appends-trans a.written b.written c.written x y first.0 second.0, second.1 ∙ first.1)
writes_then a b c x y (Err Memory) first second =
    let (front, rest, whole, appended) = second.0 in (
      (
        x ++ front,
        rest,
        ap (λ (l : List ℕ). x ++ l) whole ∙ sym (append_assoc x front rest),
        Appends-trans a.written b.written c.written x front first.0 appended,
      ),
      second.1 ∙ first.1,
    )
writes_then a b c x y (Err Failed) first second =
    let (front, rest, whole, some, appended) = second.0 in (
      (
        x ++ front,
        rest,
        ap (λ (l : List ℕ). x ++ l) whole ∙ sym (append_assoc x front rest),
        some,
        Appends-trans a.written b.written c.written x front first.0 appended,
      ),
      rw (← first.1) second.1,
    )

-- a text that was not written to its end is the front of a longer one
pub writes_stop : (a b : SinkView) (x y : List ℕ) (e : WriteStop) → Writes a b x (Err e) → Writes a b (x ++ y) (Err e)
writes_stop a b x y Memory first =
    let (front, rest, whole, appended) = first.0 in
    ((front, rest ++ y, ap (λ (l : List ℕ). l ++ y) whole ∙ append_assoc front rest y, appended), first.1)
writes_stop a b x y Failed first =
    let (front, rest, whole, some, appended) = first.0 in (
      (
        front,
        rest ++ y,
        ap (λ (l : List ℕ). l ++ y) whole ∙ append_assoc front rest y,
        omega (arith, length-append rest y),
        appended,
      ),
      first.1,
    )
