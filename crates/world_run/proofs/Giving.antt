-- Texts that are handed to a sink one after the other.
use Rattle.std.proofs.Common.{◌≡◌, ◌+◌, ℕ, zero, suc, List, [], ◌∷◌, ◌++◌, take, drop, Some, Result, Ok, Err, refl, sym, ap, ◌∙◌, append_assoc, length-append, append-nil, add-one, arith}
use Rattle.std.specs.Prelude.{flat_map, slice_get}
use Rattle.std.proofs.KnownBytes.{Appends-nil, Appends-trans}
use Rattle.guards_io.specs.declared.Failed.{Failed}
use Rattle.guards_model.specs.Texts.{TextValue}
use Rattle.guards_io.specs.Views.{SinkView}
use Rattle.world_run.specs.Keeping.{HandsOver}

pub gives_nothing : (a : SinkView) → HandsOver a a [] (Ok tt)
gives_nothing a = (Appends-nil a.written, refl)

-- a text, and then another
pub gives_then : (a b c : SinkView) (x y : TextValue) (r : Result (Unit {0}) Failed) → HandsOver a b x (Ok tt) →
    HandsOver b c y r → HandsOver a c (x ++ y) r
gives_then a b c x y (Ok _) first second =
    (Appends-trans a.written b.written c.written x y first.0 second.0, second.1 ∙ first.1)
gives_then a b c x y (Err _) first second =
    let (front, rest, whole, some, appended) = second.0 in (
      (
        x ++ front,
        rest,
        ap (λ (l : List ℕ). x ++ l) whole ∙ sym (append_assoc x front rest),
        some,
        Appends-trans a.written b.written c.written x front first.0 appended,
      ),
      rw (← first.1) second.1,
    )

-- a text that was not written to its end is the front of a longer one
pub gives_stop : (a b : SinkView) (x y : TextValue) (e : Failed) → HandsOver a b x (Err e) →
    HandsOver a b (x ++ y) (Err e)
gives_stop a b x y e first =
    let (front, rest, whole, some, appended) = first.0 in (
      (
        front,
        rest ++ y,
        ap (λ (l : List ℕ). l ++ y) whole ∙ append_assoc front rest y,
        omega (arith, length-append rest y),
        appended,
      ),
      first.1,
    )

-- the first of some texts
abbrev pub first_of : ℕ → List TextValue → TextValue
first_of n texts = flat_map (λ text. text) (take n texts)

one_more : (texts : List TextValue) (n : ℕ) (text : TextValue) → slice_get texts n ≡ Some text →
    first_of (suc n) texts ≡ first_of n texts ++ text
one_more [] n text is = absurd cc
one_more (t ∷ texts) zero text is =
    let same : t ≡ text = cc in
    append-nil t ∙ same
one_more (t ∷ texts) (suc n) text is =
    ap (λ (l : TextValue). t ++ l) (one_more texts n text is) ∙ sym (append_assoc t (first_of n texts) text)

rest_of : (texts : List TextValue) (n : ℕ) →
    flat_map (λ text. text) texts ≡ first_of n texts ++ flat_map (λ text. text) (drop n texts)
rest_of texts zero = refl
rest_of [] (suc n) = refl
rest_of (t ∷ texts) (suc n) =
    ap (λ (l : TextValue). t ++ l) (rest_of texts n)
    ∙ sym (append_assoc t (first_of n texts) (flat_map (λ text. text) (drop n texts)))

pub part_given : (a b c : SinkView) (texts : List TextValue) (n : ℕ) (text : TextValue) →
    slice_get texts n ≡ Some text → HandsOver a b (first_of n texts) (Ok tt) → HandsOver b c text (Ok tt) →
    HandsOver a c (first_of (n + 1) texts) (Ok tt)
part_given a b c texts n text is first second =
    rw add-one (rw (one_more texts n text is) (gives_then a b c (first_of n texts) text (Ok tt) first second))

pub part_failed : (a b c : SinkView) (texts : List TextValue) (n : ℕ) (text : TextValue) (e : Failed) →
    slice_get texts n ≡ Some text → HandsOver a b (first_of n texts) (Ok tt) → HandsOver b c text (Err e) →
    HandsOver a c (flat_map (λ text. text) texts) (Err e)
part_failed a b c texts n text e is first second =
    rw (rest_of texts (suc n), one_more texts n text is)
    (gives_stop a c (first_of n texts ++ text) (flat_map (λ text. text) (drop (suc n) texts)) e
    (gives_then a b c (first_of n texts) text (Err e) first second))
