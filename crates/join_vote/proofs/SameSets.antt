-- Sets with one mask are equal.
use Rattle.std.proofs.Common.{◌≡◌, ℕ, Bool, true, false, ◌==◌, List, refl, sym, ap, ◌∙◌, eq-eqb}
use Rattle.std.specs.Prelude.{bytes_eq}
use Rattle.std.proofs.lemmas.Bool.{eqb-true}
use Rattle.std.proofs.lemmas.Slice.Eq.{bytes_eq-Decides}
use Rattle.guards_model.specs.Channels.{mask, set_of_mask}

pub same_masks : (a b : List ℕ) (m n : ℕ) → m ≡ mask a → n ≡ mask b → a ≡ set_of_mask m → b ≡ set_of_mask n →
    (m == n) ≡ bytes_eq a b
same_masks a b m n ma nb am bn = by (m == n) (bytes_eq a b) refl refl
  where
    by : (p q : Bool) → (m == n) ≡ p → bytes_eq a b ≡ q → (m == n) ≡ bytes_eq a b
    by true true e h = e ∙ sym h
    by false false e h = e ∙ sym h
    by true false e h =
        let alike : a ≡ b = am ∙ ap set_of_mask (eqb-true m n e) ∙ sym bn in
        let k : false ≡ true = sym h ∙ (bytes_eq-Decides a b).1 alike in absurd (let z : false ≡ true = k in cc)
    by false true e h =
        let alike : a ≡ b = (bytes_eq-Decides a b).0 h in
        let k : false ≡ true = sym e ∙ eq-eqb m n (ma ∙ ap mask alike ∙ sym nb) in
        absurd (let z : false ≡ true = k in cc)
