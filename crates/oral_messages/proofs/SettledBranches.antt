-- Equal words, and the walk that settles.
use Rattle.std.proofs.Common.{◌≡◌, ℕ, suc, ◌*◌, Bool, true, false, ◌==◌, ◌+◌, ◌/◌, ◌<◌, ◌≤◌, List, ◌∷◌, length, drop, get_or, Option, Some, cond, refl, sym, ap, ◌∙◌, arith, eq-eqb, drop-cons}
use Rattle.std.specs.Prelude.{count_by, find, nat_lt, option_and_then, bytes_eq, MatchBool}
use Rattle.std.specs.Option.{option_eq}
use Rattle.std.proofs.lemmas.Bool.{eqb-true, leb-true, le-leb}
use Rattle.guards_model.specs.Frames.{SourceValue}
use Rattle.guards_model.specs.OralMessages.{same_source_word}
use Rattle.std.proofs.lemmas.Slice.Eq.{bytes_eq-Decides}
use Rattle.guards_model.specs.Channels.{mask, set_of_mask}

-- what is settled by those of the values that are left to try
abbrev pub settled_among : List (Option SourceValue) → List (Option SourceValue) → Option SourceValue
settled_among values rest =
    option_and_then (λ v. v) (find (λ v. nat_lt (length values) (2 * count_by (option_eq same_source_word v) values))
    rest)

-- what a test says where it holds, and where it does not
pub more : (P Q : Type 0) (b : Bool) → b ≡ true → MatchBool b P Q → P
more P Q true e h = h
more P Q false e h = absurd (let z : false ≡ true = e in cc)

pub few : (P Q : Type 0) (b : Bool) → b ≡ false → MatchBool b P Q → Q
few P Q false e h = h
few P Q true e h = absurd (let z : true ≡ false = e in cc)

-- sets with one mask are equal
pub same_masks : (a b : List ℕ) (m n : ℕ) → m ≡ mask a → n ≡ mask b → a ≡ set_of_mask m → b ≡ set_of_mask n →
    (m == n) ≡ bytes_eq a b
same_masks a b m n ma nb am bn = by (m == n) (bytes_eq a b) refl refl
  where
    by : (p q : Bool) → (m == n) ≡ p → bytes_eq a b ≡ q → (m == n) ≡ bytes_eq a b
    by true true e h = e ∙ sym h
    by false false e h = e ∙ sym h
    by true false e h =
        let alike : a ≡ b = am ∙ ap set_of_mask (eqb-true m n e) ∙ sym bn in
        let k : false ≡ true = sym h ∙ (bytes_eq-Decides a b).1 alike in absurd (let z : false ≡ true = k in cc)
    by false true e h =
        let alike : a ≡ b = (bytes_eq-Decides a b).0 h in
        let k : false ≡ true = sym e ∙ eq-eqb m n (ma ∙ ap mask alike ∙ sym nb) in
        absurd (let z : false ≡ true = k in cc)

not_less : (a b : ℕ) (e : Bool) → nat_lt a b ≡ e → b ≤ a → nat_lt a b ≡ false
not_less a b true h le = absurd (omega (arith, leb-true (suc a) b h, le))
not_less a b false h le = h

module _ (values : List (Option SourceValue)) (i : ℕ) (v : Option SourceValue) (count : ℕ) (lt : i < length values)
    (is : v ≡ get_or values i v)
    (counted : count ≡ count_by (option_eq same_source_word v) values) where
  first_left : drop i values ≡ v ∷ drop (i + 1) values
  first_left = drop-cons values i v lt ∙ ap (λ x. x ∷ drop (suc i) values) (sym is)
      ∙ ap (λ n. v ∷ drop n values) (let one : suc i ≡ i + 1 = omega arith in one)

  enough : Bool
  enough = nat_lt (length values) (2 * count_by (option_eq same_source_word v) values)

  -- the value that is left first decides
  pub settled_here : length values / 2 < count → settled_among values (drop i values) ≡ v
  settled_here many =
      ap (settled_among values) first_left
      ∙ ap (λ b. option_and_then (λ u. u)
      (cond b (Some v) (find (λ u. nat_lt (length values) (2 * count_by (option_eq same_source_word u) values))
      (drop (i + 1) values))))
      (le-leb (suc (length values)) (2 * count_by (option_eq same_source_word v) values) (omega (arith, many, counted)))

  -- or those after it do
  pub settled_later : count ≤ length values / 2 →
      settled_among values (drop (i + 1) values) ≡ settled_among values (drop i values)
  settled_later few =
      sym (ap (settled_among values) first_left
      ∙ ap (λ b. option_and_then (λ u. u)
      (cond b (Some v) (find (λ u. nat_lt (length values) (2 * count_by (option_eq same_source_word u) values))
      (drop (i + 1) values))))
      (not_less (length values) (2 * count_by (option_eq same_source_word v) values)
      (nat_lt (length values) (2 * count_by (option_eq same_source_word v) values)) refl
      (omega (arith, few, counted))))
