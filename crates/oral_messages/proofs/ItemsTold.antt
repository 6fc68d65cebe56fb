-- The walk over a level that gives what is told of its paths.
use Rattle.std.proofs.Common.{◌≡◌, ℕ, ◌+◌, ◌<◌, Bool, true, false, cond, not, List, [], ◌∷◌, ◌++◌, length, take, get_or, ap, ◌∙◌, Option, Some, None, refl, sym, arith, eq-eqb, ◌||◌, ◌==◌}
use Rattle.guards_model.proofs.BoolTests.{or_true, or_left}
use Rattle.std.specs.Prelude.{map, filter, reverse, option_map}
use Rattle.std.proofs.lemmas.List.{map-append, append-nil, length-map, take_all}
use Rattle.std.proofs.lemmas.List.Elements.{filter_more}
use Rattle.guards_model.specs.Channels.{Channel, has}
use Rattle.guards_model.specs.Frames.{SourceValue, ItemValue}
use Rattle.guards_model.specs.OralMessages.{PathValue}
use Rattle.oral_messages.specs.Trees.{items_told}
use Rattle.std.proofs.lemmas.Option.{slice_get-map, slice_get-get_or, get_or_from_slice_get, slice_get_read}

module _ (me : Channel) (value : PathValue → Option SourceValue) (ys : List PathValue) (i : ℕ) (y : PathValue)
    (lt : i < length ys) (is : get_or ys i [] ≡ y) where
  item : PathValue → ItemValue
  item y = record { path = reverse y; word = value y }

  free : PathValue → Bool
  free y = not (has y me)

  pub told_more : has y me ≡ false →
      items_told me value (take (i + 1) ys)
      ≡ items_told me value (take i ys) ++ (let one : ItemValue = record { path = reverse y; word = value y } in one)
      ∷ []
  unfolding items_told item free
  told_more apart =
      ap (map item) (filter_more free ys i [] lt
      ∙ ap (λ x. filter free (take i ys) ++ cond (free x) (x ∷ []) []) is
      ∙ ap (λ b. filter free (take i ys) ++ cond (not b) (y ∷ []) []) apart)
      ∙ map-append item (filter free (take i ys)) (y ∷ [])

  pub told_same : has y me ≡ true → items_told me value (take (i + 1) ys) ≡ items_told me value (take i ys)
  unfolding items_told item free
  told_same there =
      ap (map item) (filter_more free ys i [] lt
      ∙ ap (λ x. filter free (take i ys) ++ cond (free x) (x ∷ []) []) is
      ∙ ap (λ b. filter free (take i ys) ++ cond (not b) (y ∷ []) []) there
      ∙ append-nil (filter free (take i ys)))

-- what the items tell of the first paths of a level, whatever function the values are of
abbrev pub TellsFront : Channel → List (Option SourceValue) → List PathValue → List ItemValue → ℕ → Type 0
TellsFront me values ys items i = (value : PathValue → Option SourceValue) → values ≡ map value ys →
    items ≡ items_told me value (take i ys)

pub front_none : (me : Channel) (values : List (Option SourceValue)) (ys : List PathValue) (items : List ItemValue) →
    items ≡ [] → TellsFront me values ys items 0
unfolding items_told
front_none me values ys items none value same = none

module _ (me : Channel) (values : List (Option SourceValue)) (ys : List PathValue) (items new : List ItemValue) (i : ℕ)
    (y : PathValue) (lt : i < length values) (is : get_or ys i [] ≡ y) where
  same_length : (value : PathValue → Option SourceValue) → values ≡ map value ys → length values ≡ length ys
  same_length value same = ap length same ∙ length-map ys value

  pub front_more : (item : ItemValue) → has y me ≡ false → new ≡ items ++ item ∷ [] →
      item ≡ (let one : ItemValue = record { path = reverse y; word = get_or values i None } in one) →
      TellsFront me values ys items i → TellsFront me values ys new (i + 1)
  front_more item apart e shown before value same =
      let long : length values ≡ length ys = same_length value same in
      let within : i < length ys = omega (arith, lt, long) in
      let word : get_or values i None ≡ value y =
      ap (λ xs. get_or xs i None) same
      ∙ get_or_from_slice_get (map value ys) i (value y) None
      (slice_get-map value ys i ∙ ap (option_map value) (slice_get-get_or ys i [] within ∙ ap (λ x. Some x) is)) in
      e
      ∙ ap (λ front. front ++ item ∷ []) (before value same)
      ∙ ap (λ one. items_told me value (take i ys) ++ one ∷ [])
      (shown ∙ ap (λ v. let one : ItemValue = record { path = reverse y; word = v } in one) word)
      ∙ sym (told_more me value ys i y within is apart)

  pub front_same : has y me ≡ true → new ≡ items → TellsFront me values ys items i → TellsFront me values ys new (i + 1)
  front_same there e before value same =
      let long : length values ≡ length ys = same_length value same in
      let within : i < length ys = omega (arith, lt, long) in
      e ∙ before value same ∙ sym (told_same me value ys i y within is there)

pub front_all : (me : Channel) (values : List (Option SourceValue)) (ys : List PathValue) (items : List ItemValue)
    (i : ℕ) → i ≡ length values → TellsFront me values ys items i →
    (value : PathValue → Option SourceValue) → values ≡ map value ys → items ≡ items_told me value ys
front_all me values ys items i all before value same =
    let long : i ≡ length ys = all ∙ ap length same ∙ length-map ys value in
    before value same ∙ ap (items_told me value) (take_all i ys (omega (arith, long)))

-- ---- who is on a path

pub has_one : (a me : Channel) → a ≡ me → has (a ∷ []) me ≡ true
has_one a me same = ap (λ b. b || false) (eq-eqb a me same)

pub has_first : (a b me : Channel) → a ≡ me → has (b ∷ a ∷ []) me ≡ true
has_first a b me same = or_true (b == me) (has (a ∷ []) me) (has_one a me same)

pub has_last : (a b me : Channel) → b ≡ me → has (b ∷ a ∷ []) me ≡ true
has_last a b me same = or_left (b == me) (has (a ∷ []) me) (eq-eqb b me same)

pub read_none : (xs : List (Option SourceValue)) (i : ℕ) (x : Option SourceValue) → i < length xs → x ≡ get_or xs i x →
    x ≡ get_or xs i None
read_none xs i x lt e = sym (get_or_from_slice_get xs i x None (slice_get_read xs (length xs) i x refl lt e))
