-- The values of the branches of a path stand together in the next level, so that the levels settle from the last one
-- up.
use Rattle.std.proofs.Common.{◌≡◌, ℕ, suc, ◌+◌, ◌-◌, ◌*◌, ◌<◌, ◌≤◌, ◌==◌, true, List, [], ◌∷◌, length, take, drop, get_or, Option, Some, None, refl, sym, ap, ◌∙◌, arith}
use Rattle.std.specs.Prelude.{map, slice_get, option_map}
use Rattle.std.proofs.lemmas.List.{take-map, drop-map, length-map}
use Rattle.std.proofs.lemmas.Option.{slice_get-map, slice_get-get_or, get_or_from_slice_get}
use Rattle.std.proofs.lemmas.Bool.{eqb-true}
use Rattle.guards_model.specs.Channels.{Channel, ChannelSet, without}
use Rattle.guards_model.specs.Frames.{SourceValue, ItemValue, is_set}
use Rattle.guards_model.specs.OralMessages.{PathValue, held_value, resolved_value, majority_value, paths}
use Rattle.oral_messages.specs.Ranks.{is_path, rank}
use Rattle.oral_messages.proofs.RankLaws.{path_at, piece_is, in_piece, nexts, even, all_get}

pub map-map : {A B C : Type 0} (f : B → C) (g : A → B) (xs : List A) → map f (map g xs) ≡ map (λ x. f (g x)) xs
map-map f g [] = refl
map-map f g (x ∷ xs) = ap (λ ys. f (g x) ∷ ys) (map-map f g xs)

-- lists of one length with the same elements
pub same_lists : {A : Type 0} (d : A) (xs ys : List A) → length xs ≡ length ys →
    ((i : ℕ) → i < length ys → get_or xs i d ≡ get_or ys i d) → xs ≡ ys
same_lists d [] [] e h = refl
same_lists d [] (y ∷ ys) e h = absurd (omega (arith, e))
same_lists d (x ∷ xs) [] e h = absurd (omega (arith, e))
same_lists d (x ∷ xs) (y ∷ ys) e h =
    ap (λ z. z ∷ xs) (h 0 (omega arith))
    ∙ ap (λ zs. y ∷ zs) (same_lists d xs ys (omega (arith, e)) (λ i lt. h (suc i) (omega (arith, lt))))

module _ (active : ChannelSet) (width : ℕ) (me : Channel) (own : SourceValue)
    (received : ℕ → Channel → List ItemValue) where
  abbrev S : PathValue → Option SourceValue
  S y = held_value active width me own received y

  abbrev O : ℕ → PathValue → Option SourceValue
  O k y = resolved_value active width me own received k y

  pub branches_are : (k i j w : ℕ) (y : PathValue) → is_set active ≡ true → k ≤ 2 →
      slice_get (paths active k) i ≡ Some y → w ≡ length active - k → j ≡ i * w →
      take w (drop j (map S (paths active (suc k)))) ≡ map (λ q. O 0 (q ∷ y)) (without active y)
  branches_are k i j w y set small there long start =
      ap (take w) (drop-map S j (paths active (suc k)))
      ∙ take-map S w (drop j (paths active (suc k)))
      ∙ ap (map S) (ap (λ n. take n (drop j (paths active (suc k)))) long
      ∙ piece_is (nexts active) (length active - k) (paths active k) i j y (even active k set small) there
      (start ∙ ap (λ n. i * n) long))
      ∙ map-map S (λ q. q ∷ y) (without active y)

  -- a path whose branches are the last ones
  pub last_but_one : (k i j w : ℕ) (y : PathValue) → is_set active ≡ true → k ≤ 2 →
      slice_get (paths active k) i ≡ Some y → w ≡ length active - k → j ≡ i * w →
      majority_value (take w (drop j (map S (paths active (suc k))))) ≡ O 1 y
  last_but_one k i j w y set small there long start =
      ap majority_value (branches_are k i j w y set small there long start)

  -- a source whose branches have branches themselves
  pub two_up : (s : Channel) (branches : List (Option SourceValue)) → is_set active ≡ true →
      is_path active (s ∷ []) ≡ true → length branches ≡ length active - 1 →
      ((i : ℕ) → i < length active - 1 →
      get_or branches i None ≡ majority_value
      (take (length active - 2)
      (drop ((rank active (s ∷ []) * (length active - 1) + i) * (length active - 2)) (map S (paths active 3))))) →
      majority_value branches ≡ O 2 (s ∷ [])
  two_up s branches set path long each =
      ap majority_value (same_lists None branches (map (λ q. O 1 (q ∷ s ∷ [])) (without active (s ∷ [])))
      (long ∙ sym count) at_place)
    where
      there : slice_get (paths active 1) (rank active (s ∷ [])) ≡ Some (s ∷ [])
      there = path_at active (s ∷ []) set path (omega arith)

      pieces : length (nexts active (s ∷ [])) ≡ length active - 1
      pieces = eqb-true (length (nexts active (s ∷ []))) (length active - 1)
          (all_get (λ y. length (nexts active y) == length active - 1) (paths active 1) (rank active (s ∷ [])) (s ∷ [])
          (even active 1 set (omega arith)) there)

      labels : length (without active (s ∷ [])) ≡ length active - 1
      labels = sym (length-map (without active (s ∷ [])) (λ q. q ∷ s ∷ [])) ∙ pieces

      count : length (map (λ q. O 1 (q ∷ s ∷ [])) (without active (s ∷ []))) ≡ length active - 1
      count = length-map (without active (s ∷ [])) (λ q. O 1 (q ∷ s ∷ [])) ∙ labels

      at_label : (i : ℕ) (q : Channel) → slice_get (without active (s ∷ [])) i ≡ Some q → i < length active - 1 →
          get_or branches i None ≡ get_or (map (λ q. O 1 (q ∷ s ∷ [])) (without active (s ∷ []))) i None
      at_label i q h lt =
          let piece : slice_get (nexts active (s ∷ [])) i ≡ Some (q ∷ s ∷ []) =
          slice_get-map (λ q. q ∷ s ∷ []) (without active (s ∷ [])) i ∙ ap (option_map (λ q. q ∷ s ∷ [])) h in
          let next : slice_get (paths active 2) (rank active (s ∷ []) * (length active - 1) + i) ≡ Some (q ∷ s ∷ []) =
          in_piece (nexts active) (length active - 1) (paths active 1) (rank active (s ∷ [])) i
          (rank active (s ∷ []) * (length active - 1) + i) (s ∷ []) (q ∷ s ∷ []) (even active 1 set (omega arith))
          there piece refl in
          let value : slice_get (map (λ q. O 1 (q ∷ s ∷ [])) (without active (s ∷ []))) i ≡ Some (O 1 (q ∷ s ∷ [])) =
          slice_get-map (λ q. O 1 (q ∷ s ∷ [])) (without active (s ∷ [])) i
          ∙ ap (option_map (λ q. O 1 (q ∷ s ∷ []))) h in
          each i lt
          ∙ last_but_one 2 (rank active (s ∷ []) * (length active - 1) + i)
          ((rank active (s ∷ []) * (length active - 1) + i) * (length active - 2)) (length active - 2) (q ∷ s ∷ [])
          set (omega arith) next refl refl
          ∙ sym (get_or_from_slice_get (map (λ q. O 1 (q ∷ s ∷ [])) (without active (s ∷ []))) i (O 1 (q ∷ s ∷ [])) None
          value)

      at_place : (i : ℕ) → i < length (map (λ q. O 1 (q ∷ s ∷ [])) (without active (s ∷ []))) →
          get_or branches i None ≡ get_or (map (λ q. O 1 (q ∷ s ∷ [])) (without active (s ∷ []))) i None
      at_place i lt =
          at_label i (get_or (without active (s ∷ [])) i 0)
          (slice_get-get_or (without active (s ∷ [])) i 0 (omega (arith, lt, count, labels)))
          (omega (arith, lt, count))
