-- The sensor words of a channel stand in the row whose turn it is.
use Rattle.std.proofs.Common.{◌≡◌, ◌≤◌, ◌<◌, ◌==◌, ℕ, zero, suc, ℤ, Bool, true, List, [], ◌∷◌, length, map, take, get_or, ap, sym, subst, ◌∙◌, arith, ◌%◌}
use Rattle.std.specs.Prelude.{slice_get, unwrap_or}
use Rattle.std.specs.List.{list_all}
use Rattle.std.proofs.lemmas.Bool.{eqb-true}
use Rattle.std.proofs.lemmas.List.{length-map, get_or-map}
use Rattle.std.proofs.lemmas.Option.{slice_get-get_or}
use Rattle.guards_base.specs.Padding.{padded}
use Rattle.guards_base.specs.Seen.{Seen}
use Rattle.guards_model.specs.Missions.{row_in_turn}
use Rattle.guards_model.proofs.BoolTests.{both}
use Rattle.mission_type.specs.Parts.{in_use, rows_of}

all_at : {A : Type 0} (P : A → Bool) (xs : List A) (i : ℕ) (d : A) → list_all P xs ≡ true → i < length xs →
    P (unwrap_or (slice_get xs i) d) ≡ true
all_at P [] i d h low = absurd (omega arith)
all_at P (x ∷ xs) zero d h low = (both (P x) (list_all P xs) h).0
all_at P (x ∷ xs) (suc i) d h low = all_at P xs i d (both (P x) (list_all P xs) h).1 (omega arith)

read_at : {A : Type 0} (xs : List A) (i : ℕ) (d : A) → i < length xs → unwrap_or (slice_get xs i) d ≡ get_or xs i d
read_at xs i d lt = ap (λ o. unwrap_or o d) (slice_get-get_or xs i d lt)

pub rows_within : (raw : List (Seen (List ℤ))) (width : ℕ) → 1 ≤ length (in_use width raw) → 1 ≤ length raw
rows_within raw width some = subst (λ n. 1 ≤ n) (length-map raw (λ r. map (take width) r.items)) some

module _ (raw : List (Seen (List ℤ))) (width i : ℕ) (row : Seen (List ℤ)) (lt : i < length raw)
    (at : row ≡ get_or raw i row) where
  abbrev shown : Seen (List ℤ) → List (List ℤ)
  shown r = map (take width) r.items

  within : i < length (in_use width raw)
  within = subst (λ n. i < n) (sym (length-map raw shown)) lt

  row_in_use : unwrap_or (slice_get (in_use width raw) i) [] ≡ map (take width) row.items
  row_in_use = read_at (in_use width raw) i [] within ∙ get_or-map shown raw i row [] lt ∙ ap shown (sym at)

  -- the row has the words of each channel
  pub row_length : (n : ℕ) → list_all (λ r. length r == n) (in_use width raw) ≡ true → length row.items ≡ n
  row_length n each =
      sym (length-map row.items (take width)) ∙ sym (ap length row_in_use)
      ∙ eqb-true (length (unwrap_or (slice_get (in_use width raw) i) [])) n
      (all_at (λ r. length r == n) (in_use width raw) i [] each within)

  row_is : rows_of raw ≡ map (map (padded 4)) (in_use width raw) →
      row.items ≡ map (padded 4) (map (take width) row.items)
  row_is zeros =
      ap (λ (r : Seen (List ℤ)). r.items) at
      ∙ sym (get_or-map (λ (r : Seen (List ℤ)). r.items) raw i row [] lt)
      ∙ ap (λ (rows : List (List (List ℤ))). get_or rows i []) zeros
      ∙ get_or-map (map (padded 4)) (in_use width raw) i [] [] within
      ∙ ap (map (padded 4)) (sym (read_at (in_use width raw) i [] within) ∙ row_in_use)

  -- a channel's array has its sensor words
  pub words_there : rows_of raw ≡ map (map (padded 4)) (in_use width raw) → (p c : ℕ) → p < length row.items →
      i ≡ c % length raw →
      get_or row.items p [] ≡ padded 4 (unwrap_or (slice_get (row_in_turn (in_use width raw) c) p) [])
  words_there zeros p c low turn =
      let inner : p < length (map (take width) row.items) =
      subst (λ n. p < n) (sym (length-map row.items (take width))) low in
      let here : row_in_turn (in_use width raw) c ≡ map (take width) row.items =
      ap (λ k. unwrap_or (slice_get (in_use width raw) k) []) (ap (λ n. c % n) (length-map raw shown) ∙ sym turn)
      ∙ row_in_use in
      ap (λ (words : List (List ℤ)). get_or words p []) (row_is zeros)
      ∙ get_or-map (padded 4) (map (take width) row.items) p [] [] inner
      ∙ ap (padded 4) (sym (read_at (map (take width) row.items) p [] inner)
      ∙ ap (λ (words : List (List ℤ)). unwrap_or (slice_get words p) []) (sym here))
