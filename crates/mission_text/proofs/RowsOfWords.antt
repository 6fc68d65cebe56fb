-- What is known of the rows of sensors that were read.
use Rattle.std.proofs.Common.{◌≡◌, ℕ, ℤ, pos, ◌≤◌, List, [], ◌∷◌, ◌++◌, length, map, take, drop, replicate, negsuc, ◌+◌, ◌-◌, ◌∙◌, ap, sym, arith, Bool, true, ◌&&◌, ◌==◌, refl}
use Rattle.std.specs.List.{list_all}
use Rattle.std.proofs.lemmas.Bool.{eq-eqb, eqb-true}
use Rattle.std.proofs.lemmas.List.{length-map, length-append, take-append-drop}
use Rattle.std.proofs.lemmas.List.Folds.{list_all-map}
use Rattle.guards_base.specs.Masks.{both}
use Rattle.guards_base.specs.Padding.{padded}
use Rattle.guards_base.specs.Seen.{Seen}
use Rattle.guards_model.specs.Missions.{is_sensors, within}
use Rattle.mission_type.specs.Parts.{in_use, rows_of}
use Rattle.mission_text.specs.Sensors.{sensor_row, are_sensor_words, is_sensor_row, is_zero, are_places, is_row_of_places}

all_parts : {A : Type 0} (p q : A → Bool) (xs : List A) → list_all (λ x. p x && q x) xs ≡ true →
    (list_all p xs ≡ true) × (list_all q xs ≡ true)
all_parts p q [] all = (refl, refl)
all_parts p q (x ∷ xs) all =
    let parts = both (p x && q x) (list_all (λ x. p x && q x) xs) all in
    let one = both (p x) (q x) parts.0 in
    let rest = all_parts p q xs parts.1 in
    (rw (one.0, rest.0) refl, rw (one.1, rest.1) refl)

-- a row of so many channels, each of which has its words and zeros
pub row_holds : (channels width : ℕ) (row : Seen (List ℤ)) → length row.items ≡ channels
    → list_all (λ places. are_sensor_words width (take width places) && are_places width places) row.items ≡ true
    → (is_sensor_row channels width (sensor_row width row) && is_row_of_places width row) ≡ true
row_holds channels width row count all =
    let parts = all_parts (λ places. are_sensor_words width (take width places)) (are_places width) row.items all in
    rw (
      length-map row.items (take width),
      eq-eqb (length row.items) channels count,
      list_all-map (are_sensor_words width) (take width) row.items,
      parts.0,
      parts.1,
    ) refl

-- 1 to 64 such rows
pub rows_hold : (channels width : ℕ) (rows : List (Seen (List ℤ))) → within 1 64 (length rows) ≡ true
    → list_all (λ row. is_sensor_row channels width (sensor_row width row) && is_row_of_places width row) rows ≡ true
    → (is_sensors channels width (in_use width rows) && list_all (is_row_of_places width) rows) ≡ true
rows_hold channels width rows count all =
    let parts = all_parts (λ row. is_sensor_row channels width (sensor_row width row)) (is_row_of_places width) rows
    all in
    rw (
      length-map rows (sensor_row width),
      count,
      list_all-map (is_sensor_row channels width) (sensor_row width) rows,
      parts.0,
      parts.1,
    ) refl

-- words in the first places, and zeros
pub are_four : (xs ys : List ℤ) → length xs ≤ 4 → ys ≡ xs →
    are_places (length xs) (ys ++ drop (length xs) (pos 0 ∷ pos 0 ∷ pos 0 ∷ pos 0 ∷ [])) ≡ true
are_four [] ys few same = rw same refl
are_four (a ∷ []) ys few same = rw same refl
are_four (a ∷ b ∷ []) ys few same = rw same refl
are_four (a ∷ b ∷ c ∷ []) ys few same = rw same refl
are_four (a ∷ b ∷ c ∷ d ∷ []) ys few same = rw same refl
are_four (a ∷ b ∷ c ∷ d ∷ e ∷ rest) ys few same = absurd (omega (arith, few))

-- ---- the four places tell no more than the words

zeros_of : (xs : List ℤ) → list_all is_zero xs ≡ true → xs ≡ replicate (length xs) (pos 0)
zeros_of [] all = refl
zeros_of (pos n ∷ xs) all =
    let parts = both (n == 0) (list_all is_zero xs) all in
    let zero_here : n ≡ 0 = eqb-true n 0 parts.0 in
    rw zero_here (ap (λ rest. pos 0 ∷ rest) (zeros_of xs parts.1))
zeros_of (negsuc n ∷ xs) all = absurd cc

lengths_of : (width : ℕ) (places : List ℤ) → length places ≡ 4 →
    length (drop width places) ≡ 4 - length (take width places)
lengths_of width places four =
    let whole : length (take width places ++ drop width places) ≡ 4 =
    ap length (take-append-drop width places) ∙ four in
    let parts : length (take width places) + length (drop width places) ≡ 4 =
    sym (length-append (take width places) (drop width places)) ∙ whole in
    omega (arith, parts)

places_back : (width : ℕ) (places : List ℤ) → are_places width places ≡ true → places ≡ padded 4 (take width places)
places_back width places are =
    let parts = both (length places == 4) (list_all is_zero (drop width places)) are in
    let zeros : drop width places ≡ replicate (4 - length (take width places)) (pos 0) =
    zeros_of (drop width places) parts.1
    ∙ ap (λ n. replicate n (pos 0)) (lengths_of width places (eqb-true (length places) 4 parts.0)) in
    sym (take-append-drop width places) ∙ ap (λ rest. take width places ++ rest) zeros

row_back : (width : ℕ) (row : List (List ℤ)) → list_all (are_places width) row ≡ true →
    row ≡ map (padded 4) (map (take width) row)
row_back width [] all = refl
row_back width (places ∷ row) all =
    let parts = both (are_places width places) (list_all (are_places width) row) all in
    let one : places ≡ padded 4 (take width places) = places_back width places parts.0 in
    let rest : row ≡ map (padded 4) (map (take width) row) = row_back width row parts.1 in
    ap (λ p. p ∷ row) one ∙ ap (λ r. padded 4 (take width places) ∷ r) rest

pub rows_back : (width : ℕ) (rows : List (Seen (List ℤ))) → list_all (is_row_of_places width) rows ≡ true
    → rows_of rows ≡ map (map (padded 4)) (in_use width rows)
rows_back width [] all = refl
rows_back width (row ∷ rows) all =
    let parts = both (is_row_of_places width row) (list_all (is_row_of_places width) rows) all in
    let one : row.items ≡ map (padded 4) (map (take width) row.items) = row_back width row.items parts.0 in
    let rest : rows_of rows ≡ map (map (padded 4)) (in_use width rows) = rows_back width rows parts.1 in
    ap (λ r. r ∷ rows_of rows) one ∙ ap (λ r. map (padded 4) (map (take width) row.items) ∷ r) rest
