-- The sensor words of a mission, and its width, are in range.
use Rattle.std.proofs.Common.{◌≡◌, ℕ, zero, suc, ◌%◌, ◌<◌, ◌≤◌, ◌==◌, Bool, true, ◌&&◌, List, [], ◌∷◌, length, ℤ, arith}
use Rattle.std.specs.Prelude.{nat_le, slice_get, unwrap_or}
use Rattle.std.specs.List.{list_all}
use Rattle.std.proofs.lemmas.Bool.{leb-true, eqb-true}
use Rattle.guards_model.specs.Words.{is_word}
use Rattle.guards_model.specs.Missions.{MissionValue, IsMission, within, row_in_turn, sensor}
use Rattle.guards_model.specs.Frames.{between}
use Rattle.guards_model.proofs.BoolTests.{both}

pub all-at : {A : Type 0} (P : A → Bool) (xs : List A) (i : ℕ) (d : A) → list_all P xs ≡ true → i < length xs →
    P (unwrap_or (slice_get xs i) d) ≡ true
all-at P [] i d h low = absurd (omega arith)
all-at P (x ∷ xs) zero d h low = (both (P x) (list_all P xs) h).0
all-at P (x ∷ xs) (suc i) d h low = all-at P xs i d (both (P x) (list_all P xs) h).1 (omega arith)

pub all-turn : {A : Type 0} (P : List A → Bool) (rows : List (List A)) (c : ℕ) → list_all P rows ≡ true →
    0 < length rows → P (row_in_turn rows c) ≡ true
all-turn P rows c h some = all-at P rows (c % length rows) [] h (omega arith)

abbrev pub are_words : ℕ → List ℤ → Bool
are_words width words = length words == width && list_all is_word words

pub sensor_words : (M : MissionValue) (p c : ℕ) → IsMission M → p < M.rules.channels →
    are_words M.width (sensor M p c) ≡ true
sensor_words M p c mission low =
    let rows = both (within 1 64 (length M.sensors))
    (list_all (λ row. length row == M.rules.channels && list_all (are_words M.width) row) M.sensors)
    mission.sensors in
    let some : 1 ≤ length M.sensors =
    leb-true 1 (length M.sensors) (both (nat_le 1 (length M.sensors)) (nat_le (length M.sensors) 64) rows.0).0 in
    let row = all-turn (λ row. length row == M.rules.channels && list_all (are_words M.width) row) M.sensors c rows.1
    some in
    let parts = both (length (row_in_turn M.sensors c) == M.rules.channels)
    (list_all (are_words M.width) (row_in_turn M.sensors c)) row in
    all-at (are_words M.width) (row_in_turn M.sensors c) p [] parts.1
    (omega (arith, eqb-true (length (row_in_turn M.sensors c)) M.rules.channels parts.0))

pub width_small : (M : MissionValue) → IsMission M → between 1 4 M.width ≡ true
width_small M mission = mission.width
