-- The sizes of a mission.
use Rattle.std.proofs.Common.{◌≡◌, ◌≤◌, ◌==◌, ℕ, ℤ, Bool, true, ◌&&◌, nat_le, nat_lt, List, [], ◌∷◌, length, refl}
use Rattle.std.specs.List.{list_all}
use Rattle.std.proofs.lemmas.Bool.{leb-true, eqb-true}
use Rattle.guards_model.specs.Contexts.{BlockValue}
use Rattle.guards_model.specs.Missions.{MissionValue, IsMission, within}
use Rattle.guards_model.specs.Words.{is_word}
use Rattle.guards_model.proofs.BoolTests.{both, and_true}
use Rattle.mission_type.specs.Parts.{IsSized}

least : (low high n : ℕ) → within low high n ≡ true → low ≤ n
least low high n h = leb-true low n (both (nat_le low n) (nat_le n high) h).0

most : (low high n : ℕ) → within low high n ≡ true → n ≤ high
most low high n h = leb-true n high (both (nat_le low n) (nat_le n high) h).1

row_lengths : (channels : ℕ) (test : List (List ℤ) → Bool) (rows : List (List (List ℤ))) →
    list_all (λ row. length row == channels && test row) rows ≡ true →
    list_all (λ row. length row == channels) rows ≡ true
row_lengths channels test [] h = refl
row_lengths channels test (row ∷ rows) h =
    let parts = both (length row == channels && test row) (list_all (λ r. length r == channels && test r) rows) h in
    and_true (length row == channels) (list_all (λ r. length r == channels) rows)
    (both (length row == channels) (test row) parts.0).0 (row_lengths channels test rows parts.1)

pub sized : (M : MissionValue) → IsMission M → IsSized M
sized M m =
    let sizes = within 3 7 M.rules.channels && within 1 256 M.rules.blocks in
    let front = both (sizes && (within 0 65536 M.rules.keep && within 65536 6553600 M.rules.threshold)) _ m.rules in
    let counts = both (within 3 7 M.rules.channels) (within 1 256 M.rules.blocks)
    (both sizes (within 0 65536 M.rules.keep && within 65536 6553600 M.rules.threshold) front.0).0 in
    let context = both (length M.initial == M.rules.blocks)
    (list_all (λ (block : BlockValue). length block == 8 && list_all is_word block) M.initial) m.initial in
    let outputs = both (within 1 8 (length M.outputs))
    (list_all (λ (o : ℕ × ℕ). nat_lt o.0 M.rules.blocks && nat_lt o.1 8) M.outputs) m.outputs in
    let words : List (List ℤ) →
    Bool = λ row. list_all (λ (ws : List ℤ). length ws == M.width && list_all is_word ws) row in
    let sensors = both (within 1 64 (length M.sensors))
    (list_all (λ (row : List (List ℤ)). length row == M.rules.channels && words row) M.sensors) m.sensors in
    record {
      many = least 3 7 M.rules.channels counts.0;
      seven = most 3 7 M.rules.channels counts.0;
      wide = least 1 4 M.width m.width;
      narrow = most 1 4 M.width m.width;
      initial = eqb-true (length M.initial) M.rules.blocks context.0;
      some = least 1 8 (length M.outputs) outputs.0;
      few = most 1 8 (length M.outputs) outputs.0;
      outputs = outputs.1;
      turns = least 1 64 (length M.sensors) sensors.0;
      each = row_lengths M.rules.channels words M.sensors sensors.1;
    }
