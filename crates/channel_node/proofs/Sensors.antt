-- The sensor words of a channel, padded to four.
use Rattle.std.proofs.Common.{◌≡◌, ◌≤◌, ◌<◌, ◌+◌, ◌-◌, ◌==◌, ℕ, ℤ, pos, List, length, take, drop, replicate, ap, sym, ◌∙◌, arith}
use Rattle.std.specs.List.{list_all}
use Rattle.std.proofs.Math.Seq.{drop-append_seam, take-append_seam}
use Rattle.std.proofs.lemmas.List.{length-append, length-replicate}
use Rattle.std.proofs.lemmas.Bool.{eqb-true}
use Rattle.guards_base.specs.Padding.{padded, IsPadded}
use Rattle.guards_model.specs.Words.{is_word}
use Rattle.guards_model.specs.Missions.{MissionValue, IsMission, sensor}
use Rattle.guards_model.proofs.BoolTests.{both}
use Rattle.guards_model.proofs.SensorWords.{sensor_words}

length_sensor : (M : MissionValue) (p c : ℕ) → IsMission M → p < M.rules.channels → length (sensor M p c) ≡ M.width
length_sensor M p c mission low =
    eqb-true (length (sensor M p c)) M.width
    (both (length (sensor M p c) == M.width) (list_all is_word (sensor M p c)) (sensor_words M p c mission low)).0

is_padded : (words : List ℤ) (width : ℕ) → length words ≡ width → 1 ≤ width → width ≤ 4 →
    IsPadded 4 width (padded 4 words)
is_padded words width long some few =
    record {
      whole = length-append words (replicate (4 - length words) (pos 0))
          ∙ ap (λ n. length words + n) (length-replicate (4 - length words) (pos 0)) ∙ omega (arith, long, few);
      least = some;
      most = few;
      unused = ap (λ n. drop n (padded 4 words)) (sym long)
          ∙ drop-append_seam words (replicate (4 - length words) (pos 0))
          ∙ ap (λ n. replicate (4 - n) (pos 0)) long;
    }

-- of the padded words, those in use are the sensor words
pub record ArePadded (M : MissionValue) (p c : ℕ) : Type 0 where
  pub padded_are : IsPadded 4 M.width (padded 4 (sensor M p c))
  pub used : take M.width (padded 4 (sensor M p c)) ≡ sensor M p c

pub padded_sensor : (M : MissionValue) (p c : ℕ) → IsMission M → p < M.rules.channels → 1 ≤ M.width → M.width ≤ 4 →
    ArePadded M p c
padded_sensor M p c mission low some few =
    let long : length (sensor M p c) ≡ M.width = length_sensor M p c mission low in
    record {
      padded_are = is_padded (sensor M p c) M.width long some few;
      used = ap (λ n. take n (padded 4 (sensor M p c))) (sym long)
          ∙ take-append_seam (sensor M p c) (replicate (4 - length (sensor M p c)) (pos 0));
    }
