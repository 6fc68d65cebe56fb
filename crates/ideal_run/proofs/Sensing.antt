-- The words of all channels, and the inputs that come of them.
use Rattle.std.proofs.Common.{◌≡◌, ◌≤◌, ◌<◌, ◌+◌, ◌-◌, ◌++◌, ℤ, List, take, drop, replicate, pos, ap, arith, ◌==◌, ℕ, suc, Bool, true, false, cond, length, Some, None, sym, refl, ◌∙◌}
use Rattle.std.specs.Prelude.{nat_lt}
use Rattle.std.specs.List.{list_all}
use Rattle.std.proofs.lemmas.Bool.{leb-true, eqb-true}
use Rattle.std.proofs.lemmas.List.{length-append, length-map, length-replicate}
use Rattle.std.proofs.lemmas.List.FromFn.{length-range_with_len}
use Rattle.std.proofs.Math.Seq.{take-append_seam, drop-append_seam}
use Rattle.guards_base.specs.Padding.{IsPadded, padded}
use Rattle.guards_model.specs.Channels.{numbers_below, has, place_or}
use Rattle.guards_model.specs.Missions.{MissionValue, IsMission, sensor}
use Rattle.guards_model.specs.Words.{is_word}
use Rattle.guards_model.proofs.BoolTests.{both}
use Rattle.guards_model.proofs.NumbersBelow.{below_there}
use Rattle.guards_model.proofs.Tables.{at-by_channel}
use Rattle.guards_model.proofs.SensorWords.{sensor_words}
use Rattle.guards_runs.specs.IdealMachine.{sensed_at, sensed, sensed_word, ideal_inputs}

-- a channel has as many words as the mission's width
pub sensor_length : (M : MissionValue) (p c : ℕ) → IsMission M → p < M.rules.channels → length (sensor M p c) ≡ M.width
sensor_length M p c mission low =
    eqb-true (length (sensor M p c)) M.width
    (both (length (sensor M p c) == M.width) (list_all is_word (sensor M p c)) (sensor_words M p c mission low)).0

-- a channel that is not below their number is not there
pub passive_none : (M : MissionValue) (c q : ℕ) → q < 7 → has (numbers_below M.rules.channels) q ≡ false →
    place_or (sensed M c) q None ≡ None
passive_none M c q low absent = at-by_channel (sensed_at M c) q None low ∙ by (nat_lt q M.rules.channels) refl
  where
    by : (b : Bool) → nat_lt q M.rules.channels ≡ b → cond b (Some (sensed_word M c q)) None ≡ None
    by true there = absurd (differ
        (sym absent ∙ below_there M.rules.channels q (leb-true (suc q) M.rules.channels there)))
      where
        differ : false ≡ true → ⊥
        differ h = cc
    by false there = refl

-- ---- words of a width, and zeros after them

module _ (words : List ℤ) (width : ℕ) (long : length words ≡ width) where
  pub take_padded : (zeros : List ℤ) → take width (words ++ zeros) ≡ words
  take_padded zeros = ap (λ n. take n (words ++ zeros)) (sym long) ∙ take-append_seam words zeros

  pub is_padded : 1 ≤ width → width ≤ 4 → IsPadded 4 width (padded 4 words)
  is_padded some few =
      record {
        whole = length-append words (replicate (4 - length words) (pos 0))
            ∙ ap (λ n. length words + n) (length-replicate (4 - length words) (pos 0)) ∙ omega (arith, long, few);
        least = some;
        most = few;
        unused = ap (λ n. drop n (padded 4 words)) (sym long)
            ∙ drop-append_seam words (replicate (4 - length words) (pos 0)) ∙ ap (λ n. replicate (4 - n) (pos 0)) long;
      }

pub inputs_length : (M : MissionValue) (c : ℕ) → length (ideal_inputs M c) ≡ M.width
unfolding ideal_inputs
inputs_length M c = length-map (numbers_below M.width) _ ∙ length-range_with_len 0 M.width
