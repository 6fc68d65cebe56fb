-- One more channel and one more cycle of a script that is drawn.
use Rattle.std.proofs.Common.{◌≡◌, ℕ, zero, suc, ◌+◌, ◌-◌, ◌<◌, ◌≤◌, List, [], ◌∷◌, ◌++◌, refl, sym, ap, ◌∙◌, append_assoc, arith, Bool, true, ◌&&◌, ◌^◌, length, map}
use Rattle.std.proofs.lemmas.List.{length-map}
use Rattle.std.specs.Prelude.{ℤ, pos, nat_lt, take, slice_get, unwrap_or, Some, IsTrue, if◌then◌else◌, false}
use Rattle.std.specs.List.{list_all}
use Rattle.std.proofs.lemmas.Bool.{lt-ltb, ltb-true, le-leb}
use Rattle.guards_model.specs.declared.Slot.TheVariants.{Request, Round1, Vote}
use Rattle.guards_model.specs.Slots.{every_slot, slot_index}
use Rattle.guards_model.specs.Words.{is_word}
use Rattle.guards_model.specs.Frames.{in_range, vote_body}
use Rattle.guards_model.proofs.BoolTests.{both, and_true}
use Rattle.guards_model.proofs.ListTests.{place_passes, all-append, all-take}
use Rattle.fault_script.specs.Entries.{is_in_cycle}
use Rattle.demo_mission.specs.Demo.{next_number, drawn, draws, number_after}
use Rattle.demo_mission.proofs.IsDemo.{drawn_below}
use Rattle.guards_model.specs.Faults.{FaultValue, crash, restart, damage, bus}
use Rattle.guards_model.specs.BusRules.{lose, forge}
use Rattle.guards_model.specs.declared.Slot.{Slot}
use Rattle.campaign_draws.specs.declared.rates.Rates.{Rates}
use Rattle.campaign_draws.specs.Drawing.{SizesValue, happens, restart_in, crashes, damages, losses, forgeries, forged_vote, lossy_slots, other_channel, after_crash, after_damage, after_loss, channel_faults, after_channel, channels_faults, after_channels, cycles_faults, after_cycles}

left : (count i : ℕ) → i < count → count - i ≡ suc (count - (i + 1))
left count i lt = omega (arith, lt)

none_left : (count i : ℕ) → count ≤ i → count - i ≡ zero
none_left count i le = omega (arith, le)

append_none : {A : Type 0} (xs : List A) → xs ++ [] ≡ xs
append_none [] = refl
append_none (x ∷ xs) = ap (λ ys. x ∷ ys) (append_none xs)

-- four lists, each behind the one before
pub four_pushed : {A : Type 0} (a b c d e w1 w2 w3 w4 : List A) → w1 ≡ a ++ b → w2 ≡ w1 ++ c → w3 ≡ w2 ++ d → w4 ≡ w3 ++ e → w4 ≡ a ++ (b ++ (c ++ (d ++ e)))
four_pushed a b c d e w1 w2 w3 w4 is1 is2 is3 is4 =
    is4 ∙ ap (λ w. w ++ e) (is3 ∙ ap (λ w. w ++ d) (is2 ∙ ap (λ w. w ++ c) is1))
    ∙ append_assoc ((a ++ b) ++ c) d e ∙ append_assoc (a ++ b) c (d ++ e) ∙ append_assoc a b (c ++ (d ++ e))

module _ (S : SizesValue) (rates : Rates) (c : ℕ) where
  pub channels_more : (count i x : ℕ) (done now total : List FaultValue) → i < count → now ≡ done ++ channel_faults S rates c i x →
      done ++ channels_faults S rates c (count - i) i x ≡ total → now ++ channels_faults S rates c (count - (i + 1)) (i + 1) (after_channel S rates x) ≡ total
  unfolding channels_faults
  channels_more count i x done now total lt is so_far =
      let more = rw (left count i lt) at so_far in
      ap (λ w. w ++ channels_faults S rates c (count - (i + 1)) (i + 1) (after_channel S rates x)) is
      ∙ append_assoc done (channel_faults S rates c i x) (channels_faults S rates c (count - (i + 1)) (i + 1) (after_channel S rates x)) ∙ more

  pub channels_end : (count i x : ℕ) (done total : List FaultValue) → count ≤ i → done ++ channels_faults S rates c (count - i) i x ≡ total → done ≡ total
  unfolding channels_faults
  channels_end count i x done total le so_far = sym (append_none done) ∙ rw (none_left count i le) at so_far

module _ (S : SizesValue) (rates : Rates) where
  pub after_channels_more : (count i x total : ℕ) → i < count → after_channels S rates (count - i) x ≡ total →
      after_channels S rates (count - (i + 1)) (after_channel S rates x) ≡ total
  unfolding after_channels
  after_channels_more count i x total lt so_far = rw (left count i lt) at so_far

  pub after_channels_end : (count i x total : ℕ) → count ≤ i → after_channels S rates (count - i) x ≡ total → x ≡ total
  unfolding after_channels
  after_channels_end count i x total le so_far = rw (none_left count i le) at so_far

  pub cycles_more : (count i x : ℕ) (done now total : List FaultValue) → i < count → now ≡ done ++ channels_faults S rates i S.channels 0 x →
      done ++ cycles_faults S rates (count - i) i x ≡ total → now ++ cycles_faults S rates (count - (i + 1)) (i + 1) (after_channels S rates S.channels x) ≡ total
  unfolding cycles_faults
  cycles_more count i x done now total lt is so_far =
      let more = rw (left count i lt) at so_far in
      let rest = cycles_faults S rates (count - (i + 1)) (i + 1) (after_channels S rates S.channels x) in
      ap (λ w. w ++ rest) is ∙ append_assoc done (channels_faults S rates i S.channels 0 x) rest ∙ more

  pub cycles_end : (count i x : ℕ) (done total : List FaultValue) → count ≤ i → done ++ cycles_faults S rates (count - i) i x ≡ total → done ≡ total
  unfolding cycles_faults
  cycles_end count i x done total le so_far = sym (append_none done) ∙ rw (none_left count i le) at so_far

  pub after_cycles_more : (count i x total : ℕ) → i < count → after_cycles S rates (count - i) x ≡ total →
      after_cycles S rates (count - (i + 1)) (after_channels S rates S.channels x) ≡ total
  unfolding after_cycles
  after_cycles_more count i x total lt so_far = rw (left count i lt) at so_far

  pub after_cycles_end : (count i x total : ℕ) → count ≤ i → after_cycles S rates (count - i) x ≡ total → x ≡ total
  unfolding after_cycles
  after_cycles_end count i x total le so_far = rw (none_left count i le) at so_far

-- ---- a drawn frame is one that has a spelling

pub drawn_length : (n k x : ℕ) → length (draws n k x) ≡ n
unfolding draws
drawn_length zero k x = refl
drawn_length (suc n) k x = ap suc (drawn_length n k (next_number x))

pub words_length : (words : List ℤ) (n x : ℕ) → words ≡ map (λ word. pos word) (draws n (2 ^ 31) x) → length words ≡ n
words_length words n x are = ap length are ∙ length-map (draws n (2 ^ 31) x) (λ word. pos word) ∙ drawn_length n (2 ^ 31) x

pub word_is : (w : ℕ) → nat_lt w (2 ^ 31) ≡ true → is_word (pos w) ≡ true
unfolding is_word
word_is w below = let b = ltb-true w (2 ^ 31) below in lt-ltb w (2 ^ 63) (omega (arith, b))

words_are : (n x : ℕ) → list_all is_word (map (λ word. pos word) (draws n (2 ^ 31) x)) ≡ true
unfolding draws
words_are zero x = refl
words_are (suc n) x =
    and_true (is_word (pos (drawn (2 ^ 31) (next_number x)))) (list_all is_word (map (λ word. pos word) (draws n (2 ^ 31) (next_number x))))
    (word_is (drawn (2 ^ 31) (next_number x)) (drawn_below (2 ^ 31) (next_number x) (omega arith))) (words_are n (next_number x))

pub vote_in_range : (version q c : ℕ) (words : List ℤ) (n x : ℕ) → 1 ≤ version → version ≤ 2 → q < 7 → c < 2 ^ 32 → 1 ≤ n → n ≤ 8 →
    words ≡ map (λ word. pos word) (draws n (2 ^ 31) x) → IsTrue (in_range (record { version = version; sender = q; cycle = c; body = vote_body words }))
vote_in_range version q c words n x least most channel cycle some few are =
    let count = words_length words n x are in
    let one : 1 ≤ length words = omega (arith, count, some) in
    let eight : length words ≤ 8 = omega (arith, count, few) in
    let fit : list_all is_word words ≡ true = rw are (words_are n x) in
    and_true _ _ (and_true _ _ (le-leb 1 version least) (le-leb version 2 most))
    (and_true _ _ (lt-ltb q 7 channel)
    (and_true _ _ (lt-ltb c (2 ^ 32) cycle)
    (and_true _ _ (and_true _ _ (le-leb 1 (length words) one) (le-leb (length words) 8 eight)) fit)))
