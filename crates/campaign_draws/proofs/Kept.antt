-- A drawn script keeps the rules of a script.
use Rattle.std.proofs.Common.{◌≡◌, ℕ, zero, suc, ◌+◌, ◌-◌, ◌*◌, ◌%◌, ◌<◌, ◌≤◌, List, [], ◌∷◌, ◌++◌, refl, ap, ◌∙◌, arith, Bool, true, false, ◌^◌, ◌==◌, ◌||◌, ◌&&◌, not, length, length-append, map, flat_map}
use Rattle.std.specs.Prelude.{ℤ, pos, nat_lt, nat_le, slice_get, unwrap_or, Option, None, Some, if◌then◌else◌}
use Rattle.std.specs.List.{list_all}
use Rattle.std.proofs.Math.Nat.{mod-eq_of_lt, mod-eq-sub-mod}
use Rattle.std.proofs.lemmas.Bool.{ne_eqb, lt-ltb, le-leb, ltb-true, ltb-false}
use Rattle.std.proofs.lemmas.List.{length-map, length-take}
use Rattle.guards_model.specs.declared.Slot.{Slot}
use Rattle.guards_model.specs.declared.Slot.TheVariants.{Request, Vote}
use Rattle.guards_model.specs.BusRules.{lose, forge}
use Rattle.guards_model.specs.Faults.{FaultValue, crash, restart, damage, bus}
use Rattle.guards_model.specs.Frames.{i64, u32}
use Rattle.guards_model.specs.Missions.{is_receiver, is_act}
use Rattle.guards_model.specs.ScriptFaults.{ScriptFaultValue, RuleOfEntry, too_many_entries, wrong_cycle, wrong_channel, wrong_block, wrong_word, wrong_receiver, long_piece, rules_of_entry, first_broken, or_later, entry_fault, script_fault}
use Rattle.guards_model.specs.Slots.{every_slot}
use Rattle.guards_model.proofs.BoolTests.{both, and_true}
use Rattle.demo_mission.specs.Demo.{drawn, draws}
use Rattle.demo_mission.proofs.IsDemo.{drawn_below}
use Rattle.campaign_draws.specs.declared.rates.Rates.{Rates}
use Rattle.campaign_draws.specs.Drawing.{SizesValue, cycles_faults, drawn_faults, forged_vote, other_channel}
use Rattle.campaign_draws.proofs.Drawn.{drawn_length}
use Rattle.campaign_draws.proofs.Passing.{drawn_pass}

-- ---- a script of which each entry keeps its rules breaks none

module _ (channels cycles blocks : ℕ) where
  all_hold : List RuleOfEntry → Bool
  all_hold rules = list_all (λ (rule : RuleOfEntry). rule.0) rules

  -- whether an entry keeps its rules, wherever it stands
  keeps : FaultValue → Bool
  keeps entry = all_hold (rules_of_entry channels cycles blocks 0 entry)

  anywhere : (at : ℕ) (entry : FaultValue) → keeps entry ≡ true → all_hold (rules_of_entry channels cycles blocks at entry) ≡ true
  unfolding keeps all_hold
  anywhere at (crash q c slot) is = is
  anywhere at (restart q c) is = is
  anywhere at (damage q c block word value) is = is
  anywhere at (bus rule) is = is

  unbroken : (rules : List RuleOfEntry) → all_hold rules ≡ true → first_broken rules ≡ None
  unfolding all_hold
  unbroken [] all = refl
  unbroken ((true, fault) ∷ rules) all = unbroken rules all
  unbroken ((false, fault) ∷ rules) all = absurd cc

  none_broken : (at : ℕ) (script : List FaultValue) → list_all keeps script ≡ true → entry_fault channels cycles blocks at script ≡ None
  unfolding entry_fault
  none_broken at [] all = refl
  none_broken at (entry ∷ script) all =
      let parts = both (keeps entry) (list_all keeps script) all in
      ap (λ (fault : Option ScriptFaultValue). or_later fault (entry_fault channels cycles blocks (at + 1) script))
      (unbroken (rules_of_entry channels cycles blocks at entry) (anywhere at entry parts.0))
      ∙ none_broken (at + 1) script parts.1

  few_unbroken : (script : List FaultValue) → length script ≤ 1024 → list_all keeps script ≡ true → script_fault channels cycles blocks script ≡ None
  unfolding script_fault
  few_unbroken script few all =
      ap (λ (b : Bool). if b then entry_fault channels cycles blocks 0 script else Some too_many_entries) (le-leb (length script) 1024 few) ∙ none_broken 0 script all

-- ---- each drawn entry keeps its rules

-- another channel is one of the mission's, and not the same
module _ (channels q draw : ℕ) (some : 1 < channels) (member : q < channels) (below : draw < channels - 1) where
  other_is : (to : ℕ) → to ≡ other_channel channels q draw → (to < channels) × (to ≡ q → ⊥)
  other_is to is = by (nat_lt (q + 1 + draw) channels) refl
    where
      by : (b : Bool) → nat_lt (q + 1 + draw) channels ≡ b → (to < channels) × (to ≡ q → ⊥)
      by true low =
          let small : q + 1 + draw < channels = ltb-true (q + 1 + draw) channels low in
          let same : to ≡ q + 1 + draw = is ∙ mod-eq_of_lt small in
          (omega (arith, small, same), λ e. omega (arith, same, e))
      by false high =
          let large : channels ≤ q + 1 + draw = ltb-false (q + 1 + draw) channels high in
          let rest : q + 1 + draw - channels < channels = omega (arith, member, below) in
          let same : to ≡ q + 1 + draw - channels = is ∙ mod-eq-sub-mod large ∙ mod-eq_of_lt rest in
          (omega (arith, rest, same), λ e. omega (arith, same, e, large, below))

  pub other_receives : is_receiver channels q (Some (other_channel channels q draw)) ≡ true
  other_receives =
      let to = other_channel channels q draw in
      let is = other_is to refl in
      and_true (not (to == q)) (nat_lt to channels || (to == 7 || to == 8)) (ap (λ (b : Bool). not b) (ne_eqb to q is.1))
      (ap (λ (b : Bool). b || (to == 7 || to == 8)) (lt-ltb to channels is.0))

-- a vote frame of at most eight words is short
words_long : (words : List ℤ) → length (flat_map i64 words) ≡ 8 * length words
unfolding i64
words_long [] = refl
words_long (w ∷ words) = let rest = words_long words in omega (arith, length-append (i64 w) (flat_map i64 words), rest)

pub vote_is_short : (version c q n x : ℕ) → n ≤ 8 → nat_le (length (forged_vote version c q (draws n (2 ^ 31) x))) 4300 ≡ true
unfolding forged_vote u32
vote_is_short version c q n x few =
    let words = map (λ word. pos word) (draws n (2 ^ 31) x) in
    let count : length words ≡ n = length-map (draws n (2 ^ 31) x) (λ word. pos word) ∙ drawn_length n (2 ^ 31) x in
    let long = words_long words in
    le-leb (length (forged_vote version c q (draws n (2 ^ 31) x))) 4300 (omega (arith, count, long, few))

two_hold : (a b : Bool) (f g : ScriptFaultValue) → a ≡ true → b ≡ true → list_all (λ (rule : RuleOfEntry). rule.0) ((a, f) ∷ (b, g) ∷ []) ≡ true
two_hold a b f g is1 is2 = and_true a (b && true) is1 (and_true b true is2 refl)

four_hold : (a b c d : Bool) (f g h k : ScriptFaultValue) → a ≡ true → b ≡ true → c ≡ true → d ≡ true →
    list_all (λ (rule : RuleOfEntry). rule.0) ((a, f) ∷ (b, g) ∷ (c, h) ∷ (d, k) ∷ []) ≡ true
four_hold a b c d f g h k is1 is2 is3 is4 =
    and_true a (b && (c && (d && true))) is1 (and_true b (c && (d && true)) is2 (and_true c (d && true) is3 (and_true d true is4 refl)))

module _ (S : SizesValue) (rates : Rates) (x : ℕ) (least : 3 ≤ S.channels) (some : 1 ≤ S.blocks) (few : S.outputs ≤ 8) where
  each_keeps : list_all (keeps S.channels S.cycles S.blocks) (drawn_faults S rates x) ≡ true
  unfolding keeps all_hold
  each_keeps =
      drawn_pass (keeps S.channels S.cycles S.blocks) S rates
      (λ c q k early member. two_hold (nat_lt c S.cycles) (nat_lt q S.channels) (wrong_cycle 0) (wrong_channel 0) (lt-ltb c S.cycles early) (lt-ltb q S.channels member))
      (λ c q early member. two_hold (nat_lt c S.cycles) (nat_lt q S.channels) (wrong_cycle 0) (wrong_channel 0) (lt-ltb c S.cycles early) (lt-ltb q S.channels member))
      (λ c q x y z early member.
      four_hold (nat_lt c S.cycles) (nat_lt q S.channels) (nat_lt (drawn S.blocks x) S.blocks) (nat_lt (drawn 8 y) 8) (wrong_cycle 0) (wrong_channel 0) (wrong_block 0) (wrong_word 0) (lt-ltb c S.cycles early) (lt-ltb q S.channels member)
      (drawn_below S.blocks x (omega (arith, some))) (drawn_below 8 y (omega arith)))
      (λ c q x slot early member.
      four_hold (nat_lt c S.cycles) (nat_lt q S.channels) (is_receiver S.channels q (Some (other_channel S.channels q (drawn (S.channels - 1) x)))) true (wrong_cycle 0) (wrong_channel 0) (wrong_receiver 0) (long_piece 0)
      (lt-ltb c S.cycles early) (lt-ltb q S.channels member) (receives q x member) refl)
      (λ c q x y early member.
      four_hold (nat_lt c S.cycles) (nat_lt q S.channels) (is_receiver S.channels q (Some (other_channel S.channels q (drawn (S.channels - 1) x))))
      (nat_le (length (forged_vote S.version c q (draws S.outputs (2 ^ 31) y))) 4300) (wrong_cycle 0) (wrong_channel 0) (wrong_receiver 0) (long_piece 0)
      (lt-ltb c S.cycles early) (lt-ltb q S.channels member) (receives q x member) (vote_is_short S.version c q S.outputs y few))
      x
    where
      receives : (q x : ℕ) → q < S.channels → is_receiver S.channels q (Some (other_channel S.channels q (drawn (S.channels - 1) x))) ≡ true
      receives q x member =
          other_receives S.channels q (drawn (S.channels - 1) x) (omega (arith, least)) member
          (ltb-true (drawn (S.channels - 1) x) (S.channels - 1) (drawn_below (S.channels - 1) x (omega (arith, least))))

  pub drawn_kept : script_fault S.channels S.cycles S.blocks (drawn_faults S rates x) ≡ None
  unfolding drawn_faults
  drawn_kept =
      let short = length-take 1024 (cycles_faults S rates S.cycles 0 x) in
      few_unbroken S.channels S.cycles S.blocks (drawn_faults S rates x) (omega (arith, short)) each_keeps
