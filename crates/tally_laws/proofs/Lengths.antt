-- The longest transfer of a run has the length that its row tells, and keeps the bound of a join.
use Rattle.std.proofs.Common.{◌≡◌, ◌≤◌, ◌<◌, ◌+◌, ◌-◌, ◌==◌, ◌&&◌, ℕ, zero, suc, Bool, true, false, if◌then◌else◌, List, [], ◌∷◌, length, Option, Some, None, refl, sym, ap, subst, ◌∙◌, arith, eq-eqb}
use Rattle.std.specs.Prelude.{IsTrue, nat_le, max, ◌||◌, unwrap_or}
use Rattle.std.proofs.lemmas.List.{length-map}
use Rattle.guards_model.specs.Channels.{ChannelSet, has}
use Rattle.guards_model.specs.Decisions.{joined_of}
use Rattle.guards_model.specs.Missions.{MissionValue, IsMission}
use Rattle.guards_model.specs.Network.{Log}
use Rattle.guards_model.specs.Transfers.{TransferValue, start_of}
use Rattle.guards_model.proofs.BoolTests.{and_true}
use Rattle.guards_runs.specs.Cycles.{Past, work_of, cycle_from, cycles_before, cycle_at}
use Rattle.guards_runs.specs.Promises.{is_transfer_to}
use Rattle.recovery_laws.specs.Lengths.{TakeLength, TakesJust, row_of, transfer_length}
use Rattle.recovery_laws.proofs.Bounded.{ends_within}
use Rattle.recovery_laws.proofs.LengthTold.{takes}
use Rattle.campaign_facts.specs.Facts.{PastFacts, ended_length, facts_of, facts_of_cycle, longest_transfer}
use Rattle.guards_model.specs.JoinBound.{join_bound, most_blocks}
use Rattle.tally_laws.specs.ToldLengths.{joined_length, longest_told, told_length}

first_or : (j : ℕ) (rest : ChannelSet) → has (j ∷ rest) j ≡ true
first_or j rest = ap (λ b. b || has rest j) (eq-eqb j j refl)

-- the first that is declared joined is a target of the transfer
first_is_target : (last : ℕ) (t : Option TransferValue) (remaining : List ℕ) (j : ℕ) (rest : ChannelSet) → joined_of last t remaining ≡ j ∷ rest →
    is_transfer_to j (start_of t) t ≡ true
first_is_target last None remaining j rest is = absurd cc
first_is_target last (Some t) remaining j rest is = by (nat_le (length remaining) last) is
  where
    by : (fits : Bool) → (if fits then t.targets else []) ≡ j ∷ rest → (has t.targets j && (t.start == t.start)) ≡ true
    by true is = and_true (has t.targets j) (t.start == t.start) (rw is (first_or j rest)) (eq-eqb t.start t.start refl)
    by false is = absurd cc

module _ (M : MissionValue) (L : Log) (mission : IsMission M) where
  joined-is : (n : ℕ) → (cycle_at M L n).joined ≡ joined_of M.rules.last (cycle_at M L n).transfer (cycle_at M L n).remaining
  unfolding cycle_from work_of
  joined-is n = refl

  -- the transfer that ends with a cycle has the length that the row of its start tells
  ended : (n : ℕ) → n < M.cycles → (joined : ChannelSet) → (cycle_at M L n).joined ≡ joined →
      ended_length joined (cycle_at M L n).transfer (length (cycles_before M L n))
      ≡ joined_length joined (transfer_length M (row_of M (start_of (cycle_at M L n).transfer)))
  ended n low [] is = refl
  ended n low (j ∷ rest) is =
      let e = cycle_at M L n in
      let s = start_of e.transfer in
      let just : TakesJust M (cycles_before M L n) e j s = takes M L mission n low j s (first_is_target M.rules.last e.transfer e.remaining j rest (sym (joined-is n) ∙ is)) in
      let told : transfer_length M (row_of M s) ≡ Some (suc just.count) = just.joined.0 (subst (λ (js : ChannelSet). has js j ≡ true) (sym is) (first_or j rest)) in
      let place : length (cycles_before M L n) ≡ s + just.count = just.place in
      let cycles : suc (length (cycles_before M L n)) - s ≡ suc just.count = omega (arith, place) in
      cycles ∙ sym (ap (λ (o : Option ℕ). unwrap_or o 0) told)

  pub longest_is : (n : ℕ) → n ≤ M.cycles → longest_transfer (facts_of (cycles_before M L n)) ≡ longest_told M (facts_of (cycles_before M L n))
  longest_is zero few = refl
  longest_is (suc n) few =
      let before = longest_is n (omega (arith, few)) in
      let past = cycles_before M L n in
      let e = cycle_at M L n in
      let many : length (facts_of past) ≡ length past = length-map past facts_of_cycle in
      let now : ended_length e.joined e.transfer (length (facts_of past)) ≡ told_length M (facts_of_cycle e) =
      ap (ended_length e.joined e.transfer) many ∙ ended n (omega (arith, few)) e.joined refl in
      ap (λ (a : ℕ). max a (ended_length e.joined e.transfer (length (facts_of past)))) before
      ∙ ap (λ (b : ℕ). max (longest_told M (facts_of past)) b) now

  module _ (bound : ℕ) (bounded : join_bound M.rules.blocks M.rules.sweep M.rules.last (most_blocks M.table) ≡ Some bound) where
    within : (joined : ChannelSet) (row : ℕ) → joined_length joined (transfer_length M row) ≤ bound
    within [] row = omega arith
    within (j ∷ rest) row =
        let (k, has_length, small) = ends_within M row bound mission bounded in
        let same : unwrap_or (transfer_length M row) 0 ≡ k = ap (λ (o : Option ℕ). unwrap_or o 0) has_length in
        omega (arith, same, small)

    told_within : (past : PastFacts) → longest_told M past ≤ bound
    told_within [] = omega arith
    told_within (f ∷ past) =
        let before = told_within past in
        let now = within f.joined (row_of M (start_of f.transfer)) in
        max_le (longest_told M past) (told_length M f) before now
      where
        max_le : (a b : ℕ) → a ≤ bound → b ≤ bound → max a b ≤ bound
        max_le a b low high = omega (arith, low, high)

pub keeps_bound : (M : MissionValue) (L : Log) (n bound : ℕ) → IsMission M → n ≤ M.cycles →
    join_bound M.rules.blocks M.rules.sweep M.rules.last (most_blocks M.table) ≡ Some bound → longest_transfer (facts_of (cycles_before M L n)) ≤ bound
keeps_bound M L n bound mission few bounded =
    let same = longest_is M L mission n few in
    let most = told_within M L mission bound bounded (facts_of (cycles_before M L n)) in
    omega (arith, same, most)
