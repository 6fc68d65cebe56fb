-- Who is up is active, three channels stay active, and who is declared joined was passive: whatever the log holds.
use Rattle.std.proofs.Common.{◌≡◌, ℕ, zero, suc, ◌-◌, ◌≤◌, ◌==◌, Bool, true, false, not, ◌||◌, List, [], ◌∷◌, length, refl, sym, ap, subst, ◌∙◌, arith}
use Rattle.std.specs.Prelude.{filter, take, nat_le}
use Rattle.std.specs.List.{list_all}
use Rattle.std.proofs.lemmas.List.{length-take}
use Rattle.std.proofs.lemmas.List.FromFn.{length-range_with_len}
use Rattle.guards_model.specs.Channels.{Channel, ChannelSet, has, channels_where, every_channel, numbers_below, union, without}
use Rattle.guards_model.specs.Missions.{MissionValue, IsMission}
use Rattle.guards_model.specs.Network.{Log}
use Rattle.guards_model.specs.Frames.{is_set, is_distinct}
use Rattle.guards_model.specs.Diagnosis.{asks}
use Rattle.guards_model.specs.Decisions.{joined_of}
use Rattle.guards_runs.specs.Cycles.{Past, active_set, cycle_start_of, agreement_of, decision_of, work_of, cycle_from, next_cycle, cycles_before}
use Rattle.guards_model.proofs.Tables.{has-filter, has-channels_where}
use Rattle.guards_model.proofs.BoolTests.{both, and_true, or_true, or_left}
use Rattle.guards_model.proofs.Counting.{count-split, count-all, count-within, has-head}
use Rattle.guards_model.proofs.AscendingLists.{set-filter, set-take, set-where, set-distinct, member-channel}
use Rattle.guards_laws.proofs.WithinChannels.{active_is_set}
use Rattle.guards_laws.proofs.Restoring.{target_joined}
use Rattle.guards_laws.proofs.OnlyRise.{targets_passive}
use Rattle.guards_laws.proofs.Planned.{ranges}

-- what holds of each member of a list holds of all
all_members : (P : ℕ → Bool) (xs : List ℕ) → ((q : ℕ) → has xs q ≡ true → P q ≡ true) → list_all P xs ≡ true
all_members P [] h = refl
all_members P (x ∷ xs) h =
    and_true (P x) (list_all P xs) (h x (has-head x xs))
    (all_members P xs (λ q there. h q (or_true (x == q) (has xs q) there)))

in_take : (n : ℕ) (xs : List ℕ) (q : ℕ) → has (take n xs) q ≡ true → has xs q ≡ true
in_take zero xs q h = absurd cc
in_take (suc n) [] q h = absurd cc
in_take (suc n) (x ∷ xs) q h = by_first (x == q) (has (take n xs) q) (has xs q) (in_take n xs q) h
  where
    by_first : (b taken there : Bool) → (taken ≡ true → there ≡ true) → (b || taken) ≡ true → (b || there) ≡ true
    by_first true taken there f k = refl
    by_first false taken there f k = f k

-- as many as leave three of them
pub three_left : (active : ChannelSet) (test : ℕ → Bool) → is_set active ≡ true → 3 ≤ length active →
    3 ≤ length (without active (take (length active - 3) (filter test active)))
three_left active test set many =
    let gone : ChannelSet = take (length active - 3) (filter test active) in
    let inside : list_all (has active) gone ≡ true =
    all_members (has active) gone
    (λ q there. (both (test q) (has active q)
    (sym (has-filter test active q) ∙ in_take (length active - 3) (filter test active) q there)).1) in
    let distinct : is_distinct gone ≡ true =
    set-distinct gone (set-take (length active - 3) (filter test active) (set-filter test active set)) in
    let split = count-split (λ q. true) active gone (set-distinct active set) distinct inside in
    omega (
      arith,
      split,
      count-all (without active gone),
      count-all gone,
      count-all active,
      length-take (length active - 3) (filter test active),
      many,
    )

-- a set with more members is no shorter
no_fewer : (set more : ChannelSet) → is_set set ≡ true → length set ≤ length (union set more)
no_fewer set more h =
    let t : ℕ → Bool = λ q. has set q || has more q in
    let inside : list_all (has (channels_where t)) set ≡ true =
    all_members (has (channels_where t)) set
    (λ q there. has-channels_where t q (member-channel set q h there) ∙ or_left (has set q) (has more q) there) in
    let counted = count-within (λ q. true) (channels_where t) set (set-distinct (channels_where t) (set-where t))
    (set-distinct set h) inside in
    omega (arith, counted, count-all set, count-all (channels_where t))

module _ (M : MissionValue) (L : Log) where
  active_is : (past : Past) → (next_cycle M L past).active ≡ active_set M past
  unfolding cycle_from cycle_start_of
  active_is past = refl

  -- the test that the candidates of a cycle pass
  unfoldable candidate : Past → ℕ → Bool
  unfolding cycle_start_of agreement_of cycle_from decision_of
  candidate past q =
      let e = next_cycle M L past in
      nat_le M.rules.threshold (Rattle.guards_model.specs.Channels.place_or e.counts q 0)
      || asks e.active e.fresh e.agreed q

  removed_is : (past : Past) →
      (next_cycle M L past).removed
      ≡ take (length (next_cycle M L past).active - 3) (filter (candidate past) (next_cycle M L past).active)
  unfolding cycle_from decision_of cycle_start_of agreement_of candidate
  removed_is past = refl

  joined_is : (past : Past) →
      (next_cycle M L past).joined
      ≡ joined_of M.rules.last (next_cycle M L past).transfer (next_cycle M L past).remaining
  unfolding cycle_from work_of
  joined_is past = refl

  pub three_active : IsMission M → (n : ℕ) → 3 ≤ length (active_set M (cycles_before M L n))
  three_active mission zero = omega (arith, length-range_with_len 0 M.rules.channels, (ranges M mission).channels)
  three_active mission (suc n) =
      let past = cycles_before M L n in
      let e = next_cycle M L past in
      let set : is_set e.active ≡ true = ap is_set (active_is past) ∙ active_is_set M past mission in
      let many : 3 ≤ length e.active = subst (λ s. 3 ≤ length s) (sym (active_is past)) (three_active mission n) in
      let left : 3 ≤ length (without e.active e.removed) =
      subst (λ r. 3 ≤ length (without e.active r)) (sym (removed_is past))
      (three_left e.active (candidate past) set many) in
      omega (
        arith,
        left,
        no_fewer (without e.active e.removed) e.joined
            (set-filter (λ q. not (has e.removed q)) e.active set),
      )

  pub joined_passive : (n : ℕ) (q : Channel) → has (next_cycle M L (cycles_before M L n)).joined q ≡ true →
      has (next_cycle M L (cycles_before M L n)).active q ≡ false
  joined_passive n q there =
      let past = cycles_before M L n in
      let e = next_cycle M L past in
      let tr = target_joined M.rules e.transfer e.remaining q (ap (λ s. has s q) (sym (joined_is past)) ∙ there) in
      ap (λ s. has s q) (active_is past) ∙ targets_passive M L n tr.transfer q tr.target tr.runs
