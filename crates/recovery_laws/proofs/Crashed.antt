-- An active channel that is not up at the end of a cycle is silent until it is removed.
use Rattle.std.proofs.Common.{◌≡◌, ℕ, zero, suc, ◌+◌, ◌*◌, ◌<◌, ◌≤◌, Bool, true, false, cond, not, length, refl, sym, subst, ◌∙◌, arith}
use Rattle.std.specs.List.{list_any}
use Rattle.guards_model.specs.declared.Slot.TheVariants.{Round1, Switch}
use Rattle.guards_model.specs.Channels.{Channel, has}
use Rattle.guards_model.specs.Missions.{MissionValue, IsMission}
use Rattle.guards_model.specs.Network.{Log}
use Rattle.guards_model.specs.Modes.{ModeValue, up, down, waiting, joining, is_up, mode_at_end, is_restart, is_crash_by}
use Rattle.guards_model.specs.Transfers.{start_of}
use Rattle.guards_runs.specs.Cycles.{Past, Cycle, mode_in, mode_after, is_whole, joins_since, active_set, cycles_before, next_cycle, cycle_at}
use Rattle.guards_runs.specs.Promises.{HasRun}
use Rattle.guards_model.proofs.BoolTests.{differ, both, and_true}
use Rattle.guards_model.proofs.Counting.{not_false}
use Rattle.guards_laws.proofs.CycleParts.{up-is, up_in_slot}
use Rattle.guards_laws.proofs.HeldIdeal.{slot_up, started_up, start, start-is, slot_mode}
use Rattle.guards_laws.proofs.StayActive.{joined_passive}
use Rattle.recovery_laws.specs.Diagnosed.{is_silent, in_a_row, IsActiveFor, IsRemovedInTime}
use Rattle.recovery_laws.proofs.JudgedCounts.{low_now}
use Rattle.recovery_laws.proofs.Silent.{removes_silent}

ended_up : (k : ℕ) (on taken : Bool) (m : ModeValue) → mode_at_end k on taken m ≡ up → taken ≡ false → is_up m ≡ true
ended_up k on taken up h none = refl
ended_up k on taken down h none = absurd cc
ended_up k on taken (waiting n) h none = absurd cc
ended_up k on true joining h none = differ none
ended_up k on false joining h none = absurd cc

false_or : (b : Bool) → (b ≡ true → true ≡ false) → b ≡ false
false_or true h = differ (h refl)
false_or false h = refl

module _ (M : MissionValue) (L : Log) (mission : IsMission M) where
  abbrev past : ℕ → Past
  past m = cycles_before M L m

  abbrev now : ℕ → Cycle
  now m = next_cycle M L (cycles_before M L m)

  not_whole : (m : ℕ) (q : Channel) → has (now m).active q ≡ true → is_whole q (past (suc m)) ≡ false
  not_whole m q there =
      false_or (is_whole q (past (suc m)))
      (λ whole. sym there ∙ joined_passive M L m q
      (both (has (now m).joined q) (joins_since q (start_of (now m).transfer) (past (suc m))) whole).0)

  -- not up in the first round of the next cycle
  next_down : (m : ℕ) (q : Channel) → q < 7 → has (now m).active q ≡ true → is_up (mode_in (now m) q Switch) ≡ false →
      is_up (mode_in (now (suc m)) q Round1) ≡ false
  next_down m q low there down_now =
      false_or (is_up (mode_in (now (suc m)) q Round1))
      (λ rises.
      let mode : mode_in (now (suc m)) q Round1 ≡ up = up-is (mode_in (now (suc m)) q Round1) rises in
      let at_start : start M L (past (suc m)) q low ≡ up =
      slot_up (list_any (is_crash_by q (length (past (suc m))) Round1) M.script) (start M L (past (suc m)) q low)
      (sym (slot_mode M L (past (suc m)) q low Round1 refl) ∙ mode) in
      let was : mode_after M (past (suc m)) q ≡ up =
      started_up (list_any (is_restart q (length (past (suc m)))) M.script) (mode_after M (past (suc m)) q)
      (sym (start-is M L (past (suc m)) q low) ∙ at_start) in
      sym (ended_up M.return_after (has (active_set M (past (suc m))) q) (is_whole q (past (suc m)))
      (mode_in (now m) q Switch) was (not_whole m q there)) ∙ down_now)

  next_is_silent : (m : ℕ) (q : Channel) → has (now m).active q ≡ true → has (now (suc m)).active q ≡ true →
      is_up (mode_in (now m) q Switch) ≡ false → is_silent (now (suc m)) q ≡ true
  next_is_silent m q there after down_now =
      and_true (has (now (suc m)).active q) (not (is_up (mode_in (now (suc m)) q Round1))) after
      (not_false (is_up (mode_in (now (suc m)) q Round1))
      (next_down m q (low_now M L mission m q there) there down_now))

  -- and so it goes on
  still_down : (m : ℕ) (q : Channel) → q < 7 → is_up (mode_in (now m) q Round1) ≡ false →
      is_up (mode_in (now m) q Switch) ≡ false
  still_down m q low silent =
      false_or (is_up (mode_in (now m) q Switch))
      (λ h. sym (up_in_slot M L (past m) q Round1 Switch low refl h) ∙ silent)

  module _ (c : ℕ) (q : Channel) (crashed : is_up (mode_in (now c) q Switch) ≡ false) where
    down_for : (j : ℕ) → IsActiveFor M L q c j → is_up (mode_in (now (c + j)) q Switch) ≡ false
    down_for zero there = subst (λ m. is_up (mode_in (now m) q Switch) ≡ false) same crashed
      where
        same : c ≡ c + 0
        same = omega arith
    down_for (suc j) there =
        let before : has (now (c + j)).active q ≡ true = there j (omega arith) in
        let low : q < 7 = low_now M L mission (c + j) q before in
        let next : suc (c + j) ≡ c + suc j = omega arith in
        let so_far = down_for j (λ i small. there i (omega (arith, small))) in
        subst (λ m. is_up (mode_in (now m) q Switch) ≡ false) next
        (still_down (suc (c + j)) q low (next_down (c + j) q low before so_far))

    silent_for : (j : ℕ) → IsActiveFor M L q c (suc j) → is_silent (now (c + suc j)) q ≡ true
    silent_for j there =
        let next : suc (c + j) ≡ c + suc j = omega arith in
        subst (λ m. is_silent (now m) q ≡ true) next
        (next_is_silent (c + j) q (there j (omega arith))
        (subst (λ m. has (now m).active q ≡ true) (sym next) (there (suc j) (omega arith)))
        (down_for j (λ i small. there i (omega (arith, small)))))

    many_silent : (j : ℕ) → IsActiveFor M L q c j → j ≤ in_a_row is_silent q (past (suc (c + j)))
    many_silent zero there = omega arith
    many_silent (suc j) there =
        let next : suc (c + j) ≡ c + suc j = omega arith in
        let so_far : j ≤ in_a_row is_silent q (past (suc (c + j))) =
        many_silent j (λ i small. there i (omega (arith, small))) in
        let so_many : j ≤ in_a_row is_silent q (past (c + suc j)) =
        subst (λ m. j ≤ in_a_row is_silent q (past m)) next so_far in
        subst (λ b. suc j ≤ cond b (suc (in_a_row is_silent q (past (c + suc j)))) 0) (sym (silent_for j there))
        (omega (arith, so_many))

pub next_silent : (M : MissionValue) (L : Log) (c : ℕ) (q : Channel) → IsMission M → IsActiveFor M L q c 1 →
    is_up (mode_in (cycle_at M L c) q Switch) ≡ false → is_silent (cycle_at M L (c + 1)) q ≡ true
next_silent M L c q mission there crashed = silent_for M L mission c q crashed 0 there

pub goes_in_time : (M : MissionValue) (L : Log) (n c more : ℕ) (q : Channel) → IsMission M → n ≤ M.cycles →
    HasRun M L n → c + more < n → IsActiveFor M L q c more →
    is_up (mode_in (cycle_at M L c) q Switch) ≡ false → M.rules.threshold ≤ 65536 * more →
    IsRemovedInTime M (cycles_before M L (c + more)) (cycle_at M L (c + more)) q
goes_in_time M L n c zero q mission early run soon there crashed enough =
    absurd (omega (arith, enough, (Rattle.guards_laws.proofs.Planned.ranges M mission).threshold))
goes_in_time M L n c (suc more) q mission early run soon there crashed enough =
    removes_silent M L n mission early run (c + suc more) soon q (silent_for M L mission c q crashed more there)
    (omega (arith, enough, many_silent M L mission c q crashed (suc more) there))
