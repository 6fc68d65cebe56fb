-- A channel that tells no word is judged in each such cycle, and is removed in time.
use Rattle.std.proofs.Common.{◌≡◌, ℕ, ◌<◌, ◌≤◌, ◌==◌, Bool, true, false, cond, not, ◌&&◌, ◌||◌, [], ◌∷◌, length, None, refl, sym, ap, ◌∙◌}
use Rattle.std.specs.Prelude.{is_none}
use Rattle.guards_model.specs.declared.Slot.TheVariants.{Round1, Switch}
use Rattle.guards_model.specs.Channels.{Channel, ChannelSet, has, place_or}
use Rattle.guards_model.specs.Missions.{MissionValue, IsMission}
use Rattle.guards_model.specs.Network.{Log, items_of}
use Rattle.guards_model.specs.Diagnosis.{enough_tell}
use Rattle.guards_model.specs.Exchanges.{holds, resolved}
use Rattle.guards_model.specs.Modes.{is_up}
use Rattle.guards_runs.specs.Cycles.{Past, Cycle, mode_in, first_up, received_body, cycles_before, next_cycle}
use Rattle.guards_runs.specs.Disturbed.{disturbed_channels}
use Rattle.guards_runs.specs.Due.{is_sender}
use Rattle.guards_runs.specs.Promises.{EachCycle, HasRun}
use Rattle.guards_model.proofs.Tables.{at-by_channel, has-filter}
use Rattle.guards_model.proofs.BoolTests.{differ, both, and_true, second_false, not_true}
use Rattle.guards_laws.proofs.DueEntries.{IsDueNow, run_due}
use Rattle.guards_laws.proofs.RunFacts.{IsCycle, low_channel}
use Rattle.guards_laws.proofs.Received.{not_disturbed}
use Rattle.guards_laws.proofs.CycleParts.{judged-is, up_in_slot}
use Rattle.guards_laws.proofs.AgreedWords.{exchange_now, told_now, first_active, agreed_from_log}
use Rattle.guards_laws.proofs.Agreement.{run_cycles}
use Rattle.recovery_laws.specs.Diagnosed.{is_silent, is_judged, FindsSilent, RemovesSilent}
use Rattle.recovery_laws.proofs.Senders.{at_cycle, nothing_of}
use Rattle.recovery_laws.proofs.LeftAlone.{each_of}
use Rattle.recovery_laws.proofs.Missing.{missing_resolved}
use Rattle.recovery_laws.proofs.Rows.{raised_in, removes}

module _ (M : MissionValue) (L : Log) (n : ℕ) (mission : IsMission M) (early : n ≤ M.cycles) (run : HasRun M L n) where
  abbrev past : ℕ → Past
  past m = cycles_before M L m

  abbrev now : ℕ → Cycle
  now m = next_cycle M L (cycles_before M L m)

  cycle : (m : ℕ) → m < n → IsCycle M L m
  cycle m soon = run_cycles M L n mission early run m soon

  due : (m : ℕ) → m < n → IsDueNow M (past m) (now m)
  due m soon = at_cycle M L (IsDueNow M) n m (run_due M L n run) soon

  low_at : (m : ℕ) → m < n → (q : Channel) → has (now m).active q ≡ true → q < 7
  low_at m soon q there = low_channel M L m Switch (cycle m soon) q there

  -- ---- one silent cycle

  module _ (m : ℕ) (soon : m < n) (q : Channel) (there : has (now m).active q ≡ true)
      (silent : is_up (mode_in (now m) q Round1) ≡ false) where
    abbrev D : ChannelSet
    D = disturbed_channels (length (cycles_before M L m)) (next_cycle M L (cycles_before M L m)) Switch

    low : q < 7
    low = low_at m soon q there

    bad : has D q ≡ true
    bad = by_test (has D q) refl
      where
        by_test : (b : Bool) → has D q ≡ b → b ≡ true
        by_test true e = refl
        by_test false e =
            let u = not_disturbed (length (past m)) (now m) Switch q there e in
            differ (sym (up_in_slot M L (past m) q Round1 Switch low refl u.up) ∙ silent)

    nothing : (j : Channel) → has (now m).active j ≡ true → (q == j) ≡ false →
        holds (exchange_now M L m Switch) j (q ∷ []) ≡ None
    nothing j member other =
        let sends : is_sender (now m) Round1 q ≡ false =
        second_false (has (now m).active q) (is_up (mode_in (now m) q Round1)) silent in
        ap (λ b. cond b (holds (exchange_now M L m Switch) j [])
        (Rattle.guards_model.specs.OralMessages.word_for M.width [] ((exchange_now M L m Switch).received j 1 q)))
        other
        ∙ ap (Rattle.guards_model.specs.OralMessages.word_for M.width [])
        (at-by_channel (λ i. items_of (received_body M (now m).entries (length (past m)) Round1 i j)) q [] low
        ∙ ap items_of (nothing_of M (past m) (now m) Round1 q j (due m soon) sends))

    missing : place_or (now m).agreed q None ≡ None
    missing =
        let p = first_up (now m).modes (now m).active in
        ap (λ a. place_or a q None) (agreed_from_log M L m Switch (cycle m soon))
        ∙ at-by_channel (λ s. cond (has (now m).active s) (resolved (exchange_now M L m Switch) p s) None) q None low
        ∙ ap (λ b. cond b (resolved (exchange_now M L m Switch) p q) None) there
        ∙ missing_resolved (exchange_now M L m Switch) (told_now M L m Switch (cycle m soon)) q there bad nothing p
        (first_active M L m Switch (cycle m soon))

    judged : has (now m).judged q ≡ true
    judged =
        ap (λ s. has s q) (judged-is M L (past m))
        ∙ has-filter (λ q. is_none (place_or (now m).agreed q None)
        || enough_tell (now m).active (now m).agreed (λ w. has w.accuse q)) (now m).active q
        ∙ ap (λ o. (is_none o || enough_tell (now m).active (now m).agreed (λ w. has w.accuse q))
        && has (now m).active q) missing
        ∙ there

  -- ---- silent cycles in a row

  silent_parts : (m : ℕ) (q : Channel) → is_silent (now m) q ≡ true →
      (has (now m).active q ≡ true) × (is_up (mode_in (now m) q Round1) ≡ false)
  silent_parts m q h =
      let parts = both (has (now m).active q) (not (is_up (mode_in (now m) q Round1))) h in
      (parts.0, not_true (is_up (mode_in (now m) q Round1)) parts.1)

  judged_silent : (m : ℕ) → m < n → (q : Channel) → is_silent (now m) q ≡ true → is_judged (now m) q ≡ true
  judged_silent m soon q silent =
      let parts = silent_parts m q silent in
      and_true (has (now m).active q) (has (now m).judged q) parts.0 (judged m soon q parts.0 parts.1)

  finds : (m : ℕ) → m < n → FindsSilent M (past m) (now m)
  finds m soon q silent =
      let parts = silent_parts m q silent in
      record {
        missing = missing m soon q parts.0 parts.1;
        judged = judged m soon q parts.0 parts.1;
        count = raised_in M L mission n is_silent judged_silent m soon q silent;
      }

  pub removes_silent : (m : ℕ) → m < n → RemovesSilent M (past m) (now m)
  removes_silent m soon q silent enough = removes M L mission n is_silent judged_silent m soon q silent enough

pub run_finds : (M : MissionValue) (L : Log) (n : ℕ) → IsMission M → n ≤ M.cycles → HasRun M L n →
    EachCycle (FindsSilent M) (cycles_before M L n)
run_finds M L n mission early run = each_of M L (FindsSilent M) n (finds M L n mission early run)

pub run_removes : (M : MissionValue) (L : Log) (n : ℕ) → IsMission M → n ≤ M.cycles → HasRun M L n →
    EachCycle (RemovesSilent M) (cycles_before M L n)
run_removes M L n mission early run = each_of M L (RemovesSilent M) n (removes_silent M L n mission early run)
