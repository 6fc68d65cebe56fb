-- A transfer starts to a channel that sent a request in the cycle before.
use Rattle.std.proofs.Common.{◌≡◌, ℕ, zero, suc, ◌+◌, ◌<◌, ◌≤◌, ◌==◌, ◌⊎◌, inl, inr, Bool, true, false, cond, not, ◌&&◌, ◌||◌, List, [], ◌∷◌, length, Option, None, Some, refl, sym, ap, subst, ◌∙◌, arith, eq-eqb}
use Rattle.std.specs.Prelude.{⊤, nat_le, take, filter}
use Rattle.guards_model.specs.declared.Slot.TheVariants.{Request, Switch}
use Rattle.guards_model.specs.Channels.{Channel, has, place_or, by_channel, without, numbers_below}
use Rattle.guards_model.specs.Missions.{MissionValue, IsMission}
use Rattle.guards_model.specs.Frames.{SourceValue}
use Rattle.guards_model.specs.Network.{Log, have_of}
use Rattle.guards_model.specs.Decisions.{request_code}
use Rattle.guards_model.specs.Diagnosis.{enough_heard, asks}
use Rattle.guards_model.specs.Modes.{is_joining}
use Rattle.guards_model.specs.Transfers.{TransferValue, kept_targets, new_targets, transfer_to, transfer_after, start_of}
use Rattle.guards_model.proofs.BoolTests.{differ, both, and_true, not_true}
use Rattle.guards_model.proofs.SettledWords.{not_many_tell}
use Rattle.guards_model.proofs.Tables.{at-by_channel, has-filter}
use Rattle.guards_runs.specs.Cycles.{Past, Cycle, mode_in, heard_before, source_word, received_body, running_transfer, cycle_start_of, agreement_of, decision_of, cycle_from, cycles_before, next_cycle}
use Rattle.guards_runs.specs.Disturbed.{disturbed_channels}
use Rattle.guards_runs.specs.Due.{is_sender}
use Rattle.guards_runs.specs.Promises.{HasRun, is_transfer_to}
use Rattle.guards_laws.proofs.Agreement.{run_cycles}
use Rattle.guards_laws.proofs.AgreedWords.{settled_now}
use Rattle.guards_laws.proofs.CycleParts.{heard-is}
use Rattle.guards_laws.proofs.DueEntries.{IsDueNow, run_due}
use Rattle.guards_laws.proofs.FirstFit.{either, runs_on}
use Rattle.guards_laws.proofs.LogGrows.{length-cycles_before}
use Rattle.guards_laws.proofs.Transferring.{IsKept, kept_of, made_of}
use Rattle.recovery_laws.proofs.JudgedCounts.{low_now}
use Rattle.recovery_laws.proofs.Judgement.{fresh-is}
use Rattle.recovery_laws.proofs.LengthTold.{takes}
use Rattle.recovery_laws.proofs.Senders.{at_cycle, nothing_of}

-- in the cycle before a channel sent no request
abbrev DidNotAsk : Past → Channel → Type 0
DidNotAsk [] q = ⊤
DidNotAsk (e ∷ past) q = is_sender e Request q ≡ false

in_take : (n : ℕ) (xs : List ℕ) (q : ℕ) → has (take n xs) q ≡ true → has xs q ≡ true
in_take zero xs q h = absurd cc
in_take (suc n) [] q h = absurd cc
in_take (suc n) (x ∷ xs) q h = by_first (x == q) (has (take n xs) q) (has xs q) (in_take n xs q) h
  where
    by_first : (b taken there : Bool) → (taken ≡ true → there ≡ true) → (b || taken) ≡ true → (b || there) ≡ true
    by_first true taken there f k = refl
    by_first false taken there f k = f k

module _ (M : MissionValue) (L : Log) (n : ℕ) (mission : IsMission M) (early : n ≤ M.cycles) (run : HasRun M L n) (q : Channel) (low : q < 7) where
  abbrev past : ℕ → Past
  past m = cycles_before M L m

  abbrev now : ℕ → Cycle
  now m = next_cycle M L (cycles_before M L m)

  -- ---- who sends no request is not heard

  no_code : (m : ℕ) → m < n → (j : Channel) → j < 7 → is_sender (now m) Request q ≡ false → place_or (place_or (now m).request_codes j []) q 0 ≡ 0
  no_code m soon j high silent =
      ap (λ t. place_or t q 0) (heard-is M L (past m) j high)
      ∙ at-by_channel (λ q. request_code (now m).running q (have_of (received_body M (now m).entries (length (past m)) Request q j))) q 0 low
      ∙ ap (λ b. request_code (now m).running q (have_of b)) (nothing_of M (past m) (now m) Request q j (at_cycle M L (IsDueNow M) n m (run_due M L n run) soon) silent)

  heard_none : (m : ℕ) → m < n → (j : Channel) → j < 7 → DidNotAsk (past m) q → place_or (heard_before (past m) j) q 0 ≡ 0
  heard_none zero soon j high silent = at-by_channel (λ q. 0) q 0 low
  heard_none (suc m) soon j high silent = by_joined (has (now m).joined j)
    where
      by_joined : (b : Bool) → place_or (cond b (by_channel (λ q. 0)) (place_or (now m).request_codes j [])) q 0 ≡ 0
      by_joined true = at-by_channel (λ q. 0) q 0 low
      by_joined false = no_code m (omega (arith, soon)) j high silent

  not_heard : (m : ℕ) → m < n → DidNotAsk (past m) q → enough_heard (now m).active (now m).agreed 1 q ≡ false
  not_heard m soon silent =
      not_many_tell (now m).active (disturbed_channels (length (past m)) (now m) Switch) (source_word M (past m)) (now m).agreed (settled_now M L m Switch (run_cycles M L n mission early run m soon))
      (λ (w : SourceValue). nat_le 1 (place_or w.heard q 0)) (λ j there good. ap (nat_le 1) (heard_none m soon j (low_now M L mission m j there) silent))

  -- ---- a transfer that starts is to channels whose requests stand

  transfer-is : (m : ℕ) → (now m).transfer
      ≡ transfer_after M.rules.channels M.rules.returning (now m).active (now m).fresh (now m).agreed (length (past m)) (running_transfer (past m))
  unfolding cycle_from agreement_of decision_of cycle_start_of
  transfer-is m = refl

  not_kept : (s : ℕ) (t : TransferValue) → s < n → IsKept (past s) t → has t.targets q ≡ true → t.start ≡ s → ⊥
  not_kept zero t soon kept there start = none kept.running kept.ran
    where
      none : (r : TransferValue) → None ≡ Some r → ⊥
      none r h = cc
  not_kept (suc k) t soon kept there start =
      let on = runs_on (now k).joined (now k).transfer kept.running kept.ran in
      let r = kept.running in
      let runs : is_transfer_to q r.start (now k).transfer ≡ true =
      ap (is_transfer_to q r.start) on.1 ∙ and_true (has r.targets q) (r.start == r.start) (kept.within q there) (eq-eqb r.start r.start refl) in
      let told = takes M L mission k (omega (arith, soon, early)) q r.start runs in
      absurd (omega (arith, told.place, length-cycles_before M L k, kept.same_start, start))

  stands_at : (s : ℕ) (t : TransferValue) → s < n → (now s).transfer ≡ Some t → t.start ≡ s → has t.targets q ≡ true → asks (now s).active (now s).fresh (now s).agreed q ≡ true
  stands_at s t soon runs start there =
      let e = now s in
      elim (either (transfer_to (kept_targets e.active e.agreed (length (past s)) (running_transfer (past s))) (start_of (running_transfer (past s))))
      (transfer_to (new_targets M.rules.channels M.rules.returning e.active e.fresh e.agreed) (length (past s))) t (sym (transfer-is s) ∙ runs)) [
        | inl k ↦ absurd (not_kept s t soon (kept_of (past s) e.active e.agreed (length (past s)) (running_transfer (past s)) t refl k) there start)
        | inr k ↦ taken s t (made_of (new_targets M.rules.channels M.rules.returning e.active e.fresh e.agreed) (length (past s)) t k).targets_are there
      ]
    where
      taken : (s : ℕ) (t : TransferValue) → t.targets ≡ new_targets M.rules.channels M.rules.returning (now s).active (now s).fresh (now s).agreed → has t.targets q ≡ true →
          asks (now s).active (now s).fresh (now s).agreed q ≡ true
      taken s t are there =
          let e = now s in
          let listed = filter (asks e.active e.fresh e.agreed) (without (numbers_below M.rules.channels) e.active) in
          let in_list : has listed q ≡ true = in_take M.rules.returning listed q (ap (λ ts. has ts q) (sym are) ∙ there) in
          (both (asks e.active e.fresh e.agreed q) (has (without (numbers_below M.rules.channels) e.active) q)
          (sym (has-filter (asks e.active e.fresh e.agreed) (without (numbers_below M.rules.channels) e.active) q) ∙ in_list)).0

  -- what a channel did in the cycle before a transfer to it starts: it sent a request, and did not join
  pub record DidAsk (s : ℕ) : Type 0 where
    pub before : ℕ
    pub next : s ≡ suc before
    pub asked : is_joining (mode_in (now before) q Request) ≡ true
    pub unjoined : has (now before).joined q ≡ false

  pub did_ask : (s : ℕ) (t : TransferValue) → s < n → (now s).transfer ≡ Some t → t.start ≡ s → has t.targets q ≡ true → DidAsk s
  did_ask s t soon runs start there =
      let stands = both (enough_heard (now s).active (now s).agreed 1 q) (not (has (now s).fresh q)) (stands_at s t soon runs start there) in
      by s soon stands.0 (not_true (has (now s).fresh q) stands.1)
    where
      by : (s : ℕ) → s < n → enough_heard (now s).active (now s).agreed 1 q ≡ true → has (now s).fresh q ≡ false → DidAsk s
      by zero soon heard fresh = differ (sym heard ∙ not_heard zero soon tt)
      by (suc k) soon heard fresh =
          record {
            before = k;
            next = refl;
            asked = sent (is_joining (mode_in (now k) q Request)) refl;
            unjoined = sym (ap (λ js. has js q) (fresh-is M L (past (suc k)))) ∙ fresh;
          }
        where
          sent : (b : Bool) → is_joining (mode_in (now k) q Request) ≡ b → b ≡ true
          sent true e = refl
          sent false e = differ (sym heard ∙ not_heard (suc k) soon e)
