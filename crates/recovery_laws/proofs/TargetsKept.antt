-- A transfer that still runs dropped none of its targets since its start.
use Rattle.std.proofs.Common.{◌≡◌, ℕ, zero, suc, ◌+◌, ◌-◌, ◌<◌, ◌≤◌, ◌==◌, ◌⊎◌, inl, inr, Bool, true, false, not, ◌&&◌, length, Option, None, Some, refl, sym, ap, subst, ◌∙◌, arith, eq-eqb}
use Rattle.std.specs.Prelude.{filter}
use Rattle.std.proofs.lemmas.Bool.{cases_lt}
use Rattle.guards_model.specs.Channels.{Channel, ChannelSet, has}
use Rattle.guards_model.specs.Missions.{MissionValue}
use Rattle.guards_model.specs.Network.{Log}
use Rattle.guards_model.specs.Diagnosis.{Agreed}
use Rattle.guards_model.specs.Transfers.{TransferValue, stays, kept_targets, new_targets, transfer_to, start_of}
use Rattle.guards_model.specs.Decisions.{dropped_of}
use Rattle.guards_model.proofs.BoolTests.{both, and_true}
use Rattle.guards_model.proofs.Tables.{has-filter}
use Rattle.guards_runs.specs.Cycles.{Past, running_transfer, entries_of, cycle_start_of, agreement_of, decision_of, cycle_from, next_cycle, cycles_before, cycle_at}
use Rattle.guards_runs.specs.Promises.{is_transfer_to}
use Rattle.guards_laws.proofs.FirstFit.{either, runs_on}
use Rattle.guards_laws.proofs.LogGrows.{length-cycles_before}
use Rattle.guards_laws.proofs.Transferring.{made_of, transfer_of}
use Rattle.recovery_laws.specs.Lengths.{dropped_in, IsKeptTo}

not_dropped : (a b : Bool) → (a && b) ≡ true → (not a && b) ≡ false
not_dropped true b h = refl
not_dropped false b h = absurd cc

-- the transfer ran before, and this cycle kept the target
record StillHas (past : Past) (active : ChannelSet) (agreed : Agreed) (c : ℕ) (t : TransferValue) (q : Channel) : Type
    0 where
  running : TransferValue
  ran : running_transfer past ≡ Some running
  same_start : t.start ≡ running.start
  target : has running.targets q ≡ true
  kept : has (dropped_of active agreed c (running_transfer past)) q ≡ false

still_by : (past : Past) (active : ChannelSet) (agreed : Agreed) (c : ℕ) (o : Option TransferValue) (t : TransferValue)
    (q : Channel) → running_transfer past ≡ o → has t.targets q ≡ true →
    transfer_to (kept_targets active agreed c o) (start_of o) ≡ Some t → StillHas past active agreed c t q
still_by past active agreed c None t q e there h = absurd cc
still_by past active agreed c (Some r) t q e there h =
    let m = made_of (filter (stays active agreed c r) r.targets) r.start t h in
    let stay : (stays active agreed c r q && has r.targets q) ≡ true =
    sym (has-filter (stays active agreed c r) r.targets q) ∙ ap (λ ts. has ts q) (sym m.targets_are) ∙ there in
    record {
      running = r;
      ran = e;
      same_start = m.starts;
      target = (both (stays active agreed c r q) (has r.targets q) stay).1;
      kept = ap (λ o. has (dropped_of active agreed c o) q) e
          ∙ has-filter (λ p. not (stays active agreed c r p)) r.targets q
          ∙ not_dropped (stays active agreed c r q) (has r.targets q) stay;
    }

record RanBefore (M : MissionValue) (L : Log) (past : Past) (t : TransferValue) (q : Channel) : Type 0 where
  running : TransferValue
  ran : running_transfer past ≡ Some running
  same_start : t.start ≡ running.start
  target : has running.targets q ≡ true
  kept : has (dropped_in (length past) (next_cycle M L past)) q ≡ false

module _ (M : MissionValue) (L : Log) where
  ran_before : (past : Past) (t : TransferValue) (q : Channel) → (next_cycle M L past).transfer ≡ Some t →
      has t.targets q ≡ true → t.start < length past → RanBefore M L past t q
  unfolding cycle_from decision_of cycle_start_of
  ran_before past t q h there early =
      let o = cycle_start_of M past in
      let agreed : Agreed = (agreement_of M (entries_of (length past) L) past o).agreed in
      elim (either (transfer_to (kept_targets o.active agreed (length past) (running_transfer past))
      (start_of (running_transfer past)))
      (transfer_to (new_targets M.rules.channels M.rules.returning o.active o.fresh agreed) (length past)) t h) [
        | inl k ↦ let s = still_by past o.active agreed (length past) (running_transfer past) t q refl there k in
            record { running = s.running; ran = s.ran; same_start = s.same_start; target = s.target; kept = s.kept }
        | inr k ↦ absurd (omega (
          arith,
          early,
          (made_of (new_targets M.rules.channels M.rules.returning o.active o.fresh agreed) (length past) t
              k).starts,
        ))
      ]

  module _ (q : Channel) (s : ℕ) where
    -- the cycle before had it too
    back_to : (n : ℕ) → s < suc n → is_transfer_to q s (cycle_at M L (suc n)).transfer ≡ true →
        (is_transfer_to q s (cycle_at M L n).transfer ≡ true)
        × (has (dropped_in (suc n) (cycle_at M L (suc n))) q ≡ false)
    back_to n early runs =
        let past = cycles_before M L (suc n) in
        let tr = transfer_of q s (next_cycle M L past).transfer runs in
        let b = ran_before past tr.transfer q tr.runs tr.target
        (omega (arith, tr.starts, early, length-cycles_before M L (suc n))) in
        let e = cycle_at M L n in
        let on = runs_on e.joined e.transfer b.running b.ran in
        let start : b.running.start ≡ s = sym b.same_start ∙ tr.starts in (
          ap (is_transfer_to q s) on.1
              ∙ and_true (has b.running.targets q) (b.running.start == s) b.target (eq-eqb b.running.start s start),
          ap (λ c. has (dropped_in c (cycle_at M L (suc n))) q) (sym (length-cycles_before M L (suc n))) ∙ b.kept,
        )

    pub record HadSince (c : ℕ) : Type 0 where
      pub starts : is_transfer_to q s (cycle_at M L s).transfer ≡ true
      pub kept : IsKeptTo M L q s c

    had_next : (n : ℕ) → HadSince n → has (dropped_in (suc n) (cycle_at M L (suc n))) q ≡ false → HadSince (suc n)
    had_next n had kept = record { starts = had.starts; kept = λ d low high. by d low high (cases_lt n d) }
      where
        by : (d : ℕ) → s < d → d ≤ suc n → (n < d) ⊎ (d ≤ n) → has (dropped_in d (cycle_at M L d)) q ≡ false
        by d low high (inl above) = let same : suc n ≡ d = omega (arith, above, high) in
            subst (λ m. has (dropped_in m (cycle_at M L m)) q ≡ false) same kept
        by d low high (inr under) = had.kept d low under

    had_by : (i : ℕ) → is_transfer_to q s (cycle_at M L (s + i)).transfer ≡ true → HadSince (s + i)
    had_by zero runs =
        let same : s + 0 ≡ s = omega arith in
        record {
          starts = subst (λ c. is_transfer_to q s (cycle_at M L c).transfer ≡ true) same runs;
          kept = λ d low high. absurd (omega (arith, low, high));
        }
    had_by (suc i) runs =
        let next : s + suc i ≡ suc (s + i) = omega arith in
        let now : is_transfer_to q s (cycle_at M L (suc (s + i))).transfer ≡ true =
        subst (λ c. is_transfer_to q s (cycle_at M L c).transfer ≡ true) next runs in
        let back = back_to (s + i) (omega arith) now in
        subst HadSince (sym next) (had_next (s + i) (had_by i back.0) back.1)

    pub had_since : (c : ℕ) → s ≤ c → is_transfer_to q s (cycle_at M L c).transfer ≡ true → HadSince c
    had_since c late runs =
        let place : s + (c - s) ≡ c = omega (arith, late) in
        subst HadSince place (had_by (c - s)
        (subst (λ d. is_transfer_to q s (cycle_at M L d).transfer ≡ true) (sym place) runs))
