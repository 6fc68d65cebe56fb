-- A transfer runs in just the cycles of its length, while no cycle drops the target.
use Rattle.std.proofs.Common.{◌≡◌, ℕ, zero, suc, ◌+◌, ◌-◌, ◌<◌, ◌≤◌, ◌==◌, Bool, true, false, cond, not, ◌&&◌, [], ◌∷◌, length, Option, None, Some, refl, sym, ap, subst, ◌∙◌, arith, eq-eqb}
use Rattle.std.specs.Prelude.{nat_le, filter}
use Rattle.guards_model.specs.Channels.{Channel, ChannelSet, has}
use Rattle.guards_model.specs.Missions.{MissionValue, IsMission}
use Rattle.guards_model.specs.Network.{Log}
use Rattle.guards_model.specs.Diagnosis.{Agreed}
use Rattle.guards_model.specs.Transfers.{TransferValue, stays, kept_targets, new_targets, transfer_to, transfer_or, start_of}
use Rattle.guards_model.specs.Decisions.{dropped_of, if_empty, joined_of}
use Rattle.guards_model.proofs.BoolTests.{differ, and_true}
use Rattle.guards_model.proofs.Tables.{has-filter}
use Rattle.guards_runs.specs.Cycles.{Past, running_transfer, entries_of, cycle_start_of, agreement_of, decision_of, work_of, cycle_from, next_cycle, cycles_before, cycle_at}
use Rattle.guards_runs.specs.Promises.{is_transfer_to}
use Rattle.guards_laws.proofs.Transferring.{transfer_of}
use Rattle.guards_laws.proofs.LogGrows.{length-cycles_before}
use Rattle.recovery_laws.specs.Lengths.{transfer_length, row_of, dropped_in, IsKeptTo, RunsForLength}
use Rattle.recovery_laws.proofs.FirstFrom.{same_number}
use Rattle.recovery_laws.proofs.LengthTold.{takes}

-- ---- one cycle further

stays_by : (a there : Bool) → there ≡ true → (not a && there) ≡ false → a ≡ true
stays_by true there h k = refl
stays_by false there h k = differ (sym h ∙ k)

to_some : (targets : ChannelSet) (start : ℕ) (new : Option TransferValue) (q : Channel) → has targets q ≡ true →
    is_transfer_to q start (transfer_or (transfer_to targets start) new) ≡ true
to_some [] start new q h = absurd cc
to_some (p ∷ targets) start new q h = and_true (has (p ∷ targets) q) (start == start) h (eq-eqb start start refl)

goes_on_by : (active : ChannelSet) (agreed : Agreed) (c : ℕ) (t : TransferValue) (new : Option TransferValue)
    (q : Channel) → has t.targets q ≡ true →
    has (dropped_of active agreed c (Some t)) q ≡ false →
    is_transfer_to q t.start (transfer_or (transfer_to (kept_targets active agreed c (Some t)) t.start) new) ≡ true
goes_on_by active agreed c t new q there kept =
    let stay : stays active agreed c t q ≡ true =
    stays_by (stays active agreed c t q) (has t.targets q) there
    (sym (has-filter (λ p. not (stays active agreed c t p)) t.targets q) ∙ kept) in
    to_some (filter (stays active agreed c t) t.targets) t.start new q
    (has-filter (stays active agreed c t) t.targets q
    ∙ and_true (stays active agreed c t q) (has t.targets q) stay there)

empty_by : (t : TransferValue) (q : Channel) (b : Bool) → has t.targets q ≡ true → has (cond b t.targets []) q ≡ false →
    cond b t.targets [] ≡ []
empty_by t q true there none = differ (sym there ∙ none)
empty_by t q false there none = refl

module _ (M : MissionValue) (L : Log) where
  now_joined : (past : Past) →
      (next_cycle M L past).joined
      ≡ joined_of M.rules.last (next_cycle M L past).transfer (next_cycle M L past).remaining
  unfolding cycle_from work_of
  now_joined past = refl

  now_running : (past : Past) → (next_cycle M L past).running ≡ running_transfer past
  unfolding cycle_from cycle_start_of
  now_running past = refl

  goes_on_now : (past : Past) (t : TransferValue) (q : Channel) → running_transfer past ≡ Some t →
      has t.targets q ≡ true → has (dropped_in (length past) (next_cycle M L past)) q ≡ false →
      is_transfer_to q t.start (next_cycle M L past).transfer ≡ true
  unfolding cycle_from decision_of cycle_start_of
  goes_on_now past t q runs there kept =
      let o = cycle_start_of M past in
      let agreed : Agreed = (agreement_of M (entries_of (length past) L) past o).agreed in
      let new : Option TransferValue =
      transfer_to (new_targets M.rules.channels M.rules.returning o.active o.fresh agreed) (length past) in
      let kept_now : has (dropped_of o.active agreed (length past) (Some t)) q ≡ false =
      sym (ap (λ r. has (dropped_of o.active agreed (length past) r) q) runs) ∙ kept in
      ap (λ r. is_transfer_to q t.start
      (transfer_or (transfer_to (kept_targets o.active agreed (length past) r) (start_of r)) new)) runs
      ∙ goes_on_by o.active agreed (length past) t new q there kept_now

  -- a transfer whose targets are not declared joined runs on
  goes_on : (n : ℕ) (q : Channel) (s : ℕ) → is_transfer_to q s (cycle_at M L n).transfer ≡ true →
      has (cycle_at M L n).joined q ≡ false →
      has (dropped_in (suc n) (cycle_at M L (suc n))) q ≡ false →
      is_transfer_to q s (cycle_at M L (suc n)).transfer ≡ true
  goes_on n q s runs unjoined kept =
      let past = cycles_before M L n in
      let e = next_cycle M L past in
      let tr = transfer_of q s e.transfer runs in
      let none : e.joined ≡ [] =
      now_joined past ∙ ap (λ o. joined_of M.rules.last o e.remaining) tr.runs
      ∙ empty_by tr.transfer q (nat_le (length e.remaining) M.rules.last) tr.target
      (sym (ap (λ js. has js q) (now_joined past ∙ ap (λ o. joined_of M.rules.last o e.remaining) tr.runs))
      ∙ unjoined) in
      let still : running_transfer (e ∷ past) ≡ Some tr.transfer = ap (λ js. if_empty js e.transfer) none ∙ tr.runs in
      let kept_now : has (dropped_in (length (e ∷ past)) (cycle_at M L (suc n))) q ≡ false =
      ap (λ c. has (dropped_in c (cycle_at M L (suc n))) q) (length-cycles_before M L (suc n)) ∙ kept in
      subst (λ start. is_transfer_to q start (cycle_at M L (suc n)).transfer ≡ true) tr.starts
      (goes_on_now (e ∷ past) tr.transfer q still tr.target kept_now)

-- ---- all cycles

module _ (M : MissionValue) (L : Log) (mission : IsMission M) (q : Channel) (s : ℕ)
    (starts : is_transfer_to q s (cycle_at M L s).transfer ≡ true) where
  abbrev Lasts : ℕ → Type 0
  Lasts c = (k : ℕ) → transfer_length M (row_of M s) ≡ Some k → c < s + k

  not_joined : (n : ℕ) (b : Bool) → n < M.cycles → is_transfer_to q s (cycle_at M L n).transfer ≡ true → Lasts (suc n) →
      has (cycle_at M L n).joined q ≡ b → b ≡ false
  not_joined n false few runs lasts e = refl
  not_joined n true few runs lasts e =
      let now = takes M L mission n few q s runs in
      let k : transfer_length M (row_of M s) ≡ Some (suc now.count) = now.joined.0 e in
      absurd (omega (arith, lasts (suc now.count) k, now.place, length-cycles_before M L n))

  runs_by : (i : ℕ) → s + i < M.cycles → IsKeptTo M L q s (s + i) → Lasts (s + i) →
      is_transfer_to q s (cycle_at M L (s + i)).transfer ≡ true
  runs_by zero few kept lasts = let same : s ≡ s + 0 = omega arith in
      subst (λ c. is_transfer_to q s (cycle_at M L c).transfer ≡ true) same starts
  runs_by (suc i) few kept lasts =
      let before = runs_by i (omega (arith, few)) (λ d low high. kept d low (omega (arith, high)))
      (λ k h. omega (arith, lasts k h)) in
      let next : suc (s + i) ≡ s + suc i = omega arith in
      let unjoined = not_joined (s + i) (has (cycle_at M L (s + i)).joined q) (omega (arith, few)) before
      (λ k h. omega (arith, lasts k h)) refl in
      subst (λ c. is_transfer_to q s (cycle_at M L c).transfer ≡ true) next
      (goes_on M L (s + i) q s before unjoined (kept (suc (s + i)) (omega arith) (omega arith)))

  pub runs_for : (c : ℕ) → s ≤ c → c < M.cycles → IsKeptTo M L q s c → RunsForLength M L q s c
  runs_for c late few kept =
      let i : ℕ = c - s in
      let place : s + i ≡ c = omega (arith, late) in (
        λ runs k h. let now = takes M L mission c few q s runs in
            omega (arith, now.within k h, now.place, length-cycles_before M L c),
        λ lasts. subst (λ d. is_transfer_to q s (cycle_at M L d).transfer ≡ true) place
            (runs_by i (omega (arith, place, few)) (subst (IsKeptTo M L q s) (sym place) kept)
            (subst Lasts (sym place) lasts)),
      )

  same_length : (k m : ℕ) → transfer_length M (row_of M s) ≡ Some k → transfer_length M (row_of M s) ≡ Some m → k ≡ m
  same_length k m a b = same_number k m (sym a ∙ b)

  -- in the last cycle of its length the target is declared joined
  pub ends_at : (c k : ℕ) → s ≤ c → c < M.cycles → IsKeptTo M L q s c → transfer_length M (row_of M s) ≡ Some k →
      suc c ≡ s + k → has (cycle_at M L c).joined q ≡ true
  ends_at c k late few kept is last =
      let runs = (runs_for c late few kept).1 (λ m h. omega (arith, same_length k m is h, last)) in
      let now = takes M L mission c few q s runs in
      let all : k ≡ suc now.count = omega (arith, now.place, length-cycles_before M L c, last) in
      now.joined.1 (is ∙ ap (λ m. Some m) all)

  unjoined_by : (c : ℕ) (b : Bool) → has (cycle_at M L c).joined q ≡ b → (has (cycle_at M L c).joined q ≡ true → ⊥) →
      b ≡ false
  unjoined_by c true e none = absurd (none e)
  unjoined_by c false e none = refl

  no_end : (k : ℕ) → transfer_length M (row_of M s) ≡ None → transfer_length M (row_of M s) ≡ Some k → ⊥
  no_end k none h = cc

  -- where it has no length it runs on
  pub runs_on_at : (c : ℕ) → s ≤ c → c < M.cycles → IsKeptTo M L q s c → transfer_length M (row_of M s) ≡ None →
      (is_transfer_to q s (cycle_at M L c).transfer ≡ true) × (has (cycle_at M L c).joined q ≡ false)
  runs_on_at c late few kept none =
      let runs = (runs_for c late few kept).1 (λ m h. absurd (no_end m none h)) in
      let now = takes M L mission c few q s runs in
      (runs, unjoined_by c (has (cycle_at M L c).joined q) refl (λ j. no_end (suc now.count) none (now.joined.0 j)))
