-- A channel's control decides and closes each cycle as the facts say: its tags stand for the cycles of the transfer.
use Rattle.std.proofs.Common.{◌≡◌, ℕ, zero, suc, ◌≤◌, ◌<◌, ◌⊎◌, inl, inr, Bool, true, false, not, ◌&&◌, ◌||◌, List, [], ◌∷◌, length, Option, None, Some, refl, sym, ap, subst, ◌∙◌, eq-eqb, arith}
use Rattle.std.specs.Prelude.{option_map, nat_le, if◌then◌else◌}
use Rattle.std.proofs.lemmas.Bool.{leb-true, le-leb, ne_eqb}
use Rattle.guards_model.specs.Channels.{ChannelSet, has, numbers_below}
use Rattle.guards_model.specs.Missions.{MissionValue, written_blocks}
use Rattle.guards_model.specs.Network.{Log}
use Rattle.guards_model.specs.Diagnosis.{Agreed, judged_of, counts_of, counts_carried, removed_of}
use Rattle.guards_model.specs.Transfers.{TransferValue, TransferCycle, remains, sweep_cursor, transfer_to, transfer_or, start_of, kept_targets, new_targets, transfer_after, active_after}
use Rattle.guards_model.specs.Decisions.{DecisionValue, joined_of, if_empty}
use Rattle.guards_model.specs.Tags.{blocks_in, tags_of, tags_noted, tags_closed}
use Rattle.guards_model.specs.Controls.{SweepingValue, ControlValue, ClosedValue, transfer_in, tags_for, sweeping_for, planned_by, decided_by, control_decided, tags_after, sweeping_after, joined_by, goes_on, control_closed, start_if_joined, rest_if_joined, closed_by}
use Rattle.guards_model.specs.Controls as controls
use Rattle.guards_runs.specs.Cycles.{Cycle, Past, cycle_start_of, agreement_of, decision_of, work_of, entries_of, cycle_from, next_cycle, cycles_before, active_set, fresh_set, base_counts, running_transfer, swept_since, remaining_of, plan_of}
use Rattle.guards_runs.specs.ControlFacts.{sweeping_of, control_after_past, if_joined, closed_of, ControlFollows}
use Rattle.guards_runs.specs.Report.{remaining_in}
use Rattle.guards_model.proofs.TagLaw.{remains-step}
use Rattle.guards_model.proofs.TagSteps.{filter_alike, tags_plan, tags_close, stand_noted}

-- ---- which transfer runs

-- the decided transfer was started in this cycle, or has the start of the one that ran
abbrev StartOf : Option TransferValue → ℕ → TransferValue → Type 0
StartOf o c t = (t.start ≡ c) ⊎ ((r : TransferValue) × (o ≡ Some r) × (t.start ≡ r.start))

start_made : (targets : ChannelSet) (start : ℕ) (t : TransferValue) → transfer_to targets start ≡ Some t →
    t.start ≡ start
start_made [] start t h = absurd cc
start_made (q ∷ targets) start t h =
    let one : record { targets = q ∷ targets; start = start } ≡ t = cc in
    ap (λ u. u.start) (sym one)

either : (a b : Option TransferValue) (t : TransferValue) → transfer_or a b ≡ Some t → (a ≡ Some t) ⊎ (b ≡ Some t)
either (Some u) b t h = inl h
either None b t h = inr h

start_decided : (active new : ChannelSet) (agreed : Agreed) (c : ℕ) (o : Option TransferValue) (t : TransferValue) →
    transfer_or (transfer_to (kept_targets active agreed c o) (start_of o)) (transfer_to new c) ≡ Some t → StartOf o c t
start_decided active new agreed c None t h = inl (start_made new c t h)
start_decided active new agreed c (Some r) t h =
    elim (either (transfer_to (kept_targets active agreed c (Some r)) r.start) (transfer_to new c) t h) [
      | inl k ↦ inr (r, refl, start_made (kept_targets active agreed c (Some r)) r.start t k)
      | inr k ↦ inl (start_made new c t k)
    ]

abbrev StartsBefore : Past → Type 0
StartsBefore past = (t : TransferValue) → running_transfer past ≡ Some t → t.start < length past

not_le : (n : ℕ) (x : Bool) → nat_le (suc n) n ≡ x → x ≡ false
not_le n true h = absurd (omega (arith, leb-true (suc n) n h))
not_le n false h = refl

-- no cycle of the past is one of a transfer that starts now
none_since : (M : MissionValue) (past : Past) → swept_since M (length past) past ≡ []
none_since M [] = refl
none_since M (e ∷ past) = rw (not_le (length past) (nat_le (suc (length past)) (length past)) refl) refl

starts_now : (M : MissionValue) (past : Past) (t : TransferValue) → t.start ≡ length past →
    tags_of M.rules.blocks [] [] ≡ tags_of M.rules.blocks (swept_since M t.start past) []
starts_now M past t s = ap (λ cycles. tags_of M.rules.blocks cycles [])
    (sym (ap (λ c. swept_since M c past) s ∙ none_since M past))

tags_right : (M : MissionValue) (past : Past) (o : Option TransferValue) (t : TransferValue) →
    running_transfer past ≡ o → StartsBefore past → StartOf o (length past) t →
    tags_for M.rules.blocks (length past) (option_map (sweeping_of M past) o) t
    ≡ tags_of M.rules.blocks (swept_since M t.start past) []
tags_right M past None t e before (inl s) = starts_now M past t s
tags_right M past None t e before (inr (r, h, s)) = absurd cc
tags_right M past (Some r) t e before (inl s) = rw (eq-eqb t.start (length past) s) (starts_now M past t s)
tags_right M past (Some r) t e before (inr (u, h, s)) =
    let same_one : r ≡ u = cc in
    let start_is : t.start ≡ r.start = s ∙ ap (λ v. v.start) (sym same_one) in
    let early : t.start < length past = subst (λ n. n < length past) (sym start_is) (before r e) in
    rw (ne_eqb t.start (length past) (λ same. absurd (omega (arith, same, early))))
    (ap (λ n. tags_of M.rules.blocks (swept_since M n past) []) (sym start_is))

at_most : (past : Past) (o : Option TransferValue) (t : TransferValue) → running_transfer past ≡ o → StartsBefore past →
    StartOf o (length past) t → t.start ≤ length past
at_most past o t e before (inl s) = omega (arith, s)
at_most past o t e before (inr (u, h, s)) = omega (arith, s, before u (e ∙ h))

runs_on : (joined : ChannelSet) (o : Option TransferValue) (t : TransferValue) → if_empty joined o ≡ Some t → o ≡ Some t
runs_on [] o t h = h
runs_on (q ∷ joined) o t h = absurd cc

-- ---- the decision

transfer_is : (M : MissionValue) (past : Past) (o : Option TransferValue) →
    transfer_in (option_map (sweeping_of M past) o) ≡ o
transfer_is M past None = refl
transfer_is M past (Some t) = refl

sweeping_is : (M : MissionValue) (past : Past) (o : Option TransferValue) →
    ((t : TransferValue) → o ≡ Some t →
    tags_for M.rules.blocks (length past) (control_after_past M past).sweeping t
    ≡ tags_of M.rules.blocks (swept_since M t.start past) []) →
    sweeping_for M.rules.blocks (length past) (control_after_past M past).sweeping o ≡ option_map (sweeping_of M past) o
sweeping_is M past None tags = refl
sweeping_is M past (Some t) tags = ap (λ s. Some (record { transfer = t; tags = s })) (tags t refl)

plan_is : (M : MissionValue) (past : Past) (o : Option TransferValue) →
    planned_by M.rules.sweep (option_map (sweeping_of M past) o) ≡ plan_of M past o
plan_is M past None = refl
plan_is M past (Some t) = tags_plan M.rules.blocks (swept_since M t.start past) [] M.rules.sweep

-- a decision, by the transfer that ran and how it plans
abbrev decided_with : MissionValue → Past → Agreed → Option TransferValue → (Option TransferValue → List ℕ) →
    DecisionValue
decided_with M past agreed running plans =
    let judged : ChannelSet = judged_of (active_set M past) agreed in
    let counts : List ℕ = counts_of M.rules.law M.rules.keep M.rules.decrement (active_set M past) judged
    (base_counts M past) in
    let transfer : Option TransferValue =
    transfer_after M.rules.channels M.rules.returning (active_set M past) (fresh_set past) agreed (length past)
    running in
    record {
      judged = judged;
      counts = counts;
      removed = removed_of M.rules.threshold (active_set M past) (fresh_set past) agreed counts;
      transfer = transfer;
      planned = plans transfer;
    }

module _ (M : MissionValue) (past : Past) (agreed : Agreed) where
  abbrev decided : Option TransferValue
  decided = transfer_after M.rules.channels M.rules.returning (active_set M past) (fresh_set past) agreed (length past)
      (running_transfer past)

  abbrev plans : Option TransferValue → List ℕ
  plans o = planned_by M.rules.sweep (sweeping_for M.rules.blocks (length past) (control_after_past M past).sweeping o)

  decided_as : decided_by M.rules (length past) (control_after_past M past) agreed
      ≡ decided_with M past agreed (transfer_in (control_after_past M past).sweeping) plans
  unfolding decided_by
  decided_as = refl

  facts_as : decision_of M past (cycle_start_of M past) agreed
      ≡ decided_with M past agreed (running_transfer past) (plan_of M past)
  unfolding decision_of cycle_start_of
  facts_as = refl

  with_plan : (a b : Option TransferValue → List ℕ) → a decided ≡ b decided →
      decided_with M past agreed (running_transfer past) a ≡ decided_with M past agreed (running_transfer past) b
  with_plan a b h = rw h refl

  -- from the same agreed words a control decides what the facts say
  control_decides : StartsBefore past →
      decided_by M.rules (length past) (control_after_past M past) agreed
      ≡ decision_of M past (cycle_start_of M past) agreed
  control_decides before =
      decided_as
      ∙ ap (λ running. decided_with M past agreed running plans) (transfer_is M past (running_transfer past))
      ∙ with_plan plans (plan_of M past)
      (ap (planned_by M.rules.sweep)
      (sweeping_is M past decided
      (λ t h. tags_right M past (running_transfer past) t refl before
      (start_decided (active_set M past)
      (new_targets M.rules.channels M.rules.returning (active_set M past) (fresh_set past) agreed) agreed
      (length past) (running_transfer past) t h)))
      ∙ plan_is M past decided)
      ∙ sym facts_as

-- ---- the end of a cycle

-- what is known of the facts of a cycle: they are those of the definitions, and the tags that a transfer brings into
-- the cycle are those of its cycles so far
record AreFacts (M : MissionValue) (past : Past) (e : Cycle) : Type 0 where
  active : e.active ≡ active_set M past
  remaining : e.remaining ≡ remaining_of M past e.transfer e.planned
  joined : e.joined ≡ joined_of M.rules.last e.transfer e.remaining
  tags : (t : TransferValue) → e.transfer ≡ Some t →
      tags_for M.rules.blocks (length past) (control_after_past M past).sweeping t
      ≡ tags_of M.rules.blocks (swept_since M t.start past) []
  started : (t : TransferValue) → e.transfer ≡ Some t → nat_le t.start (length past) ≡ true

-- tags look at the members of the written blocks alone
same_tags : (blocks : ℕ) (planned a b : List ℕ) (cycles : List TransferCycle) → ((x : ℕ) → has a x ≡ has b x) →
    tags_of blocks (record { planned = planned; written = a } ∷ cycles) []
    ≡ tags_of blocks (record { planned = planned; written = b } ∷ cycles) []
unfolding tags_of
same_tags blocks planned a b cycles same =
    let d : TransferCycle = record { planned = planned; written = a } in
    let e : TransferCycle = record { planned = planned; written = b } in
    ap (λ list. record {
      blocks = blocks;
      remaining = list;
      cursor = sweep_cursor blocks (d ∷ cycles);
      written = blocks_in blocks [];
    })
    (filter_alike (remains (d ∷ cycles)) (remains (e ∷ cycles)) (numbers_below blocks)
    (λ x h. remains-step d cycles x ∙ ap (λ t. t || (not (has planned x) && remains cycles x)) (same x)
    ∙ sym (remains-step e cycles x)))

tags_noted_are : (blocks : ℕ) (cycles : List TransferCycle) (written : List ℕ) →
    tags_noted written (tags_of blocks cycles []) ≡ tags_of blocks cycles written
unfolding tags_of
tags_noted_are blocks cycles written = stand_noted (tags_of blocks cycles []) cycles written refl

tags_step : (blocks : ℕ) (planned written : List ℕ) (cycles : List TransferCycle) →
    tags_after planned written (tags_of blocks cycles [])
    ≡ tags_of blocks (record { planned = planned; written = written } ∷ cycles) []
tags_step blocks planned written cycles =
    ap (tags_closed planned) (tags_noted_are blocks cycles written) ∙ tags_close blocks cycles written planned

module _ (M : MissionValue) (past : Past) (e : Cycle) (facts : AreFacts M past e) (written : List ℕ)
    (same : (b : ℕ) → has written b ≡ has (written_blocks M (length past)) b) where
  abbrev k : ControlValue
  k = control_decided M.rules (length past) (control_after_past M past) e.decision

  -- the transfer with its tags after the decision
  brought : sweeping_for M.rules.blocks (length past) (control_after_past M past).sweeping e.transfer
      ≡ option_map (sweeping_of M past) e.transfer
  brought = sweeping_is M past e.transfer facts.tags

  swept_by : (o : Option TransferValue) → e.transfer ≡ o →
      sweeping_after e.planned written (option_map (sweeping_of M past) o) ≡ option_map (sweeping_of M (e ∷ past)) o
  swept_by None h = refl
  swept_by (Some t) h =
      let cycles = swept_since M t.start past in
      let step = tags_step M.rules.blocks e.planned written cycles
      ∙ same_tags M.rules.blocks e.planned written (written_blocks M (length past)) cycles same in
      ap (λ tags. Some (record { transfer = t; tags = tags }))
      (step ∙ ap (λ cs. tags_of M.rules.blocks cs [])
      (sym (since (nat_le t.start (length past)) (facts.started t h))))
    where
      since : (b : Bool) → b ≡ true →
          (if b then record { planned = e.planned; written = written_blocks M (length past) }
          ∷ swept_since M t.start past else [])
          ≡ record { planned = e.planned; written = written_blocks M (length past) } ∷ swept_since M t.start past
      since true h = refl
      since false h = absurd cc

  swept : sweeping_after e.planned written
      (sweeping_for M.rules.blocks (length past) (control_after_past M past).sweeping e.transfer)
      ≡ option_map (sweeping_of M (e ∷ past)) e.transfer
  swept = ap (sweeping_after e.planned written) brought ∙ swept_by e.transfer refl

  remains_by : (o : Option TransferValue) → e.transfer ≡ o →
      controls.blocks_remaining (option_map (sweeping_of M (e ∷ past)) o) ≡ remaining_of M past o e.planned
  unfolding tags_of
  remains_by None h = refl
  remains_by (Some t) h = rw (facts.started t h) refl

  remains_are : controls.blocks_remaining (option_map (sweeping_of M (e ∷ past)) e.transfer) ≡ e.remaining
  remains_are = remains_by e.transfer refl ∙ sym facts.remaining

  joined_is : joined_by M.rules.last (option_map (sweeping_of M (e ∷ past)) e.transfer) ≡ e.joined
  joined_is =
      ap (λ o. joined_of M.rules.last o (controls.blocks_remaining (option_map (sweeping_of M (e ∷ past)) e.transfer)))
      (transfer_is M (e ∷ past) e.transfer)
      ∙ ap (joined_of M.rules.last e.transfer) remains_are
      ∙ sym facts.joined

  goes_on_alike : (joined : ChannelSet) (o : Option TransferValue) →
      goes_on joined (option_map (sweeping_of M (e ∷ past)) o)
      ≡ option_map (sweeping_of M (e ∷ past)) (if_empty joined o)
  goes_on_alike [] o = refl
  goes_on_alike (q ∷ joined) o = refl

  -- a closed control, by its parts
  abbrev closed_with : ChannelSet → Option SweepingValue → ChannelSet → ControlValue
  closed_with active sweeping joined =
      record {
        active = active_after active e.removed joined;
        fresh = joined;
        counts = counts_carried (active_after active e.removed joined) joined e.counts;
        sweeping = goes_on joined sweeping;
      }

  closed_as : control_closed M.rules.last e.removed e.planned written k
      ≡ closed_with (active_set M past)
      (sweeping_after e.planned written
      (sweeping_for M.rules.blocks (length past) (control_after_past M past).sweeping e.transfer))
      (joined_by M.rules.last (sweeping_after e.planned written
      (sweeping_for M.rules.blocks (length past) (control_after_past M past).sweeping e.transfer)))
  unfolding control_closed control_decided
  closed_as = refl

  -- the control of the next cycle
  control_closes : control_closed M.rules.last e.removed e.planned written k ≡ control_after_past M (e ∷ past)
  control_closes =
      closed_as
      ∙ ap (λ s. closed_with (active_set M past) s (joined_by M.rules.last s)) swept
      ∙ ap (closed_with (active_set M past) (option_map (sweeping_of M (e ∷ past)) e.transfer)) joined_is
      ∙ ap (λ active. closed_with active (option_map (sweeping_of M (e ∷ past)) e.transfer) e.joined) (sym facts.active)
      ∙ ap (λ s. record {
        active = active_set M (e ∷ past);
        fresh = e.joined;
        counts = base_counts M (e ∷ past);
        sweeping = s;
      }) (goes_on_alike e.joined e.transfer)

  -- ---- the answer

  abbrev answer_with : Option SweepingValue → ChannelSet → ClosedValue
  answer_with sweeping joined =
      record {
        joined = joined;
        start = start_if_joined joined sweeping;
        remaining = option_map (λ s. length s.tags.remaining) sweeping;
        rest = rest_if_joined joined sweeping;
      }

  answer_as : closed_by M.rules.last e.planned written k
      ≡ answer_with (sweeping_after e.planned written
      (sweeping_for M.rules.blocks (length past) (control_after_past M past).sweeping e.transfer))
      (joined_by M.rules.last (sweeping_after e.planned written
      (sweeping_for M.rules.blocks (length past) (control_after_past M past).sweeping e.transfer)))
  unfolding closed_by control_decided
  answer_as = refl

  start_alike : (joined : ChannelSet) (o : Option TransferValue) →
      start_if_joined joined (option_map (sweeping_of M (e ∷ past)) o) ≡ if_joined joined (start_of o) 0
  start_alike [] o = refl
  start_alike (q ∷ joined) None = refl
  start_alike (q ∷ joined) (Some t) = refl

  rest_alike : (joined : ChannelSet) (s : Option SweepingValue) (rest : List ℕ) → controls.blocks_remaining s ≡ rest →
      rest_if_joined joined s ≡ if_joined joined rest []
  rest_alike [] s rest h = refl
  rest_alike (q ∷ joined) s rest h = h

  count_by : (o : Option TransferValue) (rest : List ℕ) →
      controls.blocks_remaining (option_map (sweeping_of M (e ∷ past)) o) ≡ rest →
      option_map (λ s. length s.tags.remaining) (option_map (sweeping_of M (e ∷ past)) o)
      ≡ option_map (λ t. length rest) o
  count_by None rest h = refl
  count_by (Some t) rest h = ap (λ xs. Some (length xs)) h

  control_answers : closed_by M.rules.last e.planned written k ≡ closed_of e
  control_answers =
      let s = option_map (sweeping_of M (e ∷ past)) e.transfer in
      let of_parts : ℕ → Option ℕ → List ℕ →
      ClosedValue = λ start remaining rest.
      record { joined = e.joined; start = start; remaining = remaining; rest = rest } in
      answer_as
      ∙ ap (λ s. answer_with s (joined_by M.rules.last s)) swept
      ∙ ap (answer_with s) joined_is
      ∙ ap (λ start. of_parts start (option_map (λ s. length s.tags.remaining) s) (rest_if_joined e.joined s))
      (start_alike e.joined e.transfer)
      ∙ ap (λ n. of_parts (if_joined e.joined (start_of e.transfer) 0) n (rest_if_joined e.joined s))
      (count_by e.transfer e.remaining remains_are)
      ∙ ap (of_parts (if_joined e.joined (start_of e.transfer) 0) (remaining_in e))
      (rest_alike e.joined s e.remaining remains_are)

-- ---- all cycles

module _ (M : MissionValue) (L : Log) (past : Past) where
  start_now : (t : TransferValue) → (next_cycle M L past).transfer ≡ Some t →
      StartOf (running_transfer past) (length past) t
  unfolding cycle_from decision_of cycle_start_of
  start_now t h =
      let o = cycle_start_of M past in
      let agreed = (agreement_of M (entries_of (length past) L) past o).agreed in
      start_decided o.active (new_targets M.rules.channels M.rules.returning o.active o.fresh agreed) agreed
      (length past) (running_transfer past) t h

  active_is : (next_cycle M L past).active ≡ active_set M past
  unfolding cycle_from cycle_start_of
  active_is = refl

  remaining_is : (next_cycle M L past).remaining
      ≡ remaining_of M past (next_cycle M L past).transfer (next_cycle M L past).planned
  unfolding cycle_from work_of
  remaining_is = refl

  joined_now : (next_cycle M L past).joined
      ≡ joined_of M.rules.last (next_cycle M L past).transfer (next_cycle M L past).remaining
  unfolding cycle_from work_of
  joined_now = refl

  opening_is : (next_cycle M L past).opening ≡ cycle_start_of M past
  unfolding cycle_from
  opening_is = refl

  facts_of : StartsBefore past → AreFacts M past (next_cycle M L past)
  facts_of before =
      record {
        active = active_is;
        remaining = remaining_is;
        joined = joined_now;
        tags = λ t h. tags_right M past (running_transfer past) t refl before (start_now t h);
        started = λ t h. le-leb t.start (length past)
            (at_most past (running_transfer past) t refl before (start_now t h));
      }

  still_before : StartsBefore past → StartsBefore (next_cycle M L past ∷ past)
  still_before before t h =
      let on = runs_on (next_cycle M L past).joined (next_cycle M L past).transfer t h in
      omega (arith, at_most past (running_transfer past) t refl before (start_now t on))

  follows_now : StartsBefore past → ControlFollows M past (next_cycle M L past)
  follows_now before =
      record {
        decides = λ agreed. control_decides M past agreed before
            ∙ ap (λ o. decision_of M past o agreed) (sym opening_is);
        closes = λ written same. control_closes M past (next_cycle M L past) (facts_of before) written same;
        answers = λ written same. control_answers M past (next_cycle M L past) (facts_of before) written same;
      }

all_before : (M : MissionValue) (L : Log) (n : ℕ) → StartsBefore (cycles_before M L n)
all_before M L zero = λ t h. absurd cc
all_before M L (suc n) = still_before M L (cycles_before M L n) (all_before M L n)

-- in every cycle a control decides and closes as the facts say
pub controls_follow : (M : MissionValue) (L : Log) (n : ℕ) →
    ControlFollows M (cycles_before M L n) (next_cycle M L (cycles_before M L n))
controls_follow M L n = follows_now M L (cycles_before M L n) (all_before M L n)
