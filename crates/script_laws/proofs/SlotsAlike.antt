-- One cycle of two runs of one mission over a bus that does what the script says: as far as both came in it, they have
-- the same facts, wherever copies fell.
use Rattle.std.proofs.Common.{◌≡◌, ℕ, zero, suc, ◌+◌, ◌-◌, ◌≤◌, ◌==◌, Bool, true, false, cond, not, ◌&&◌, List, [], ◌∷◌, length, map, Option, None, Some, ℤ, refl, sym, ap, subst, ◌∙◌, arith}
use Rattle.std.specs.Prelude.{nat_lt, nat_le, find, option_map, option_and_then, if◌then◌else◌}
use Rattle.std.specs.List.{AllByRecursion}
use Rattle.std.proofs.Math.Path.{fun_ext}
use Rattle.guards_model.specs.declared.Slot.{Slot}
use Rattle.guards_model.specs.declared.Slot.TheVariants.{Request, Round1, Round2, Round3, Tasks, Vote, Sweep, Final, Switch, Output}
use Rattle.guards_model.specs.Slots.{up_to, same_slot}
use Rattle.guards_model.specs.Channels.{Channel, ChannelSet, has, place_or, by_channel, tolerated_faults}
use Rattle.guards_model.specs.Contexts.{ContextValue}
use Rattle.guards_model.specs.Tasks.{whole}
use Rattle.guards_model.specs.BusRules.{RuleValue}
use Rattle.guards_model.specs.Missions.{MissionValue, bus_rules, format_of, cycle_writes, output_words}
use Rattle.guards_model.specs.Frames.{SourceValue, ItemValue, BodyValue, request_body, exchange_body, vote_body, spelling}
use Rattle.guards_model.specs.Fields.{frame_in}
use Rattle.guards_model.specs.Network.{EntryValue, Log, is_carry, counting, items_of, ballot_of, have_of}
use Rattle.guards_model.specs.ScriptedBus.{IsScripted, delivered_by}
use Rattle.guards_model.specs.OralMessages.{items_owed, agreed_by}
use Rattle.guards_model.specs.Voting.{Ballots, inputs_of, vote_of, accused_of}
use Rattle.guards_model.specs.Diagnosis.{Agreed, judged_of, counts_of, removed_of}
use Rattle.guards_model.specs.Transfers.{TransferValue, transfer_after}
use Rattle.guards_model.specs.Decisions.{DecisionValue, request_code, joined_of}
use Rattle.guards_model.specs.Modes.{down, is_up, is_joining}
use Rattle.guards_runs.specs.Cycles.{Cycle, CycleStart, Agreement, CycleResult, Past, ideal_after, source_word, received_items, received_body, items_in, first_up, agreement_of, plan_of, decision_of, remaining_of, work_of, cycle_from, next_cycle}
use Rattle.guards_runs.specs.Due.{IsDue, exchange_of, context_or_none, owed}
use Rattle.guards_runs.specs.SameFacts.{without_entries, HaveSameFacts}
use Rattle.guards_model.proofs.SlotTests.{up_to-trans}
use Rattle.guards_laws.proofs.CycleParts.{by_channel-same}
use Rattle.guards_laws.proofs.SlotsStand.{owed_alike}
use Rattle.script_laws.proofs.SamePast.{same_size, same_opening, same_held, same_source, same_plan, same_ideal, same_remaining}
use Rattle.script_laws.proofs.CarriesDue.{is_sent, IsDueThrough, carry, nothing_if, found_if}

-- ---- entries that the script makes

abbrev scripted_entry : List RuleValue → ℕ → Slot → ℕ → ℕ → List ℕ → EntryValue
scripted_entry rules c slot from to sent =
    record {
      cycle = c;
      slot = slot;
      from = from;
      to = to;
      sent = sent;
      delivered = delivered_by rules c slot from to sent;
    }

is_scripted : (rules : List RuleValue) (y : EntryValue) (c : ℕ) (slot : Slot) (from to : ℕ) (sent : List ℕ) →
    y.cycle ≡ c → y.slot ≡ slot → y.from ≡ from → y.to ≡ to → y.sent ≡ sent →
    IsScripted rules y → y ≡ scripted_entry rules c slot from to sent
is_scripted rules y c slot from to sent p q r s t h =
    let D : Option (List ℕ) →
    EntryValue = λ d. record {
      cycle = y.cycle;
      slot = y.slot;
      from = y.from;
      to = y.to;
      sent = y.sent;
      delivered = d;
    } in
    ap D h
    ∙ ap (λ k. scripted_entry rules k y.slot y.from y.to y.sent) p
    ∙ ap (λ k. scripted_entry rules c k y.from y.to y.sent) q
    ∙ ap (λ k. scripted_entry rules c slot k y.to y.sent) r
    ∙ ap (λ k. scripted_entry rules c slot from k y.sent) s
    ∙ ap (scripted_entry rules c slot from to) t

some_is : (x y : EntryValue) → Some x ≡ Some y → x ≡ y
some_is x y h = cc

pub all_of_find : (P : EntryValue → Type 0) (p : EntryValue → Bool) (xs : Log) (y : EntryValue) → AllByRecursion P xs →
    find p xs ≡ Some y → P y
all_of_find P p [] y all h = absurd cc
all_of_find P p (x ∷ xs) y all h = by_test (p x) h (all_of_find P p xs y all.1)
  where
    by_test : (b : Bool) → cond b (Some x) (find p xs) ≡ Some y → (find p xs ≡ Some y → P y) → P y
    by_test true k rest = subst P (some_is x y k) all.0
    by_test false k rest = rest k

-- a slot up to which both came
pub record InBoth (last other slot : Slot) : Type 0 where
  pub first : up_to slot last ≡ true
  pub second : up_to slot other ≡ true

pub earlier : (last other a b : Slot) → up_to a b ≡ true → InBoth last other b → InBoth last other a
earlier last other a b soon h =
    record { first = up_to-trans a b last soon h.first; second = up_to-trans a b other soon h.second }

-- what both runs have in the cycle, each as far as it came
pub record AreBesides (M : MissionValue) (L K : Log) (P R : Past) (last other : Slot) : Type 0 where
  pub same : HaveSameFacts P R
  pub due_first : IsDueThrough M P (next_cycle M L P) last
  pub due_second : IsDueThrough M R (next_cycle M K R) other
  pub script_first : AllByRecursion (IsScripted (bus_rules M)) (next_cycle M L P).entries
  pub script_second : AllByRecursion (IsScripted (bus_rules M)) (next_cycle M K R).entries

module _ (M : MissionValue) (L K : Log) (P R : Past) (last other : Slot) (two : AreBesides M L K P R last other) where
  abbrev e : Cycle
  e = next_cycle M L P

  abbrev d : Cycle
  d = next_cycle M K R

  pub same_start : e.opening ≡ d.opening
  unfolding cycle_from
  same_start = same_opening P R two.same M

  -- what both have of a carry
  find_same : (slot : Slot) → InBoth last other slot → (from to : ℕ) (bytes_e bytes_d : List ℕ) →
      is_sent e slot from to ≡ is_sent d slot from to →
      ((y : EntryValue) → IsDue M P e (carry M P e slot from to) y → y.sent ≡ bytes_e) →
      ((y : EntryValue) → IsDue M R d (carry M R d slot from to) y → y.sent ≡ bytes_d) → bytes_e ≡ bytes_d →
      find (is_carry (length P) slot from to) e.entries ≡ find (is_carry (length R) slot from to) d.entries
  find_same slot in_both from to bytes_e bytes_d test sent_e sent_d bytes = by_test (is_sent e slot from to) refl
    where
      by_test : (b : Bool) → is_sent e slot from to ≡ b →
          find (is_carry (length P) slot from to) e.entries ≡ find (is_carry (length R) slot from to) d.entries
      by_test true sent =
          let f = found_if M P e slot from to last two.due_first in_both.first sent in
          let g = found_if M R d slot from to other two.due_second in_both.second (sym test ∙ sent) in
          let a : f.entry ≡ scripted_entry (bus_rules M) (length P) slot from to bytes_e =
          is_scripted (bus_rules M) f.entry (length P) slot from to bytes_e f.is_due.cycle f.is_due.slot f.is_due.from
          f.is_due.to (sent_e f.entry f.is_due)
          (all_of_find (IsScripted (bus_rules M)) (is_carry (length P) slot from to) e.entries f.entry two.script_first
          f.is_first) in
          let b : g.entry ≡ scripted_entry (bus_rules M) (length R) slot from to bytes_d =
          is_scripted (bus_rules M) g.entry (length R) slot from to bytes_d g.is_due.cycle g.is_due.slot g.is_due.from
          g.is_due.to (sent_d g.entry g.is_due)
          (all_of_find (IsScripted (bus_rules M)) (is_carry (length R) slot from to) d.entries g.entry two.script_second
          g.is_first) in
          f.is_first
          ∙ ap (λ (y : EntryValue). Some y)
          (a ∙ ap (λ k. scripted_entry (bus_rules M) k slot from to bytes_e) (same_size P R two.same)
          ∙ ap (scripted_entry (bus_rules M) (length R) slot from to) bytes ∙ sym b)
          ∙ sym g.is_first
      by_test false silent = nothing_if M P e slot from to last two.due_first silent
          ∙ sym (nothing_if M R d slot from to other two.due_second (sym test ∙ silent))

  received_same : (slot : Slot) (from to : ℕ) →
      find (is_carry (length P) slot from to) e.entries ≡ find (is_carry (length R) slot from to) d.entries →
      received_body M e.entries (length P) slot from to ≡ received_body M d.entries (length R) slot from to
  received_same slot from to found =
      let B : ℕ → Option EntryValue → Option BodyValue =
      λ k o. option_and_then (counting (format_of M) k slot from to)
      (option_and_then frame_in (option_and_then (λ (y : EntryValue). y.delivered) o)) in
      ap (λ k. B k (find (is_carry (length P) slot from to) e.entries)) (same_size P R two.same)
      ∙ ap (B (length R)) found

  -- the bytes of a body
  pub bytes_same : (from : ℕ) (a b : BodyValue) → a ≡ b →
      spelling (record { version = M.rules.version; sender = from; cycle = length P; body = a })
      ≡ spelling (record { version = M.rules.version; sender = from; cycle = length R; body = b })
  bytes_same from a b h =
      let S : ℕ → BodyValue → List ℕ =
      λ c body. spelling (record { version = M.rules.version; sender = from; cycle = c; body = body }) in
      ap (λ c. S c a) (same_size P R two.same) ∙ ap (S (length R)) h

  -- ---- requests

  request_owed : (from to : ℕ) → owed M P e Request from to [] ≡ owed M R d Request from to []
  request_owed from to = ap request_body (same_held P R two.same from)

  request_test : (from to : ℕ) → is_sent e Request from to ≡ is_sent d Request from to
  request_test from to = ap
      (λ (o : CycleStart). (nat_lt from 7 && is_joining (place_or (place_or o.modes 0 []) from down))
      && (has o.active to && not (from == to))) same_start

  request_same : InBoth last other Request → (from to : ℕ) →
      received_body M e.entries (length P) Request from to ≡ received_body M d.entries (length R) Request from to
  request_same h from to =
      received_same Request from to
      (find_same Request h from to _ _ (request_test from to) (λ y due. due.sent) (λ y due. due.sent)
      (bytes_same from (owed M P e Request from to []) (owed M R d Request from to []) (request_owed from to)))

  -- ---- the rounds

  abbrev had_e : Channel → ℕ → Channel → List ItemValue
  had_e p = items_in (received_items M e.entries (length P) p)

  abbrev had_d : Channel → ℕ → Channel → List ItemValue
  had_d p = items_in (received_items M d.entries (length R) p)

  exchange_same : (round : ℕ) (q : Channel) →
      ((r : ℕ) (j : Channel) → 1 ≤ r → r ≤ round - 1 → had_e q r j ≡ had_d q r j) →
      exchange_of M P e round q ≡ exchange_of M R d round q
  exchange_same round q had =
      let X : ChannelSet → SourceValue → (ℕ → Channel → List ItemValue) →
      BodyValue = λ active own received.
      exchange_body (record { round = round; items = items_owed active M.width q own received round }) in
      ap (λ (o : CycleStart). X o.active (source_word M P q) (had_e q)) same_start
      ∙ ap (λ own. X d.active own (had_e q)) (same_source P R two.same M q)
      ∙ ap (λ items. exchange_body (record { round = round; items = items }))
      (owed_alike d.active M.width q (source_word M R q) (had_e q) (had_d q) round had)

  round_test : (k : ℕ) (from to : ℕ) →
      (nat_le k (tolerated_faults e.active + 1)
      && ((nat_lt from 7 && (has e.active from && is_up (place_or (place_or e.modes k []) from down)))
      && (has e.active to && not (from == to))))
      ≡ (nat_le k (tolerated_faults d.active + 1)
      && ((nat_lt from 7 && (has d.active from && is_up (place_or (place_or d.modes k []) from down)))
      && (has d.active to && not (from == to))))
  round_test k from to =
      ap (λ (o : CycleStart). nat_le k (tolerated_faults o.active + 1)
      && ((nat_lt from 7 && (has o.active from && is_up (place_or (place_or o.modes k []) from down)))
      && (has o.active to && not (from == to)))) same_start

  none_before : (q : Channel) (r : ℕ) (j : Channel) → 1 ≤ r → r ≤ 0 → had_e q r j ≡ had_d q r j
  none_before q r j low high = absurd (omega (arith, low, high))

  round1_owed : (from : ℕ) → exchange_of M P e 1 from ≡ exchange_of M R d 1 from
  round1_owed from = exchange_same 1 from (none_before from)

  round1_same : InBoth last other Round1 → (from to : ℕ) →
      received_body M e.entries (length P) Round1 from to ≡ received_body M d.entries (length R) Round1 from to
  round1_same h from to =
      received_same Round1 from to
      (find_same Round1 h from to _ _ (round_test 1 from to) (λ y due. due.sent) (λ y due. due.sent)
      (bytes_same from (exchange_of M P e 1 from) (exchange_of M R d 1 from) (round1_owed from)))

  table_same : (slot : Slot) →
      ((from to : ℕ) → received_body M e.entries (length P) slot from to
      ≡ received_body M d.entries (length R) slot from to) → (p : Channel) →
      by_channel (λ j. items_of (received_body M e.entries (length P) slot j p))
      ≡ by_channel (λ j. items_of (received_body M d.entries (length R) slot j p))
  table_same slot got p =
      by_channel-same (λ j. items_of (received_body M e.entries (length P) slot j p))
      (λ j. items_of (received_body M d.entries (length R) slot j p)) (λ j low. ap items_of (got j p))

  one_before : InBoth last other Round1 → (q : Channel) (r : ℕ) (j : Channel) → 1 ≤ r → r ≤ 1 →
      had_e q r j ≡ had_d q r j
  one_before h q zero j low high = absurd (omega (arith, low))
  one_before h q (suc zero) j low high = ap (λ t. place_or t j []) (table_same Round1 (round1_same h) q)
  one_before h q (suc (suc r)) j low high = absurd (omega (arith, high))

  round2_owed : InBoth last other Round2 → (from : ℕ) → exchange_of M P e 2 from ≡ exchange_of M R d 2 from
  round2_owed h from = exchange_same 2 from (one_before (earlier last other Round1 Round2 refl h) from)

  round2_same : InBoth last other Round2 → (from to : ℕ) →
      received_body M e.entries (length P) Round2 from to ≡ received_body M d.entries (length R) Round2 from to
  round2_same h from to =
      received_same Round2 from to
      (find_same Round2 h from to _ _ (round_test 2 from to) (λ y due. due.sent) (λ y due. due.sent)
      (bytes_same from (exchange_of M P e 2 from) (exchange_of M R d 2 from) (round2_owed h from)))

  two_before : InBoth last other Round2 → (q : Channel) (r : ℕ) (j : Channel) → 1 ≤ r → r ≤ 2 →
      had_e q r j ≡ had_d q r j
  two_before h q zero j low high = absurd (omega (arith, low))
  two_before h q (suc zero) j low high =
      ap (λ t. place_or t j []) (table_same Round1 (round1_same (earlier last other Round1 Round2 refl h)) q)
  two_before h q (suc (suc zero)) j low high = ap (λ t. place_or t j []) (table_same Round2 (round2_same h) q)
  two_before h q (suc (suc (suc r))) j low high = absurd (omega (arith, high))

  round3_owed : InBoth last other Round3 → (from : ℕ) → exchange_of M P e 3 from ≡ exchange_of M R d 3 from
  round3_owed h from = exchange_same 3 from (two_before (earlier last other Round2 Round3 refl h) from)

  round3_same : InBoth last other Round3 → (from to : ℕ) →
      received_body M e.entries (length P) Round3 from to ≡ received_body M d.entries (length R) Round3 from to
  round3_same h from to =
      received_same Round3 from to
      (find_same Round3 h from to _ _ (round_test 3 from to) (λ y due. due.sent) (λ y due. due.sent)
      (bytes_same from (exchange_of M P e 3 from) (exchange_of M R d 3 from) (round3_owed h from)))

  items_same : InBoth last other Round3 → (p : Channel) →
      received_items M e.entries (length P) p ≡ received_items M d.entries (length R) p
  items_same h p =
      let T : Slot → List (List ItemValue) =
      λ slot. by_channel (λ j. items_of (received_body M e.entries (length P) slot j p)) in
      let U : Slot → List (List ItemValue) =
      λ slot. by_channel (λ j. items_of (received_body M d.entries (length R) slot j p)) in
      ap (λ t. t ∷ T Round2 ∷ T Round3 ∷ [])
      (table_same Round1 (round1_same (earlier last other Round1 Round3 refl h)) p)
      ∙ ap (λ t. U Round1 ∷ t ∷ T Round3 ∷ [])
      (table_same Round2 (round2_same (earlier last other Round2 Round3 refl h)) p)
      ∙ ap (λ t. U Round1 ∷ U Round2 ∷ t ∷ []) (table_same Round3 (round3_same h) p)

  -- ---- the agreement and the decision

  abbrev agreement_with : CycleStart → (Channel → SourceValue) → (Channel → List (List (List ItemValue))) → Agreement
  agreement_with o own items =
      let p = first_up o.modes o.active in
      let agreed : Agreed = agreed_by o.active M.width p (own p) (items_in (items p)) in
      record { agreed = agreed; inputs = inputs_of M.width agreed }

  agreement_e : e.agreement ≡ agreement_with e.opening (source_word M P) (received_items M e.entries (length P))
  unfolding cycle_from agreement_of
  agreement_e = refl

  agreement_d : d.agreement ≡ agreement_with d.opening (source_word M R) (received_items M d.entries (length R))
  unfolding cycle_from agreement_of
  agreement_d = refl

  same_agreement : InBoth last other Round3 → e.agreement ≡ d.agreement
  same_agreement h =
      agreement_e
      ∙ ap (λ o. agreement_with o (source_word M P) (received_items M e.entries (length P))) same_start
      ∙ ap (λ (own : Channel → SourceValue). agreement_with d.opening own (received_items M e.entries (length P)))
      (fun_ext (same_source P R two.same M))
      ∙ ap (agreement_with d.opening (source_word M R)) (fun_ext (items_same h))
      ∙ sym agreement_d

  abbrev decision_with : ℕ → CycleStart → Agreed → (Option TransferValue → List ℕ) → DecisionValue
  decision_with c o agreed plans =
      let judged : ChannelSet = judged_of o.active agreed in
      let counts : List ℕ = counts_of M.rules.law M.rules.keep M.rules.decrement o.active judged o.counts_before in
      let transfer : Option TransferValue =
      transfer_after M.rules.channels M.rules.returning o.active o.fresh agreed c o.running in
      record {
        judged = judged;
        counts = counts;
        removed = removed_of M.rules.threshold o.active o.fresh agreed counts;
        transfer = transfer;
        planned = plans transfer;
      }

  decision_e : e.decision ≡ decision_with (length P) e.opening e.agreed (plan_of M P)
  unfolding cycle_from decision_of
  decision_e = refl

  decision_d : d.decision ≡ decision_with (length R) d.opening d.agreed (plan_of M R)
  unfolding cycle_from decision_of
  decision_d = refl

  same_decision : InBoth last other Round3 → e.decision ≡ d.decision
  same_decision h =
      decision_e
      ∙ ap (λ c. decision_with c e.opening e.agreed (plan_of M P)) (same_size P R two.same)
      ∙ ap (λ o. decision_with (length R) o e.agreed (plan_of M P)) same_start
      ∙ ap (λ (a : Agreement). decision_with (length R) d.opening a.agreed (plan_of M P)) (same_agreement h)
      ∙ ap (λ (plans : Option TransferValue → List ℕ). decision_with (length R) d.opening d.agreed plans)
      (fun_ext (same_plan P R two.same M))
      ∙ sym decision_d

  -- ---- the work

  abbrev contexts_with : ℕ → CycleStart → List ℤ → List (Option ContextValue)
  contexts_with c o inputs = map (option_map (λ ctx. whole (cycle_writes M c) ctx c inputs)) o.contexts_before

  contexts_e : e.contexts_after ≡ contexts_with (length P) e.opening e.inputs
  unfolding cycle_from work_of
  contexts_e = refl

  contexts_d : d.contexts_after ≡ contexts_with (length R) d.opening d.inputs
  unfolding cycle_from work_of
  contexts_d = refl

  same_contexts : InBoth last other Round3 → e.contexts_after ≡ d.contexts_after
  same_contexts h =
      contexts_e
      ∙ ap (λ c. contexts_with c e.opening e.inputs) (same_size P R two.same)
      ∙ ap (λ o. contexts_with (length R) o e.inputs) same_start
      ∙ ap (λ (a : Agreement). contexts_with (length R) d.opening a.inputs) (same_agreement h)
      ∙ sym contexts_d

  vote_owed : InBoth last other Vote → (from to : ℕ) → owed M P e Vote from to [] ≡ owed M R d Vote from to []
  vote_owed h from to = ap (λ cs. vote_body (output_words M (context_or_none (place_or cs from None))))
      (same_contexts (earlier last other Round3 Vote refl h))

  vote_test : (from to : ℕ) → is_sent e Vote from to ≡ is_sent d Vote from to
  vote_test from to =
      ap (λ (o : CycleStart). (nat_lt from 7
      && (has o.active from && is_up (place_or (place_or o.modes 5 []) from down)))
      && (has o.active to && not (from == to))) same_start

  vote_same : InBoth last other Vote → (from to : ℕ) →
      received_body M e.entries (length P) Vote from to ≡ received_body M d.entries (length R) Vote from to
  vote_same h from to =
      received_same Vote from to
      (find_same Vote h from to _ _ (vote_test from to) (λ y due. due.sent) (λ y due. due.sent)
      (bytes_same from (owed M P e Vote from to []) (owed M R d Vote from to []) (vote_owed h from to)))

  abbrev work_with : ℕ → CycleStart → List ℤ → DecisionValue → ContextValue → (Option TransferValue → List ℕ → List ℕ) →
      (Channel → Channel → Option BodyValue) → (Channel → Channel → Option BodyValue) → CycleResult
  work_with c o inputs k ideal rest requests votes =
      let work : ContextValue → ContextValue = λ ctx. whole (cycle_writes M c) ctx c inputs in
      let held : List (Option ContextValue) = map (option_map work) o.contexts_before in
      let ballots : List Ballots =
      by_channel (λ p. if has o.active p
      then by_channel (λ j. if j == p then option_map (output_words M) (place_or held p None)
      else ballot_of (votes j p)) else []) in
      let voted : List (List (Option ℤ)) = map (vote_of o.active (length M.outputs)) ballots in
      let remaining_blocks : List ℕ = rest k.transfer k.planned in
      record {
        ideal_context = work ideal;
        contexts_after = held;
        request_codes = by_channel (λ p. by_channel (λ q. request_code o.running q (have_of (requests q p))));
        voted = voted;
        accusations = by_channel (λ p. accused_of o.active (place_or ballots p []) (place_or voted p []));
        remaining = remaining_blocks;
        joined = joined_of M.rules.last k.transfer remaining_blocks;
      }

  work_e : e.work ≡ work_with (length P) e.opening e.inputs e.decision (ideal_after M P) (remaining_of M P)
      (received_body M e.entries (length P) Request) (received_body M e.entries (length P) Vote)
  unfolding cycle_from work_of
  work_e = refl

  work_d : d.work ≡ work_with (length R) d.opening d.inputs d.decision (ideal_after M R) (remaining_of M R)
      (received_body M d.entries (length R) Request) (received_body M d.entries (length R) Vote)
  unfolding cycle_from work_of
  work_d = refl

  same_work : InBoth last other Vote → e.work ≡ d.work
  same_work h =
      let requests_e : Channel → Channel → Option BodyValue = received_body M e.entries (length P) Request in
      let requests_d : Channel → Channel → Option BodyValue = received_body M d.entries (length R) Request in
      let votes_e : Channel → Channel → Option BodyValue = received_body M e.entries (length P) Vote in
      let over = earlier last other Round3 Vote refl h in
      work_e
      ∙ ap (λ c. work_with c e.opening e.inputs e.decision (ideal_after M P) (remaining_of M P) requests_e votes_e)
      (same_size P R two.same)
      ∙ ap (λ o. work_with (length R) o e.inputs e.decision (ideal_after M P) (remaining_of M P) requests_e votes_e)
      same_start
      ∙ ap (λ (a : Agreement). work_with (length R) d.opening a.inputs e.decision (ideal_after M P) (remaining_of M P)
      requests_e votes_e) (same_agreement over)
      ∙ ap (λ k. work_with (length R) d.opening d.inputs k (ideal_after M P) (remaining_of M P) requests_e votes_e)
      (same_decision over)
      ∙ ap (λ ctx. work_with (length R) d.opening d.inputs d.decision ctx (remaining_of M P) requests_e votes_e)
      (same_ideal P R two.same M)
      ∙ ap (λ (rest : Option TransferValue → List ℕ → List ℕ).
      work_with (length R) d.opening d.inputs d.decision (ideal_after M R) rest requests_e votes_e)
      (fun_ext (λ o. fun_ext (λ planned. same_remaining P R two.same M o planned)))
      ∙ ap (λ (requests : Channel → Channel → Option BodyValue).
      work_with (length R) d.opening d.inputs d.decision (ideal_after M R) (remaining_of M R) requests votes_e)
      (fun_ext (λ q. fun_ext (λ p. request_same (earlier last other Request Vote refl h) q p)))
      ∙ ap (λ (votes : Channel → Channel → Option BodyValue).
      work_with (length R) d.opening d.inputs d.decision (ideal_after M R) (remaining_of M R) requests_d votes)
      (fun_ext (λ q. fun_ext (λ p. vote_same h q p)))
      ∙ sym work_d

  -- the facts of the cycle, once the vote is over in both
  pub cycle_same : InBoth last other Vote → without_entries e ≡ without_entries d
  cycle_same h =
      let C : CycleStart → Agreement → DecisionValue → CycleResult →
      Cycle = λ o a k w. record { entries = []; opening = o; agreement = a; decision = k; work = w } in
      let over = earlier last other Round3 Vote refl h in
      ap (λ o. C o e.agreement e.decision e.work) same_start
      ∙ ap (λ a. C d.opening a e.decision e.work) (same_agreement over)
      ∙ ap (λ k. C d.opening d.agreement k e.work) (same_decision over)
      ∙ ap (C d.opening d.agreement d.decision) (same_work h)

  -- ---- who sends what, in a slot up to which both came

  pub sent_same : (slot : Slot) → InBoth last other slot → (from to : ℕ) →
      is_sent e slot from to ≡ is_sent d slot from to
  sent_same Request h from to = request_test from to
  sent_same Round1 h from to = round_test 1 from to
  sent_same Round2 h from to = round_test 2 from to
  sent_same Round3 h from to = round_test 3 from to
  sent_same Tasks h from to = refl
  sent_same Vote h from to = vote_test from to
  sent_same Sweep h from to =
      ap (λ (x : Cycle). is_sent x Sweep from to) (cycle_same (earlier last other Vote Sweep refl h))
  sent_same Final h from to =
      ap (λ (x : Cycle). is_sent x Final from to) (cycle_same (earlier last other Vote Final refl h))
  sent_same Switch h from to =
      ap (λ (x : Cycle). is_sent x Switch from to) (cycle_same (earlier last other Vote Switch refl h))
  sent_same Output h from to = refl

  -- what is owed where no copies fall
  pub owed_same : (slot : Slot) → same_slot slot Sweep ≡ false → InBoth last other slot → (from to : ℕ) →
      owed M P e slot from to [] ≡ owed M R d slot from to []
  owed_same Request plain h from to = request_owed from to
  owed_same Round1 plain h from to = round1_owed from
  owed_same Round2 plain h from to = round2_owed h from
  owed_same Round3 plain h from to = round3_owed h from
  owed_same Tasks plain h from to = refl
  owed_same Vote plain h from to = vote_owed h from to
  owed_same Sweep plain h from to = absurd cc
  owed_same Final plain h from to =
      ap (λ (x : Cycle). owed M P x Final from to []) (cycle_same (earlier last other Vote Final refl h))
  owed_same Switch plain h from to =
      ap (λ (x : Cycle). owed M P x Switch from to []) (cycle_same (earlier last other Vote Switch refl h))
  owed_same Output plain h from to = refl
