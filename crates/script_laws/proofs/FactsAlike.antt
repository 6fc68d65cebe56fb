-- Two cycles in which the same counts as received, after pasts with the same facts, have the same facts.
use Rattle.std.proofs.Common.{◌≡◌, ℕ, ◌==◌, Bool, true, List, [], ◌∷◌, length, map, Option, None, ℤ, refl, sym, ap, ◌∙◌}
use Rattle.std.specs.Prelude.{option_map, if◌then◌else◌}
use Rattle.std.proofs.Math.Path.{fun_ext}
use Rattle.guards_model.specs.declared.Slot.{Slot}
use Rattle.guards_model.specs.declared.Slot.TheVariants.{Request, Round1, Round2, Round3, Vote}
use Rattle.guards_model.specs.Slots.{on_bus}
use Rattle.guards_model.specs.Channels.{Channel, ChannelSet, has, place_or, by_channel}
use Rattle.guards_model.specs.Contexts.{ContextValue}
use Rattle.guards_model.specs.Tasks.{whole}
use Rattle.guards_model.specs.Missions.{MissionValue, cycle_writes, output_words}
use Rattle.guards_model.specs.Frames.{SourceValue, ItemValue, BodyValue}
use Rattle.guards_model.specs.Network.{Log, items_of, ballot_of, have_of}
use Rattle.guards_model.specs.OralMessages.{agreed_by}
use Rattle.guards_model.specs.Voting.{Ballots, inputs_of, vote_of, accused_of}
use Rattle.guards_model.specs.Diagnosis.{Agreed, judged_of, counts_of, removed_of}
use Rattle.guards_model.specs.Transfers.{TransferValue, transfer_after}
use Rattle.guards_model.specs.Decisions.{DecisionValue, request_code, joined_of}
use Rattle.guards_runs.specs.Cycles.{Cycle, CycleStart, Agreement, CycleResult, Past, ideal_after, source_word, received_items, received_body, items_in, first_up, agreement_of, plan_of, decision_of, remaining_of, work_of, cycle_from}
use Rattle.guards_runs.specs.SameFacts.{without_entries, HaveSameFacts}
use Rattle.guards_laws.proofs.CycleParts.{by_channel-same}
use Rattle.script_laws.proofs.SamePast.{same_size, same_opening, same_source, same_plan, same_ideal, same_remaining}

module _ (M : MissionValue) (E D : Log) (P R : Past) (same : HaveSameFacts P R)
    (got : (slot : Slot) → on_bus slot ≡ true → (from to : ℕ) →
    received_body M E (length P) slot from to ≡ received_body M D (length R) slot from to) where
  abbrev e : Cycle
  e = cycle_from M E P

  abbrev d : Cycle
  d = cycle_from M D R

  pub same_start : e.opening ≡ d.opening
  unfolding cycle_from
  same_start = same_opening P R same M

  table_same : (slot : Slot) → on_bus slot ≡ true → (p : Channel) →
      by_channel (λ j. items_of (received_body M E (length P) slot j p))
      ≡ by_channel (λ j. items_of (received_body M D (length R) slot j p))
  table_same slot on p =
      by_channel-same (λ j. items_of (received_body M E (length P) slot j p))
      (λ j. items_of (received_body M D (length R) slot j p)) (λ j low. ap items_of (got slot on j p))

  items_same : (p : Channel) → received_items M E (length P) p ≡ received_items M D (length R) p
  items_same p =
      let T : Slot → List (List ItemValue) =
      λ slot. by_channel (λ j. items_of (received_body M E (length P) slot j p)) in
      let U : Slot → List (List ItemValue) =
      λ slot. by_channel (λ j. items_of (received_body M D (length R) slot j p)) in
      ap (λ t. t ∷ T Round2 ∷ T Round3 ∷ []) (table_same Round1 refl p)
      ∙ ap (λ t. U Round1 ∷ t ∷ T Round3 ∷ []) (table_same Round2 refl p)
      ∙ ap (λ t. U Round1 ∷ U Round2 ∷ t ∷ []) (table_same Round3 refl p)

  abbrev agreement_with : CycleStart → (Channel → SourceValue) → (Channel → List (List (List ItemValue))) → Agreement
  agreement_with o own items =
      let p = first_up o.modes o.active in
      let agreed : Agreed = agreed_by o.active M.width p (own p) (items_in (items p)) in
      record { agreed = agreed; inputs = inputs_of M.width agreed }

  agreement_e : e.agreement ≡ agreement_with e.opening (source_word M P) (received_items M E (length P))
  unfolding cycle_from agreement_of
  agreement_e = refl

  agreement_d : d.agreement ≡ agreement_with d.opening (source_word M R) (received_items M D (length R))
  unfolding cycle_from agreement_of
  agreement_d = refl

  same_agreement : e.agreement ≡ d.agreement
  same_agreement =
      agreement_e
      ∙ ap (λ o. agreement_with o (source_word M P) (received_items M E (length P))) same_start
      ∙ ap (λ (own : Channel → SourceValue). agreement_with d.opening own (received_items M E (length P)))
      (fun_ext (same_source P R same M))
      ∙ ap (agreement_with d.opening (source_word M R)) (fun_ext items_same)
      ∙ sym agreement_d

  abbrev decision_with : ℕ → CycleStart → Agreed → (Option TransferValue → List ℕ) → DecisionValue
  decision_with c o agreed plans =
      let judged : ChannelSet = judged_of o.active agreed in
      let counts : List ℕ = counts_of M.rules.law M.rules.keep M.rules.decrement o.active judged o.counts_before in
      let transfer : Option TransferValue =
      transfer_after M.rules.channels M.rules.returning o.active o.fresh agreed c o.running in
      record {
        judged = judged;
        counts = counts;
        removed = removed_of M.rules.threshold o.active o.fresh agreed counts;
        transfer = transfer;
        planned = plans transfer;
      }

  decision_e : e.decision ≡ decision_with (length P) e.opening e.agreed (plan_of M P)
  unfolding cycle_from decision_of
  decision_e = refl

  decision_d : d.decision ≡ decision_with (length R) d.opening d.agreed (plan_of M R)
  unfolding cycle_from decision_of
  decision_d = refl

  same_decision : e.decision ≡ d.decision
  same_decision =
      decision_e
      ∙ ap (λ c. decision_with c e.opening e.agreed (plan_of M P)) (same_size P R same)
      ∙ ap (λ o. decision_with (length R) o e.agreed (plan_of M P)) same_start
      ∙ ap (λ (a : Agreement). decision_with (length R) d.opening a.agreed (plan_of M P)) same_agreement
      ∙ ap (λ (plans : Option TransferValue → List ℕ). decision_with (length R) d.opening d.agreed plans)
      (fun_ext (same_plan P R same M))
      ∙ sym decision_d

  abbrev work_with : ℕ → CycleStart → List ℤ → DecisionValue → ContextValue → (Option TransferValue → List ℕ → List ℕ) →
      (Channel → Channel → Option BodyValue) → (Channel → Channel → Option BodyValue) → CycleResult
  work_with c o inputs k ideal rest requests votes =
      let work : ContextValue → ContextValue = λ ctx. whole (cycle_writes M c) ctx c inputs in
      let held : List (Option ContextValue) = map (option_map work) o.contexts_before in
      let ballots : List Ballots =
      by_channel (λ p. if has o.active p
      then by_channel (λ j. if j == p then option_map (output_words M) (place_or held p None)
      else ballot_of (votes j p)) else []) in
      let voted : List (List (Option ℤ)) = map (vote_of o.active (length M.outputs)) ballots in
      let remaining_blocks : List ℕ = rest k.transfer k.planned in
      record {
        ideal_context = work ideal;
        contexts_after = held;
        request_codes = by_channel (λ p. by_channel (λ q. request_code o.running q (have_of (requests q p))));
        voted = voted;
        accusations = by_channel (λ p. accused_of o.active (place_or ballots p []) (place_or voted p []));
        remaining = remaining_blocks;
        joined = joined_of M.rules.last k.transfer remaining_blocks;
      }

  work_e : e.work ≡ work_with (length P) e.opening e.inputs e.decision (ideal_after M P) (remaining_of M P)
      (received_body M E (length P) Request) (received_body M E (length P) Vote)
  unfolding cycle_from work_of
  work_e = refl

  work_d : d.work ≡ work_with (length R) d.opening d.inputs d.decision (ideal_after M R) (remaining_of M R)
      (received_body M D (length R) Request) (received_body M D (length R) Vote)
  unfolding cycle_from work_of
  work_d = refl

  same_work : e.work ≡ d.work
  same_work =
      let requests_e : Channel → Channel → Option BodyValue = received_body M E (length P) Request in
      let requests_d : Channel → Channel → Option BodyValue = received_body M D (length R) Request in
      let votes_e : Channel → Channel → Option BodyValue = received_body M E (length P) Vote in
      work_e
      ∙ ap (λ c. work_with c e.opening e.inputs e.decision (ideal_after M P) (remaining_of M P) requests_e votes_e)
      (same_size P R same)
      ∙ ap (λ o. work_with (length R) o e.inputs e.decision (ideal_after M P) (remaining_of M P) requests_e votes_e)
      same_start
      ∙ ap (λ (a : Agreement). work_with (length R) d.opening a.inputs e.decision (ideal_after M P) (remaining_of M P)
      requests_e votes_e) same_agreement
      ∙ ap (λ k. work_with (length R) d.opening d.inputs k (ideal_after M P) (remaining_of M P) requests_e votes_e)
      same_decision
      ∙ ap (λ ctx. work_with (length R) d.opening d.inputs d.decision ctx (remaining_of M P) requests_e votes_e)
      (same_ideal P R same M)
      ∙ ap (λ (rest : Option TransferValue → List ℕ → List ℕ).
      work_with (length R) d.opening d.inputs d.decision (ideal_after M R) rest requests_e votes_e)
      (fun_ext (λ o. fun_ext (λ planned. same_remaining P R same M o planned)))
      ∙ ap (λ (requests : Channel → Channel → Option BodyValue).
      work_with (length R) d.opening d.inputs d.decision (ideal_after M R) (remaining_of M R) requests votes_e)
      (fun_ext (λ q. fun_ext (λ p. got Request refl q p)))
      ∙ ap (λ (votes : Channel → Channel → Option BodyValue).
      work_with (length R) d.opening d.inputs d.decision (ideal_after M R) (remaining_of M R) requests_d votes)
      (fun_ext (λ q. fun_ext (λ p. got Vote refl q p)))
      ∙ sym work_d

  -- the facts of the cycle
  pub cycle_alike : without_entries e ≡ without_entries d
  cycle_alike =
      let C : CycleStart → Agreement → DecisionValue → CycleResult →
      Cycle = λ o a k w. record { entries = []; opening = o; agreement = a; decision = k; work = w } in
      ap (λ o. C o e.agreement e.decision e.work) same_start
      ∙ ap (λ a. C d.opening a e.decision e.work) same_agreement
      ∙ ap (λ k. C d.opening d.agreement k e.work) same_decision
      ∙ ap (C d.opening d.agreement d.decision) same_work
