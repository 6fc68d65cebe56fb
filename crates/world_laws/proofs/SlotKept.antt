-- What is known in a slot stays when the log grows by entries of later ones.
use Rattle.std.proofs.Common.{◌≡◌, ℕ, suc, ◌≤◌, ◌<◌, ◌==◌, ◌⊎◌, ℤ, List, [], ◌++◌, length, Option, None, refl, sym, ap, subst, ◌∙◌, arith}
use Rattle.std.specs.Prelude.{take}
use Rattle.std.proofs.lemmas.List.Elements.{filter-append}
use Rattle.guards_model.specs.declared.Slot.{Slot}
use Rattle.guards_model.specs.declared.Slot.TheVariants.{Round3, Vote}
use Rattle.guards_model.specs.Slots.{slot_index}
use Rattle.guards_model.specs.Channels.{Channel, place_or}
use Rattle.guards_model.specs.Missions.{MissionValue, cycle_writes}
use Rattle.guards_model.specs.Tasks.{whole}
use Rattle.guards_model.specs.Network.{EntryValue, Log}
use Rattle.guards_model.specs.Rounds.{Steps, Origin, IsFull, steps_of}
use Rattle.guards_model.specs.Decisions.{DecisionValue}
use Rattle.guards_runs.specs.Cycles.{Past, Cycle, Agreement, cycles_before, cycle_at, cycle_from, next_cycle, entries_of, cycle_start_of, work_of, remaining_of, ideal_after}
use Rattle.guards_runs.specs.Due.{context_or_none, due_origin}
use Rattle.guards_runs.specs.Report.{line_of}
use Rattle.guards_runs.specs.SlotFacts.{AreFromPlace, FactsStay}
use Rattle.guards_laws.proofs.LogGrows.{length-cycles_before, cycles_before-append}
use Rattle.guards_laws.proofs.SlotsStand.{facts_stand}
use Rattle.guards_laws.proofs.Unsent.{All-filter}
use Rattle.guards_world.specs.WorldCycle.{AreFull}
use Rattle.node_laws.proofs.Staying.{weaken, from_cycle}
use Rattle.world_laws.specs.Staying.{RoundsStay, VoteStays}

module _ (M : MissionValue) (L new : Log) (n place : ℕ) (late : AreFromPlace n place new) where
  abbrev past : Past
  past = cycles_before M L n

  abbrev c : ℕ
  c = length past

  abbrev e : Cycle
  e = cycle_from M (entries_of c L) past

  abbrev more : Cycle
  more = cycle_from M (entries_of c L ++ entries_of c new) past

  late_here : AreFromPlace c place (entries_of c new)
  late_here =
      All-filter (λ (y : EntryValue). (c < y.cycle) ⊎ ((y.cycle ≡ c) × (place ≤ slot_index y.slot))) (λ y. y.cycle == c)
      new
      (subst (λ m. AreFromPlace m place new) (sym (length-cycles_before M L n)) late)

  known : (slot : Slot) → suc (slot_index slot) ≤ place → FactsStay M (entries_of c L) (entries_of c new) past slot
  known slot early = facts_stand M (entries_of c L) (entries_of c new) past slot
      (weaken c (suc (slot_index slot)) place (entries_of c new) early late_here)

  -- what holds of the past and of the cycle with the new entries holds of the longer log
  pub grown : (Φ : Past → Cycle → Type 0) → Φ past more → Φ (cycles_before M (L ++ new) n) (cycle_at M (L ++ new) n)
  grown Φ h =
      subst (λ (p : Past). Φ p (next_cycle M (L ++ new) p))
      (sym (cycles_before-append M L new n (from_cycle n place new late)))
      (subst (λ es. Φ past (cycle_from M es past)) (sym (filter-append (λ (y : EntryValue). y.cycle == c) L new)) h)

  -- ---- full steps

  origin_stays : 4 ≤ place → (q : Channel) → due_origin M past more q ≡ due_origin M past e q
  unfolding cycle_from
  origin_stays early q =
      let O : List ℤ → List ℕ → Origin =
      λ inputs plan. record {
        context = context_or_none (place_or (cycle_start_of M past).contexts_before q None);
        row = cycle_writes M c;
        cycle = c;
        inputs = inputs;
        plan = plan;
      } in
      ap (λ (a : Agreement). O a.inputs more.planned) ((known Round3 early).agreed refl)
      ∙ ap (λ (d : DecisionValue). O e.inputs d.planned) ((known Round3 early).decided refl)

  stay_full : 4 ≤ place → (steps : Steps) → AreFull M past e steps → AreFull M past more steps
  unfolding cycle_from
  stay_full early steps were q there =
      subst (λ (o : Origin). IsFull o (steps_of steps q)) (sym (origin_stays early q)) (were q there)

  pub full_later : 4 ≤ place → (steps : Steps) → AreFull M past e steps →
      AreFull M (cycles_before M (L ++ new) n) (cycle_at M (L ++ new) n) steps
  full_later early steps were = grown (λ p x. AreFull M p x steps) (stay_full early steps were)

  -- ---- what the rounds settle

  opening_same : more.opening ≡ e.opening
  unfolding cycle_from
  opening_same = refl

  pub opening_later : (cycle_at M (L ++ new) n).opening ≡ (cycle_at M L n).opening
  opening_later = grown (λ p x. x.opening ≡ e.opening) opening_same

  ideal_same : 4 ≤ place → more.ideal_context ≡ e.ideal_context
  unfolding cycle_from work_of
  ideal_same early = ap (λ (a : Agreement). whole (cycle_writes M c) (ideal_after M past) c a.inputs)
      ((known Round3 early).agreed refl)

  remaining_same : 4 ≤ place → more.remaining ≡ e.remaining
  unfolding cycle_from work_of
  remaining_same early = ap (λ (d : DecisionValue). remaining_of M past d.transfer d.planned)
      ((known Round3 early).decided refl)

  pub rounds_later : 4 ≤ place → RoundsStay M L new n
  rounds_later early =
      let facts = known Round3 early in
      record {
        past = cycles_before-append M L new n (from_cycle n place new late);
        opening = opening_later;
        agreement = grown (λ p x. x.agreement ≡ e.agreement) (facts.agreed refl);
        decision = grown (λ p x. x.decision ≡ e.decision) (facts.decided refl);
        ideal_context = grown (λ p x. x.ideal_context ≡ e.ideal_context) (ideal_same early);
        contexts_after = grown (λ p x. x.contexts_after ≡ e.contexts_after) (facts.worked refl);
        request_codes = grown (λ p x. x.request_codes ≡ e.request_codes) facts.heard;
        remaining = grown (λ p x. x.remaining ≡ e.remaining) (remaining_same early);
        joined = grown (λ p x. x.joined ≡ e.joined) (ap (λ k. k.fresh) (facts.closed refl));
      }

  -- ---- the votes

  line_same : 6 ≤ place → (q : Channel) → line_of M more q ≡ line_of M e q
  line_same early q =
      let facts = known Vote early in
      ap (λ (a : Agreement). record (line_of M more q) { inputs = a.inputs }) (facts.agreed refl)
      ∙ ap (λ (d : DecisionValue).
      record (line_of M more q) { inputs = e.inputs; judged = d.judged; counts = take M.rules.channels d.counts })
      (facts.decided refl)
      ∙ ap (λ (votes : List (List (Option ℤ))). record (line_of M e q) { votes = place_or votes q [] })
      (facts.voted refl)

  pub vote_later : 6 ≤ place → VoteStays M L new n
  vote_later early =
      let facts = known Vote early in
      record {
        rounds = rounds_later (omega (arith, early));
        voted = grown (λ p x. x.voted ≡ e.voted) (facts.voted refl);
        accusations = grown (λ p x. x.accusations ≡ e.accusations) (facts.accused refl);
        lines = λ q. grown (λ p x. line_of M x q ≡ line_of M e q) (line_same early q);
      }
