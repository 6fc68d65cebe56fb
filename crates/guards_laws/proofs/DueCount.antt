-- Whatever the log holds, what any sender owes has a spelling and suits its slot.
use Rattle.std.proofs.Common.{◌≡◌, ℕ, suc, ◌^◌, ◌<◌, ◌≤◌, Bool, true, false, cond, ◌&&◌, List, [], ◌∷◌, length, Option, None, Some, refl, sym, ap, subst, ◌∙◌, arith, eq-eqb}
use Rattle.std.specs.Prelude.{nat_lt, find}
use Rattle.std.specs.List.{list_all}
use Rattle.std.proofs.lemmas.Bool.{le-leb, leb-true}
use Rattle.std.proofs.lemmas.List.{length-map}
use Rattle.guards_model.specs.declared.Slot.{Slot}
use Rattle.guards_model.specs.declared.Slot.TheVariants.{Request, Round1, Round2, Round3, Tasks, Vote, Sweep, Final, Switch, Output}
use Rattle.guards_model.specs.Words.{is_word}
use Rattle.guards_model.specs.Channels.{Channel, has, place_or}
use Rattle.guards_model.specs.Contexts.{context_word}
use Rattle.guards_model.specs.Missions.{MissionValue, IsMission, format_of, within, output_words}
use Rattle.guards_model.specs.Frames.{SourceValue, between, is_set, absent_or, fits_u32, body_in_range, words_in_range}
use Rattle.guards_model.specs.Network.{Log}
use Rattle.guards_model.specs.OralMessages.{PathValue, held_value}
use Rattle.guards_model.specs.Modes.{is_up}
use Rattle.guards_runs.specs.Cycles.{Cycle, Past, starts_to, starts_of, held_start, joins_since, active_set, source_word, received_items, items_in, mode_in, cycle_start_of, cycle_from, next_cycle, cycles_before}
use Rattle.guards_runs.specs.Due.{context_or_none, exchange_of, owed, due_origin}
use Rattle.guards_runs.specs.SlotFacts.{IsSent, Counts}
use Rattle.guards_model.proofs.BoolTests.{both, and_true}
use Rattle.guards_model.proofs.ListTests.{all-map, weaken}
use Rattle.guards_model.proofs.CopyPlaces.{first_places, first_in_order}
use Rattle.guards_model.proofs.ValueWords.{word_at_in}
use Rattle.guards_laws.proofs.WithinChannels.{active_is_set, active_within}
use Rattle.guards_laws.proofs.WordRanges.{source_word_fine, said_fine}
use Rattle.guards_model.proofs.FineWords.{is_fine, fine_in_range}
use Rattle.guards_model.proofs.ExchangeRange.{exchange_good}
use Rattle.guards_laws.proofs.ContextsGood.{held_good}
use Rattle.guards_laws.proofs.InRange.{sweep_fits, final_fits, frame_good, target_of, number_fits}

-- ---- starts

starts_early : (q : Channel) (past : Past) → list_all (λ s. nat_lt s (length past)) (starts_of q past) ≡ true
starts_early q [] = refl
starts_early q (e ∷ past) =
    by_start (weaken (λ s. nat_lt s (length past)) (λ s. nat_lt s (suc (length past))) (starts_of q past)
    (λ s h. le-leb (suc s) (suc (length past)) (omega (arith, leb-true (suc s) (length past) h)))
    (starts_early q past))
    (starts_to q (length past) e.transfer)
  where
    by_start : (longer : list_all (λ s. nat_lt s (suc (length past))) (starts_of q past) ≡ true) (b : Bool) →
        list_all (λ s. nat_lt s (suc (length past))) (cond b (length past ∷ starts_of q past) (starts_of q past)) ≡ true
    by_start longer true = and_true (nat_lt (length past) (suc (length past)))
        (list_all (λ s. nat_lt s (suc (length past))) (starts_of q past))
        (le-leb (suc (length past)) (suc (length past)) (omega arith)) longer
    by_start longer false = longer

found_passes : (P t : ℕ → Bool) (xs : List ℕ) → list_all P xs ≡ true → absent_or P (find t xs) ≡ true
found_passes P t [] h = refl
found_passes P t (x ∷ xs) h = by_test (found_passes P t xs (both (P x) (list_all P xs) h).1) (t x)
  where
    by_test : absent_or P (find t xs) ≡ true → (b : Bool) → absent_or P (cond b (Some x) (find t xs)) ≡ true
    by_test rest true = (both (P x) (list_all P xs) h).0
    by_test rest false = rest

-- ---- one cycle

module _ (M : MissionValue) (L : Log) (mission : IsMission M) (n : ℕ) (h : n < M.cycles) where
  abbrev past : Past
  past = cycles_before M L n

  abbrev e : Cycle
  e = next_cycle M L past

  active_is : e.active ≡ active_set M past
  unfolding cycle_from cycle_start_of
  active_is = refl

  active_now : is_set e.active ≡ true
  active_now = ap is_set active_is ∙ active_is_set M past mission

  early : n ≤ M.cycles
  early = omega (arith, h)

  abbrev sound : (slot : Slot) (from to : ℕ) (places : List ℕ) → Type 0
  sound slot from to places = Counts M past e slot from to places

  -- a frame of a body in range that suits its slot
  counts_if : (slot : Slot) (from to : ℕ) (places : List ℕ) → from < 7 →
      body_in_range M.rules.version from (owed M past e slot from to places) ≡ true →
      Rattle.guards_model.specs.Network.suits (format_of M) slot to (owed M past e slot from to places) ≡ true →
      Counts M past e slot from to places
  counts_if slot from to places low range suiting =
      record {
        spelled = frame_good M L mission n h from (owed M past e slot from to places) low range;
        suiting = suiting;
      }

  -- ---- requests

  start_fits : (q : Channel) → absent_or fits_u32 (held_start q past) ≡ true
  start_fits q =
      found_passes fits_u32 (λ s. joins_since q s past) (starts_of q past)
      (weaken (λ s. nat_lt s (length past)) fits_u32 (starts_of q past)
      (λ s k. le-leb (suc s) (2 ^ 32)
      (omega (arith, leb-true (suc s) (length past) k, number_fits M L mission n early))) (starts_early q past))

  -- ---- exchanges

  held : Channel → PathValue → Option SourceValue
  held q y = held_value e.active M.width q (source_word M past q)
      (items_in (received_items M e.entries (length past) q)) y

  held_fine : (q : Channel) (y : PathValue) → has e.active q ≡ true → is_fine M.width (held q y) ≡ true
  unfolding held
  held_fine q y there =
      said_fine M e.entries (length past) e.active q (source_word M past q) y
      (source_word_fine M L n q mission (active_within M L n q (sym (ap (λ s. has s q) active_is) ∙ there)))

  exchange_fits : (round : ℕ) (q : Channel) → between 1 3 round ≡ true → has (1 ∷ 2 ∷ 3 ∷ []) round ≡ true →
      has e.active q ≡ true → body_in_range M.rules.version q (exchange_of M past e round q) ≡ true
  unfolding held
  exchange_fits round q low of_three there =
      exchange_good (held q) e.active q round active_now low of_three there
      (λ y. fine_in_range M.width (held q y) (held_fine q y there))

  runs : (slot : Slot) (q : Channel) → (has e.active q && is_up (mode_in e q slot)) ≡ true → has e.active q ≡ true
  runs slot q k = (both (has e.active q) (is_up (mode_in e q slot)) k).0

  -- ---- votes

  vote_fits : (q : Channel) → q < 7 →
      words_in_range 1 8 (output_words M (context_or_none (place_or e.contexts_after q None))) ≡ true
  vote_fits q low =
      let ctx = context_or_none (place_or e.contexts_after q None) in
      let outputs = both (within 1 8 (length M.outputs))
      (list_all (λ o. nat_lt o.0 M.rules.blocks && nat_lt o.1 8) M.outputs) mission.outputs in
      and_true (between 1 8 (length (output_words M ctx))) (list_all is_word (output_words M ctx))
      (subst (λ k. between 1 8 k ≡ true) (sym (length-map M.outputs (λ o. context_word ctx o.0 o.1))) outputs.0)
      (all-map is_word (λ o. context_word ctx o.0 o.1) M.outputs
      (λ o. word_at_in ctx o.0 o.1 (held_good M L mission n q low early)))

  -- ---- each slot

  frames_count : (slot : Slot) (from to : ℕ) (places : List ℕ) → IsSent M past e slot from to places →
      Counts M past e slot from to places
  frames_count Request from to places sent = counts_if Request from to places sent.sender (start_fits from) refl
  frames_count Round1 from to places sent =
      counts_if Round1 from to places sent.sender (exchange_fits 1 from refl refl (runs Round1 from sent.sends)) refl
  frames_count Round2 from to places sent =
      counts_if Round2 from to places sent.sender (exchange_fits 2 from refl refl (runs Round2 from sent.sends)) refl
  frames_count Round3 from to places sent =
      counts_if Round3 from to places sent.sender (exchange_fits 3 from refl refl (runs Round3 from sent.sends)) refl
  frames_count Tasks from to places sent = absurd (no sent.carries)
    where
      no : false ≡ true → ⊥
      no k = cc
  frames_count Vote from to places sent =
      counts_if Vote from to places sent.sender (vote_fits from sent.sender)
      (eq-eqb (length (output_words M (context_or_none (place_or e.contexts_after from None)))) (length M.outputs)
      (length-map M.outputs (λ o. context_word (context_or_none (place_or e.contexts_after from None)) o.0 o.1)))
  frames_count Sweep from to places sent =
      let tr = target_of M L mission to e.transfer sent.receives in
      let fits = sweep_fits M L mission n h tr.transfer to from tr.runs tr.target sent.sender places
      (sent.in_order refl) in
      let parts = both _ _ fits in
      record { spelled = parts.0; suiting = parts.1 }
  frames_count Final from to places sent =
      let o = due_origin M past e from in
      let fits = final_fits M L mission n h to from sent.receives sent.sender (first_places o) (first_in_order o) in
      let parts = both _ _ fits in
      record { spelled = parts.0; suiting = parts.1 }
  frames_count Switch from to places sent =
      counts_if Switch from to places sent.sender (active_is_set M (e ∷ past) mission) refl
  frames_count Output from to places sent = absurd (no sent.carries)
    where
      no : false ≡ true → ⊥
      no k = cc

pub due_frames_count : (M : MissionValue) (L : Log) (n : ℕ) (slot : Slot) (from to : ℕ) (places : List ℕ) →
    IsMission M → n < M.cycles →
    IsSent M (cycles_before M L n) (next_cycle M L (cycles_before M L n)) slot from to places →
    Counts M (cycles_before M L n) (next_cycle M L (cycles_before M L n)) slot from to places
due_frames_count M L n slot from to places mission early sent =
    frames_count M L mission n early slot from to places sent
