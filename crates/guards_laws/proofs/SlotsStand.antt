-- Entries of later slots change no frame that is owed in a slot, and no stop of it.
use Rattle.std.proofs.Common.{◌≡◌, ℕ, zero, suc, ◌-◌, ◌*◌, ◌<◌, ◌≤◌, ◌==◌, ◌⊎◌, inl, inr, Bool, true, false, cond, not, ◌&&◌, ◌||◌, List, [], ◌∷◌, ◌++◌, length, map, Option, None, ℤ, refl, ap, ◌∙◌, eq-eqb, arith}
use Rattle.std.specs.Prelude.{nat_le, filter, filter_map, flat_map, reverse, option_map, if◌then◌else◌}
use Rattle.std.proofs.Math.Path.{fun_ext}
use Rattle.std.specs.List.{list_all, list_any}
use Rattle.std.proofs.lemmas.Bool.{ne_eqb, leb-true, le-leb, eqb-true}
use Rattle.std.proofs.lemmas.List.Folds.{list_any-append}
use Rattle.guards_model.specs.declared.Slot.{Slot}
use Rattle.guards_model.specs.declared.Slot.TheVariants.{Request, Round1, Round2, Round3, Tasks, Vote, Sweep, Final, Switch, Output}
use Rattle.guards_model.specs.Slots.{slot_index, up_to}
use Rattle.guards_model.specs.Channels.{Channel, ChannelSet, has, without, by_channel, channels_where, place_or}
use Rattle.guards_model.specs.Contexts.{ContextValue}
use Rattle.guards_model.specs.Tasks.{whole}
use Rattle.guards_model.specs.Missions.{MissionValue, format_of, cycle_writes, output_words}
use Rattle.guards_model.specs.Frames.{SourceValue, ItemValue, CopyValue, ControlWordValue, BodyValue, exchange_body, vote_body, sweep_body, final_body, switch_body}
use Rattle.guards_model.specs.Voting.{Ballots, inputs_of, vote_of, accused_of}
use Rattle.guards_model.specs.Diagnosis.{Agreed, counts_carried}
use Rattle.guards_model.specs.Transfers.{TransferValue, start_of, active_after}
use Rattle.guards_model.specs.Decisions.{DecisionValue, joined_of, request_code}
use Rattle.guards_model.specs.Rounds.{Origin, copies_at}
use Rattle.guards_model.specs.Network.{Log, AreAfter, items_of, ballot_of, have_of}
use Rattle.guards_model.specs.OralMessages.{PathValue, word_for, held_value, items_owed, paths}
use Rattle.guards_model.specs.Modes.{is_up}
use Rattle.guards_runs.specs.Cycles.{Cycle, Past, Agreement, first_up, mode_in, is_damaged, source_word, received_items, received_body, items_in, cycle_start_of, agreement_of, decision_of, work_of, cycle_from, remaining_of}
use Rattle.guards_runs.specs.Disturbed.{is_charge, differs_from, disturbed_channels}
use Rattle.guards_runs.specs.Due.{Carry, targets_of, context_or_none, copy_from, slot_carries, owed, due_origin, exchange_of, control_after, is_sender, receivers}
use Rattle.guards_runs.specs.SlotFacts.{AreFromPlace, FramesStay, StopStays, FactsStay}
use Rattle.guards_runs.specs.Restoration.{sweeps_at, finals_at}
use Rattle.guards_model.specs.Replicas.{sweep_content, final_content}
use Rattle.guards_model.proofs.BoolTests.{both}
use Rattle.guards_model.proofs.ListTests.{all-filter, all-map, all-append}
use Rattle.guards_model.proofs.SlotsStay.{slot_stays}
use Rattle.guards_model.proofs.TagSteps.{filter_alike}
use Rattle.guards_laws.proofs.CycleParts.{agreed_stays, by_channel-same}

-- ---- places

after_place : (c place : ℕ) (slot : Slot) (new : Log) → slot_index slot < place → AreFromPlace c place new →
    AreAfter c slot new
after_place c place slot [] early late = tt
after_place c place slot (y ∷ new) early late = (
  (elim late.0 as (λ v. (c < y.cycle) ⊎ ((y.cycle ≡ c) × (slot_index slot < slot_index y.slot)))
      [ inl later ↦ inl later | inr same ↦ inr (same.0, omega (arith, same.1, early)) ]),
  after_place c place slot new early late.1,
)

-- ---- paths of a round

all_of_flat : {A B : Type 0} (P : B → Bool) (Q : A → Bool) (f : A → List B) (xs : List A) → list_all Q xs ≡ true →
    ((x : A) → Q x ≡ true → list_all P (f x) ≡ true) → list_all P (flat_map f xs) ≡ true
all_of_flat P Q f [] h k = refl
all_of_flat P Q f (x ∷ xs) h k =
    let parts = both (Q x) (list_all Q xs) h in
    all-append P (f x) (flat_map f xs) (k x parts.0) (all_of_flat P Q f xs parts.1 k)

paths_length : (active : ChannelSet) (n : ℕ) → list_all (λ (y : PathValue). length y == n) (paths active n) ≡ true
paths_length active zero = refl
paths_length active (suc n) =
    all_of_flat (λ (z : PathValue). length z == suc n) (λ (y : PathValue). length y == n)
    (λ y. map (λ j. j ∷ y) (without active y)) (paths active n) (paths_length active n)
    (λ y e. all-map (λ (z : PathValue). length z == suc n) (λ j. j ∷ y) (without active y)
    (λ j. eq-eqb (suc (length y)) (suc n) (ap suc (eqb-true (length y) n e))))

map_on : {A B : Type 0} (P : A → Bool) (f g : A → B) (xs : List A) → list_all P xs ≡ true →
    ((x : A) → P x ≡ true → f x ≡ g x) → map f xs ≡ map g xs
map_on P f g [] h k = refl
map_on P f g (x ∷ xs) h k =
    let parts = both (P x) (list_all P xs) h in
    ap (λ y. y ∷ map f xs) (k x parts.0) ∙ ap (λ ys. g x ∷ ys) (map_on P f g xs parts.1 k)

-- what a member holds for a path rests on the rounds up to the path's length alone
held_alike : (active : ChannelSet) (width : ℕ) (me : Channel) (own : SourceValue) (a b : ℕ → Channel → List ItemValue)
    (n : ℕ) → ((r : ℕ) (j : Channel) → 1 ≤ r → r ≤ n → a r j ≡ b r j) →
    (y : PathValue) → length y ≤ n → held_value active width me own a y ≡ held_value active width me own b y
held_alike active width me own a b n same [] short = refl
held_alike active width me own a b n same (j ∷ y) short =
    ap (λ o. cond (j == me) o (word_for width (reverse y) (a (length (j ∷ y)) j)))
    (held_alike active width me own a b n same y (omega (arith, short)))
    ∙ ap (λ items. cond (j == me) (held_value active width me own b y) (word_for width (reverse y) items))
    (same (length (j ∷ y)) j (omega arith) short)

pub owed_alike : (active : ChannelSet) (width : ℕ) (me : Channel) (own : SourceValue)
    (a b : ℕ → Channel → List ItemValue) (round : ℕ) → ((r : ℕ) (j : Channel) → 1 ≤ r → r ≤ round - 1 → a r j ≡ b r j) →
    items_owed active width me own a round ≡ items_owed active width me own b round
owed_alike active width me own a b round same =
    map_on (λ (y : PathValue). length y == round - 1)
    (λ y. record { path = reverse y; word = held_value active width me own a y })
    (λ y. record { path = reverse y; word = held_value active width me own b y })
    (filter (λ y. not (has y me)) (paths active (round - 1)))
    (all-filter (λ (y : PathValue). length y == round - 1) (λ y. not (has y me)) (paths active (round - 1))
    (paths_length active (round - 1)))
    (λ y e. let size : length y ≡ round - 1 = eqb-true (length y) (round - 1) e in
    let I : Option SourceValue → ItemValue = λ w. record { path = reverse y; word = w } in
    ap I (held_alike active width me own a b (round - 1) same y (omega (arith, size))))

not_up : (a b : ℕ) → suc b ≤ a → nat_le a b ≡ false
not_up a b h = by (nat_le a b) refl
  where
    by : (x : Bool) → nat_le a b ≡ x → x ≡ false
    by true k = absurd (omega (arith, leb-true a b k, h))
    by false k = refl

off : (a b d : Bool) → (((a && false) && b) && d) ≡ false
off true b d = refl
off false b d = refl

-- ---- one cycle

module _ (M : MissionValue) (entries new : Log) (past : Past) where
  abbrev c : ℕ
  c = length past

  abbrev e : Cycle
  e = cycle_from M entries past

  abbrev more : Cycle
  more = cycle_from M (entries ++ new) past

  opening_stays : more.opening ≡ e.opening
  unfolding cycle_from
  opening_stays = refl

  entries_are : e.entries ≡ entries
  unfolding cycle_from
  entries_are = refl

  more_entries : more.entries ≡ entries ++ new
  unfolding cycle_from
  more_entries = refl

  -- the items of a round before the place
  table_stays : (slot : Slot) (p : Channel) → AreAfter c slot new →
      by_channel (λ j. items_of (received_body M (entries ++ new) c slot j p))
      ≡ by_channel (λ j. items_of (received_body M entries c slot j p))
  table_stays slot p after =
      by_channel-same (λ j. items_of (received_body M (entries ++ new) c slot j p))
      (λ j. items_of (received_body M entries c slot j p))
      (λ j low. ap items_of (slot_stays (format_of M) entries new c slot j p after))

  abbrev had : Log → Channel → ℕ → Channel → List ItemValue
  had log p = items_in (received_items M log c p)

  first_round : (p j : Channel) → AreAfter c Round1 new → had (entries ++ new) p 1 j ≡ had entries p 1 j
  first_round p j after = ap (λ t. place_or t j []) (table_stays Round1 p after)

  second_round : (p j : Channel) → AreAfter c Round2 new → had (entries ++ new) p 2 j ≡ had entries p 2 j
  second_round p j after = ap (λ t. place_or t j []) (table_stays Round2 p after)

  none_before : (p : Channel) (r : ℕ) (j : Channel) → 1 ≤ r → r ≤ 0 → had (entries ++ new) p r j ≡ had entries p r j
  none_before p r j low high = absurd (omega (arith, low, high))

  one_before : AreFromPlace c 2 new → (p : Channel) (r : ℕ) (j : Channel) → 1 ≤ r → r ≤ 1 →
      had (entries ++ new) p r j ≡ had entries p r j
  one_before late p zero j low high = absurd (omega (arith, low))
  one_before late p (suc zero) j low high = first_round p j (after_place c 2 Round1 new (omega arith) late)
  one_before late p (suc (suc r)) j low high = absurd (omega (arith, high))

  two_before : AreFromPlace c 3 new → (p : Channel) (r : ℕ) (j : Channel) → 1 ≤ r → r ≤ 2 →
      had (entries ++ new) p r j ≡ had entries p r j
  two_before late p zero j low high = absurd (omega (arith, low))
  two_before late p (suc zero) j low high = first_round p j (after_place c 3 Round1 new (omega arith) late)
  two_before late p (suc (suc zero)) j low high = second_round p j (after_place c 3 Round2 new (omega arith) late)
  two_before late p (suc (suc (suc r))) j low high = absurd (omega (arith, high))

  abbrev exchange_with : ℕ → List ItemValue → BodyValue
  exchange_with round items = exchange_body (record { round = round; items = items })

  exchange_stays : (round : ℕ) (q : Channel) →
      ((r : ℕ) (j : Channel) → 1 ≤ r → r ≤ round - 1 → had (entries ++ new) q r j ≡ had entries q r j) →
      exchange_of M past more round q ≡ exchange_of M past e round q
  unfolding cycle_from
  exchange_stays round q same =
      ap (exchange_with round) (owed_alike (cycle_start_of M past).active M.width q (source_word M past q)
      (had (entries ++ new) q) (had entries q) round same)

  -- ---- after the rounds

  module _ (late : AreAfter c Round3 new) where
    agreement_stays : more.agreement ≡ e.agreement
    unfolding cycle_from agreement_of
    agreement_stays =
        let o = cycle_start_of M past in
        let A : Agreed → Agreement = λ agreed. record { agreed = agreed; inputs = inputs_of M.width agreed } in
        ap A (agreed_stays M entries new past o.active (first_up o.modes o.active) late)

    decision_stays : more.decision ≡ e.decision
    unfolding cycle_from
    decision_stays = ap (λ (a : Agreement). decision_of M past (cycle_start_of M past) a.agreed) agreement_stays

    contexts_stay : more.contexts_after ≡ e.contexts_after
    unfolding cycle_from work_of
    contexts_stay = ap (λ (a : Agreement).
        map (option_map (λ ctx. whole (cycle_writes M c) ctx c a.inputs)) (cycle_start_of M past).contexts_before)
        agreement_stays

    remaining_stays : more.remaining ≡ e.remaining
    unfolding cycle_from work_of
    remaining_stays = ap (λ (d : DecisionValue). remaining_of M past d.transfer d.planned) decision_stays

    joined_stays : more.joined ≡ e.joined
    unfolding cycle_from work_of
    joined_stays = ap (λ (d : DecisionValue).
        joined_of M.rules.last d.transfer (remaining_of M past d.transfer d.planned)) decision_stays

    origin_stays : (q : Channel) → due_origin M past more q ≡ due_origin M past e q
    unfolding cycle_from
    origin_stays q =
        let O : List ℤ → List ℕ → Origin =
        λ inputs plan. record {
          context = context_or_none (place_or (cycle_start_of M past).contexts_before q None);
          row = cycle_writes M c;
          cycle = c;
          inputs = inputs;
          plan = plan;
        } in
        ap (λ (a : Agreement). O a.inputs more.planned) agreement_stays
        ∙ ap (λ (d : DecisionValue). O e.inputs d.planned) decision_stays

    abbrev carries_to : List ℕ → Slot → List Carry
    carries_to receivers slot =
        flat_map (λ q. map (λ to. record { cycle = c; slot = slot; from = q; to = to }) (without receivers (q ∷ [])))
        (channels_where (is_sender e slot))

    sweeps_stay : slot_carries c more Sweep ≡ slot_carries c e Sweep
    unfolding cycle_from
    sweeps_stay = ap (λ (d : DecisionValue). carries_to (targets_of d.transfer) Sweep) decision_stays

    finals_stay : slot_carries c more Final ≡ slot_carries c e Final
    unfolding cycle_from
    finals_stay = ap (λ joined. carries_to joined Final) joined_stays

    sweep_stays : (q to : Channel) (places : List ℕ) →
        owed M past more Sweep q to places ≡ owed M past e Sweep q to places
    unfolding cycle_from
    sweep_stays q to places =
        let B : Option TransferValue → List CopyValue →
        BodyValue = λ t copies. sweep_body (record { target = to; start = start_of t; copies = copies }) in
        ap (λ (d : DecisionValue). B d.transfer (copies_at (due_origin M past more q) d.planned places)) decision_stays
        ∙ ap (λ o. B e.transfer (copies_at o e.planned places)) (origin_stays q)

    control_stays : control_after M (more ∷ past) ≡ control_after M (e ∷ past)
    unfolding cycle_from
    control_stays =
        let K : DecisionValue → ChannelSet → ControlWordValue =
        λ d joined. record {
          law = M.rules.law;
          active = active_after (cycle_start_of M past).active d.removed joined;
          fresh = joined;
          counts = counts_carried (active_after (cycle_start_of M past).active d.removed joined) joined d.counts;
        } in
        ap (λ d. K d more.joined) decision_stays ∙ ap (K e.decision) joined_stays

    final_stays : (q to : Channel) (places : List ℕ) →
        owed M past more Final q to places ≡ owed M past e Final q to places
    final_stays q to places =
        let B : Option TransferValue → List (Option ContextValue) → List ℕ → ControlWordValue → BodyValue =
        λ t cs rest k. final_body
        (record {
          target = to;
          start = start_of t;
          copies = map (copy_from (context_or_none (place_or cs q None))) rest;
          control = k;
        }) in
        ap (λ (d : DecisionValue). B d.transfer more.contexts_after more.remaining (control_after M (more ∷ past)))
        decision_stays
        ∙ ap (λ cs. B e.transfer cs more.remaining (control_after M (more ∷ past))) contexts_stay
        ∙ ap (λ rest. B e.transfer e.contexts_after rest (control_after M (more ∷ past))) remaining_stays
        ∙ ap (B e.transfer e.contexts_after e.remaining) control_stays

  -- ---- each slot

  frames_stay : (slot : Slot) → AreFromPlace c (slot_index slot) new → FramesStay M entries new past slot
  unfolding cycle_from
  frames_stay Request late = record { carries = refl; frames = λ q to places. refl; origins = λ h. absurd cc }
  frames_stay Round1 late =
      record { carries = refl; frames = λ q to places. exchange_stays 1 q (none_before q); origins = λ h. absurd cc }
  frames_stay Round2 late =
      record {
        carries = refl;
        frames = λ q to places. exchange_stays 2 q (one_before late q);
        origins = λ h. absurd cc;
      }
  frames_stay Round3 late =
      record {
        carries = refl;
        frames = λ q to places. exchange_stays 3 q (two_before late q);
        origins = λ h. absurd cc;
      }
  frames_stay Tasks late = record { carries = refl; frames = λ q to places. refl; origins = λ h. absurd cc }
  frames_stay Vote late =
      record {
        carries = refl;
        frames = λ q to places. ap (λ cs. vote_body (output_words M (context_or_none (place_or cs q None))))
            (contexts_stay (after_place c 5 Round3 new (omega arith) late));
        origins = λ h. absurd cc;
      }
  frames_stay Sweep late =
      let after = after_place c 6 Round3 new (omega arith) late in
      record { carries = sweeps_stay after; frames = sweep_stays after; origins = λ h q. origin_stays after q }
  frames_stay Final late =
      let after = after_place c 7 Round3 new (omega arith) late in
      record { carries = finals_stay after; frames = final_stays after; origins = λ h. absurd cc }
  frames_stay Switch late =
      let after = after_place c 8 Round3 new (omega arith) late in
      record {
        carries = refl;
        frames = λ q to places. ap (λ k. switch_body k.active) (control_stays after);
        origins = λ h. absurd cc;
      }
  frames_stay Output late = record { carries = refl; frames = λ q to places. refl; origins = λ h. absurd cc }

  -- ---- stops

  no_later_charge : (slot : Slot) (q : Channel) (xs : Log) → AreFromPlace c (suc (slot_index slot)) xs →
      list_any (is_charge c slot q) xs ≡ false
  no_later_charge slot q [] late = refl
  no_later_charge slot q (x ∷ xs) late =
      ap (λ b. b || list_any (is_charge c slot q) xs) (other late.0) ∙ no_later_charge slot q xs late.1
    where
      other : (c < x.cycle) ⊎ ((x.cycle ≡ c) × (suc (slot_index slot) ≤ slot_index x.slot)) →
          is_charge c slot q x ≡ false
      other (inl later) = ap (λ b. ((b && up_to x.slot slot) && x.from == q) && differs_from x.sent x.delivered)
          (ne_eqb x.cycle c (λ h. absurd (omega (arith, h, later))))
      other (inr same) =
          ap (λ b. (((x.cycle == c) && b) && x.from == q) && differs_from x.sent x.delivered)
          (not_up (slot_index x.slot) (slot_index slot) same.1)
          ∙ off (x.cycle == c) (x.from == q) (differs_from x.sent x.delivered)

  or_false : (b : Bool) → (b || false) ≡ b
  or_false true = refl
  or_false false = refl

  disturbed_stay : (slot : Slot) → AreFromPlace c (suc (slot_index slot)) new →
      disturbed_channels c more slot ≡ disturbed_channels c e slot
  unfolding cycle_from
  disturbed_stay slot late =
      let T : Log → Channel → Bool =
      λ log q. (not (is_up (mode_in e q slot)) || is_damaged e q slot) || list_any (is_charge c slot q) log in
      filter_alike (T (entries ++ new)) (T entries) (cycle_start_of M past).active
      (λ q there. ap (λ b. (not (is_up (mode_in e q slot)) || is_damaged e q slot) || b)
      (list_any-append (is_charge c slot q) entries new
      ∙ ap (λ b. list_any (is_charge c slot q) entries || b) (no_later_charge slot q new late)
      ∙ or_false (list_any (is_charge c slot q) entries)))

  stop_stays : (slot : Slot) → AreFromPlace c (suc (slot_index slot)) new → StopStays M entries new past slot
  unfolding cycle_from
  stop_stays slot late = ap (λ (D : ChannelSet). nat_le (length (cycle_start_of M past).active) (3 * length D))
      (disturbed_stay slot late)

  -- ---- what is known when a slot is over

  known_after : (s slot : Slot) → AreFromPlace c (suc (slot_index slot)) new → up_to s slot ≡ true → AreAfter c s new
  known_after s slot late h =
      after_place c (suc (slot_index slot)) s new (omega (arith, leb-true (slot_index s) (slot_index slot) h)) late

  got_stays : (s slot : Slot) → AreFromPlace c (suc (slot_index slot)) new → up_to s slot ≡ true → (from to : ℕ) →
      received_body M (entries ++ new) c s from to ≡ received_body M entries c s from to
  got_stays s slot late h from to = slot_stays (format_of M) entries new c s from to (known_after s slot late h)

  abbrev ballots_of : List (Option ContextValue) → (Channel → Channel → Option BodyValue) → List Ballots
  ballots_of held votes =
      by_channel (λ p. if has (cycle_start_of M past).active p
      then by_channel (λ j. if j == p then option_map (output_words M) (place_or held p None)
      else ballot_of (votes j p)) else [])

  abbrev voted_of : List Ballots → List (List (Option ℤ))
  voted_of ballots = map (vote_of (cycle_start_of M past).active (length M.outputs)) ballots

  abbrev accusations_of : List Ballots → List ChannelSet
  accusations_of ballots = by_channel
      (λ p. accused_of (cycle_start_of M past).active (place_or ballots p []) (place_or (voted_of ballots) p []))

  module _ (slot : Slot) (late : AreFromPlace c (suc (slot_index slot)) new) where
    codes_stay : more.request_codes ≡ e.request_codes
    unfolding cycle_from work_of
    codes_stay =
        ap (λ (f : Channel → Channel → Option BodyValue).
        by_channel (λ p. by_channel (λ q. request_code (cycle_start_of M past).running q (have_of (f q p)))))
        (fun_ext (λ q. fun_ext (λ p. got_stays Request slot late (le-leb 0 (slot_index slot) (omega arith)) q p)))

    round3 : up_to Vote slot ≡ true → up_to Round3 slot ≡ true
    round3 h = le-leb 3 (slot_index slot) (omega (arith, leb-true 5 (slot_index slot) h))

    ballots_stay : up_to Vote slot ≡ true →
        ballots_of more.contexts_after (received_body M (entries ++ new) c Vote)
        ≡ ballots_of e.contexts_after (received_body M entries c Vote)
    ballots_stay h =
        ap (λ held. ballots_of held (received_body M (entries ++ new) c Vote))
        (contexts_stay (known_after Round3 slot late (round3 h)))
        ∙ ap (λ (f : Channel → Channel → Option BodyValue). ballots_of e.contexts_after f)
        (fun_ext (λ j. fun_ext (λ p. got_stays Vote slot late h j p)))

    voted_stays : up_to Vote slot ≡ true → more.voted ≡ e.voted
    unfolding cycle_from work_of
    voted_stays h = ap voted_of (ballots_stay h)

    accused_stays : up_to Vote slot ≡ true → more.accusations ≡ e.accusations
    unfolding cycle_from work_of
    accused_stays h = ap accusations_of (ballots_stay h)

    filled_stays : up_to Sweep slot ≡ true → (q : Channel) → sweeps_at M past more q ≡ sweeps_at M past e q
    unfolding cycle_from
    filled_stays h q =
        ap (λ (f : Channel → Option BodyValue). filter_map (λ j. sweep_content (f j)) (cycle_start_of M past).active)
        (fun_ext (λ j. got_stays Sweep slot late h j q))

    taken_stays : up_to Final slot ≡ true → (q : Channel) → finals_at M past more q ≡ finals_at M past e q
    unfolding cycle_from
    taken_stays h q =
        ap (λ (f : Channel → Option BodyValue). filter_map (λ j. final_content (f j)) (cycle_start_of M past).active)
        (fun_ext (λ j. got_stays Final slot late h j q))

    known_stays : FactsStay M entries new past slot
    known_stays =
        record {
          received = λ s. got_stays s slot late;
          heard = codes_stay;
          agreed = λ h. agreement_stays (known_after Round3 slot late h);
          decided = λ h. decision_stays (known_after Round3 slot late h);
          worked = λ h. contexts_stay (known_after Round3 slot late h);
          closed = λ h. control_stays (known_after Round3 slot late h);
          voted = voted_stays;
          accused = accused_stays;
          filled = filled_stays;
          taken = taken_stays;
        }

pub slots_stand : (M : MissionValue) (entries new : Log) (past : Past) (slot : Slot) →
    AreFromPlace (length past) (slot_index slot) new → FramesStay M entries new past slot
slots_stand M entries new past slot late = frames_stay M entries new past slot late

pub stops_stand : (M : MissionValue) (entries new : Log) (past : Past) (slot : Slot) →
    AreFromPlace (length past) (suc (slot_index slot)) new → StopStays M entries new past slot
stops_stand M entries new past slot late = stop_stays M entries new past slot late

pub facts_stand : (M : MissionValue) (entries new : Log) (past : Past) (slot : Slot) →
    AreFromPlace (length past) (suc (slot_index slot)) new → FactsStay M entries new past slot
facts_stand M entries new past slot late = known_stays M entries new past slot late
