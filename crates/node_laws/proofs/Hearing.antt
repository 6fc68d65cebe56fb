-- The requests of a slot, heard one after the other; and the exchanges of a round, received one after the other.
use Rattle.std.proofs.Common.{◌≡◌, ℕ, zero, suc, ◌≤◌, ◌<◌, ◌==◌, Bool, true, false, cond, not, ◌&&◌, ◌||◌, List, [], ◌∷◌, length, Option, None, Some, refl, sym, ap, ◌∙◌, eq-eqb, arith}
use Rattle.std.specs.Prelude.{nat_lt, option_map, slice_set}
use Rattle.std.proofs.Math.Path.{fun_ext}
use Rattle.std.proofs.lemmas.Bool.{eqb-true}
use Rattle.guards_model.specs.declared.Slot.TheVariants.{Request, Round1}
use Rattle.guards_model.specs.Channels.{Channel, has, without, place_or, by_channel, every_channel}
use Rattle.guards_model.specs.Missions.{MissionValue}
use Rattle.guards_model.specs.Frames.{ItemValue}
use Rattle.guards_model.specs.Network.{Log, have_of}
use Rattle.guards_model.specs.Decisions.{request_code}
use Rattle.guards_model.specs.Transfers.{TransferValue}
use Rattle.guards_model.specs.Controls.{transfer_in}
use Rattle.guards_model.specs.Rounds.{Steps}
use Rattle.guards_model.proofs.Tables.{has-filter}
use Rattle.guards_model.specs.Slots.{stage_before}
use Rattle.guards_runs.specs.Cycles.{Past, Cycle, running_transfer, received_body, received_items, items_in, cycle_start_of, cycle_from, next_cycle, source_word}
use Rattle.guards_runs.specs.ControlFacts.{sweeping_of}
use Rattle.guards_runs.specs.Due.{is_round}
use Rattle.guards_laws.proofs.CycleParts.{heard-is}
use Rattle.guards_nodes.specs.NodeStates.{no_codes, RunningValue}
use Rattle.guards_nodes.specs.NodeSteps.{Received, tree_of, with_items}
use Rattle.guards_world.specs.NodeFacts.{received_through, held_in, running_value_in}
use Rattle.guards_world.specs.SlotSteps.{heard_if, after_requests, with_round}
use Rattle.node_laws.proofs.Opening.{nothing_yet}

-- ---- requests

abbrev with_hearing : List ℕ → RunningValue → RunningValue
with_hearing codes r = record r { progress = record r.progress { hearing = codes } }

one_heard : (o : Option (Option ℕ)) (j : Channel) (codes : List ℕ) (r : RunningValue) → slice_set codes j 0 ≡ codes →
    heard_if o j (with_hearing codes r)
    ≡ with_hearing (slice_set codes j (request_code (transfer_in r.control.sweeping) j o)) r
one_heard None j codes r h = ap (λ x. with_hearing x r) (sym h)
one_heard (Some have) j codes r h = refl

all_heard : (got : Channel → Option (Option ℕ)) (r : RunningValue) →
    after_requests got every_channel (with_hearing no_codes r)
    ≡ with_hearing (by_channel (λ j. request_code (transfer_in r.control.sweeping) j (got j))) r
unfolding by_channel
all_heard got r =
    let f : Channel → ℕ = λ j. request_code (transfer_in r.control.sweeping) j (got j) in
    ap (after_requests got (1 ∷ 2 ∷ 3 ∷ 4 ∷ 5 ∷ 6 ∷ [])) (one_heard (got 0) 0 (0 ∷ 0 ∷ 0 ∷ 0 ∷ 0 ∷ 0 ∷ 0 ∷ []) r refl)
    ∙ ap (after_requests got (2 ∷ 3 ∷ 4 ∷ 5 ∷ 6 ∷ [])) (one_heard (got 1) 1 (f 0 ∷ 0 ∷ 0 ∷ 0 ∷ 0 ∷ 0 ∷ 0 ∷ []) r refl)
    ∙ ap (after_requests got (3 ∷ 4 ∷ 5 ∷ 6 ∷ [])) (one_heard (got 2) 2 (f 0 ∷ f 1 ∷ 0 ∷ 0 ∷ 0 ∷ 0 ∷ 0 ∷ []) r refl)
    ∙ ap (after_requests got (4 ∷ 5 ∷ 6 ∷ [])) (one_heard (got 3) 3 (f 0 ∷ f 1 ∷ f 2 ∷ 0 ∷ 0 ∷ 0 ∷ 0 ∷ []) r refl)
    ∙ ap (after_requests got (5 ∷ 6 ∷ [])) (one_heard (got 4) 4 (f 0 ∷ f 1 ∷ f 2 ∷ f 3 ∷ 0 ∷ 0 ∷ 0 ∷ []) r refl)
    ∙ ap (after_requests got (6 ∷ [])) (one_heard (got 5) 5 (f 0 ∷ f 1 ∷ f 2 ∷ f 3 ∷ f 4 ∷ 0 ∷ 0 ∷ []) r refl)
    ∙ one_heard (got 6) 6 (f 0 ∷ f 1 ∷ f 2 ∷ f 3 ∷ f 4 ∷ f 5 ∷ 0 ∷ []) r refl

runs_are : (M : MissionValue) (past : Past) (t : Option TransferValue) →
    transfer_in (option_map (sweeping_of M past) t) ≡ t
runs_are M past None = refl
runs_are M past (Some t) = refl

running_is : (M : MissionValue) (L : Log) (past : Past) → (next_cycle M L past).running ≡ running_transfer past
unfolding cycle_from cycle_start_of
running_is M L past = refl

pub hears : (M : MissionValue) (L : Log) (past : Past) (steps : Steps) (q : Channel) → q < 7 →
    after_requests (λ j. have_of (received_body M (next_cycle M L past).entries (length past) Request j q))
    every_channel (running_value_in M past (next_cycle M L past) steps (stage_before Request) q)
    ≡ running_value_in M past (next_cycle M L past) steps (stage_before Round1) q
hears M L past steps q low =
    let e = next_cycle M L past in
    let got : Channel → Option (Option ℕ) = λ j. have_of (received_body M e.entries (length past) Request j q) in
    let H : List ℕ → Received → RunningValue =
    λ codes received. record {
      held = held_in M past e (stage_before Request) q;
      progress = record {
        hearing = codes;
        tree = Some (tree_of e.active q M.width (source_word M past q) received);
        decided = None;
        worked = None;
        closed = None;
      };
    } in
    let C : Option TransferValue → List ℕ = λ t. by_channel (λ j. request_code t j (got j)) in
    all_heard got (running_value_in M past e steps (stage_before Request) q)
    ∙ ap (λ t. H (C t) (received_through M past e (stage_before Request) q))
    (runs_are M past (running_transfer past) ∙ sym (running_is M L past))
    ∙ ap (λ codes. H codes (received_through M past e (stage_before Request) q)) (sym (heard-is M L past q low))
    ∙ ap (H (place_or e.request_codes q []))
    (nothing_yet M past e q 0 (omega arith) ∙ sym (nothing_yet M past e q 1 (omega arith)))

-- ---- a round

no : true ≡ false → ⊥
no h = cc

by_values : (x j : ℕ) (a b : Bool) → (x == j) ≡ a → (j == x) ≡ b → (x == j) ≡ (j == x)
by_values x j true true h k = h ∙ sym k
by_values x j false false h k = h ∙ sym k
by_values x j true false h k = absurd (no (sym (eq-eqb j x (sym (eqb-true x j h))) ∙ k))
by_values x j false true h k = absurd (no (sym (eq-eqb x j (sym (eqb-true j x k))) ∙ h))

either_way : (x j : ℕ) → (x == j) ≡ (j == x)
either_way x j = by_values x j (x == j) (j == x) refl refl

module _ (round : ℕ) (items : Channel → List ItemValue) where
  -- one channel's items, and then those of the others
  next_at : (here same later : Bool) (x j : Channel) (old : List ItemValue) → (x == j) ≡ same →
      cond (here && later) (items j) (cond (here && same) (items x) old) ≡ cond (here && (same || later)) (items j) old
  next_at false same later x j old h = refl
  next_at true true true x j old h = refl
  next_at true true false x j old h = ap items (eqb-true x j h)
  next_at true false true x j old h = refl
  next_at true false false x j old h = refl

  none_at : (here : Bool) (j : Channel) (old : List ItemValue) → old ≡ cond (here && false) (items j) old
  none_at true j old = refl
  none_at false j old = refl

  pub round_at : (js : List Channel) (received : Received) (r : ℕ) (j : Channel) →
      with_round round items js received r j ≡ cond (r == round && has js j) (items j) (received r j)
  round_at [] received r j = none_at (r == round) j (received r j)
  round_at (x ∷ js) received r j =
      round_at js (with_items round x (items x) received) r j
      ∙ ap (λ b. cond (r == round && has js j) (items j) (cond (r == round && b) (items x) (received r j)))
      (either_way j x)
      ∙ next_at (r == round) (x == j) (has js j) x j (received r j) refl

lt_other : (r round : ℕ) → (r == round) ≡ false → nat_lt r (suc round) ≡ nat_lt r round
lt_other r round h = grind (arith, h)

module _ (M : MissionValue) (past : Past) (e : Cycle) (q : Channel) where
  abbrev items_of_round : ℕ → Channel → List ItemValue
  items_of_round round j = items_in (received_items M e.entries (length past) q) round j

  same_members : (a b : Bool) → (not (b || false) && a) ≡ (a && not b)
  same_members true true = refl
  same_members true false = refl
  same_members false true = refl
  same_members false false = refl

  others : (j : Channel) → has (without e.active (q ∷ [])) j ≡ (has e.active j && not (j == q))
  others j = has-filter (λ p. not (has (q ∷ []) p)) e.active j ∙ same_members (has e.active j) (q == j)
      ∙ ap (λ b. has e.active j && not b) (either_way q j)

  this_round : (members below above : Bool) (x : List ItemValue) → below ≡ false → above ≡ true →
      cond members x (cond ((below && true) && members) x []) ≡ cond ((above && true) && members) x []
  this_round true below above x h k = rw k refl
  this_round false below above x h k = rw (h, k) refl

  -- the exchanges of the other members
  pub receives : (round : ℕ) → 1 ≤ round → is_round e round ≡ true →
      with_round round (items_of_round round) (without e.active (q ∷ [])) (received_through M past e round q)
      ≡ received_through M past e (suc round) q
  receives round some there = fun_ext (λ r. fun_ext (λ j. at r j (r == round) refl))
    where
      at : (r : ℕ) (j : Channel) (same : Bool) → (r == round) ≡ same →
          with_round round (items_of_round round) (without e.active (q ∷ [])) (received_through M past e round q) r j
          ≡ received_through M past e (suc round) q r j
      at zero j true h = absurd (omega (arith, some, eqb-true 0 round h))
      at zero j false h = round_at round (items_of_round round) (without e.active (q ∷ []))
          (received_through M past e round q) zero j
          ∙ ap (λ b. cond (b && has (without e.active (q ∷ [])) j) (items_of_round round j) []) h
      at (suc r) j false h =
          round_at round (items_of_round round) (without e.active (q ∷ [])) (received_through M past e round q) (suc r)
          j
          ∙ ap (λ b. cond (b && has (without e.active (q ∷ [])) j) (items_of_round round j)
          (received_through M past e round q (suc r) j)) h
          ∙ ap (λ b. cond ((b && is_round e (suc r)) && (has e.active j && not (j == q))) (items_of_round (suc r) j) [])
          (sym (lt_other (suc r) round h))
      at (suc r) j true h =
          let k : suc r ≡ round = eqb-true (suc r) round h in
          round_at round (items_of_round round) (without e.active (q ∷ [])) (received_through M past e round q) (suc r)
          j
          ∙ ap (λ b. cond (b && has (without e.active (q ∷ [])) j) (items_of_round round j)
          (received_through M past e round q (suc r) j)) h
          ∙ ap (λ b. cond b (items_of_round round j) (received_through M past e round q (suc r) j)) (others j)
          ∙ ap (λ x. cond (has e.active j && not (j == q)) (items_of_round x j)
          (cond ((nat_lt (suc r) round && is_round e (suc r)) && (has e.active j && not (j == q)))
          (items_of_round (suc r) j) [])) (sym k)
          ∙ ap (λ b. cond (has e.active j && not (j == q)) (items_of_round (suc r) j)
          (cond ((nat_lt (suc r) round && b) && (has e.active j && not (j == q))) (items_of_round (suc r) j) []))
          (ap (is_round e) k ∙ there)
          ∙ this_round (has e.active j && not (j == q)) (nat_lt (suc r) round) (nat_lt (suc r) (suc round))
          (items_of_round (suc r) j) (grind (arith, k)) (grind (arith, k))
          ∙ ap (λ b. cond ((nat_lt (suc r) (suc round) && b) && (has e.active j && not (j == q)))
          (items_of_round (suc r) j) []) (sym (ap (is_round e) k ∙ there))

  no_change : (below above : Bool) (members : Bool) (x : List ItemValue) →
      cond ((below && false) && members) x [] ≡ cond ((above && false) && members) x []
  no_change true true members x = refl
  no_change true false members x = refl
  no_change false true members x = refl
  no_change false false members x = refl

  -- nothing is received in a round that there is not
  pub none_received : (round : ℕ) → is_round e round ≡ false →
      received_through M past e round q ≡ received_through M past e (suc round) q
  none_received round absent = fun_ext (λ r. fun_ext (λ j. at r j (r == round) refl))
    where
      at : (r : ℕ) (j : Channel) (same : Bool) → (r == round) ≡ same →
          received_through M past e round q r j ≡ received_through M past e (suc round) q r j
      at zero j same h = refl
      at (suc r) j false h = ap
          (λ b. cond ((b && is_round e (suc r)) && (has e.active j && not (j == q))) (items_of_round (suc r) j) [])
          (sym (lt_other (suc r) round h))
      at (suc r) j true h =
          let gone : is_round e (suc r) ≡ false = ap (is_round e) (eqb-true (suc r) round h) ∙ absent in
          ap (λ b. cond ((nat_lt (suc r) round && b) && (has e.active j && not (j == q))) (items_of_round (suc r) j) [])
          gone
          ∙ no_change (nat_lt (suc r) round) (nat_lt (suc r) (suc round)) (has e.active j && not (j == q))
          (items_of_round (suc r) j)
          ∙ ap (λ b. cond ((nat_lt (suc r) (suc round) && b) && (has e.active j && not (j == q)))
          (items_of_round (suc r) j) []) (sym gone)
