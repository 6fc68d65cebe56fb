-- What a node owes by its state is what is due by the facts.
use Rattle.std.proofs.Common.{zero, suc, ◌≡◌, ◌==◌, ◌+◌, ℕ, ◌-◌, ◌≤◌, Bool, true, false, ◌&&◌, List, [], ◌∷◌, length, Option, None, Some, refl, ap, arith}
use Rattle.std.specs.Prelude.{nat_lt, if◌then◌else◌}
use Rattle.std.proofs.lemmas.Bool.{lt-ltb, le-leb, leb-true}
use Rattle.guards_model.specs.declared.Slot.{Slot}
use Rattle.guards_model.specs.declared.Slot.TheVariants.{Request, Round1, Round2, Round3, Tasks, Vote, Sweep, Final, Switch, Output}
use Rattle.guards_model.specs.Slots.{slot_index, stage_before}
use Rattle.guards_model.specs.Channels.{Channel, ChannelSet, has, tolerated_faults}
use Rattle.guards_model.specs.Missions.{MissionValue}
use Rattle.guards_model.specs.Frames.{ItemValue, BodyValue, exchange_body, request_body}
use Rattle.guards_model.specs.Modes.{ModeValue, up, down, waiting, joining}
use Rattle.guards_model.specs.OralMessages.{items_owed}
use Rattle.guards_model.specs.Transfers.{TransferValue}
use Rattle.guards_model.specs.Controls.{control_decided, word_of_control}
use Rattle.guards_model.specs.Rounds.{Steps}
use Rattle.guards_runs.specs.Cycles.{Past, Cycle, mode_in, held_start, source_word, received_items, items_in}
use Rattle.guards_runs.specs.Due.{exchange_of, is_round}
use Rattle.guards_runs.specs.Restoration.{carried_over, replica_after}
use Rattle.node_laws.proofs.Holding.{owed_same}
use Rattle.guards_nodes.specs.NodeSteps.{StandsFor}
use Rattle.guards_world.specs.NodeFacts.{state_in, state_of_mode, running_value_in, joiner_in, received_through}
use Rattle.guards_world.specs.OwedFrames.{body_of, body_due}

and_false : (b : Bool) → (b && false) ≡ false
and_false true = refl
and_false false = refl

module _ (M : MissionValue) (past : Past) (e : Cycle) (steps : Steps) (q : Channel)
    (active : (slot : Slot) → mode_in e q slot ≡ up → has e.active q ≡ true) where
  abbrev OwesTo : Slot → ℕ → Type 0
  OwesTo slot to =
      body_of M (received_through M past e (stage_before slot) q) slot to
      (state_in M past e steps slot (stage_before slot) q)
      ≡ body_due M past e steps slot q to

  -- ---- a joining channel

  request_by : (to : ℕ) → (carried_over M.rules.blocks q past (replica_after M q past)).have ≡ held_start q past →
      (m : ModeValue) → mode_in e q Request ≡ m → OwesTo Request to
  unfolding state_in
  request_by to own up h = rw h refl
  request_by to own down h = rw h refl
  request_by to own (waiting n) h = rw h refl
  request_by to own joining h = rw h (ap (λ start. Some (request_body start)) own)

  -- ---- the rounds

  -- in a round a member holds what it received in the rounds before
  earlier : (round r : ℕ) (j : Channel) → is_round e round ≡ true → 1 ≤ r → r ≤ round - 1 → has e.active j ≡ true →
      (j == q) ≡ false →
      received_through M past e round q r j ≡ items_in (received_items M e.entries (length past) q) r j
  earlier round zero j there low high active_j other = absurd (omega (arith, low))
  earlier round (suc r) j there low high active_j other =
      let before : nat_lt (suc r) round ≡ true = lt-ltb (suc r) round (omega (arith, low, high)) in
      let within : is_round e (suc r) ≡ true =
      le-leb (suc r) (tolerated_faults e.active + 1)
      (omega (arith, leb-true round (tolerated_faults e.active + 1) there, low, high)) in
      rw (before, within, active_j, other) refl

  exchanges : (round : ℕ) → is_round e round ≡ true →
      exchange_body (record {
        round = round;
        items = items_owed e.active M.width q (source_word M past q) (received_through M past e round q) round;
      })
      ≡ exchange_of M past e round q
  exchanges round there =
      ap (λ (items : List ItemValue). exchange_body (record { round = round; items = items }))
      (owed_same e.active M.width q (source_word M past q) (received_through M past e round q)
      (items_in (received_items M e.entries (length past) q)) (round - 1)
      (λ r j low high active_j other. earlier round r j there low high active_j other) round (omega arith))

  when : (b : Bool) (x y : BodyValue) → (b ≡ true → x ≡ y) →
      (if b then Some x else None) ≡ (if (b && true) then Some y else None)
  when true x y h = ap (λ z. Some z) (h refl)
  when false x y h = refl

  never : (b : Bool) (y : BodyValue) → None ≡ (if (b && false) then Some y else None)
  never true y = refl
  never false y = refl

  first_by : (to : ℕ) (m : ModeValue) → mode_in e q Round1 ≡ m → OwesTo Round1 to
  unfolding state_in
  first_by to up h = rw (h, active Round1 h) (when (is_round e 1) _ _ (exchanges 1))
  first_by to down h = rw (h, and_false (has e.active q)) (never (is_round e 1) (exchange_of M past e 1 q))
  first_by to (waiting n) h = rw (h, and_false (has e.active q)) (never (is_round e 1) (exchange_of M past e 1 q))
  first_by to joining h = rw (h, and_false (has e.active q)) (never (is_round e 1) (exchange_of M past e 1 q))

  second_by : (to : ℕ) (m : ModeValue) → mode_in e q Round2 ≡ m → OwesTo Round2 to
  unfolding state_in
  second_by to up h = rw (h, active Round2 h) (when (is_round e 2) _ _ (exchanges 2))
  second_by to down h = rw (h, and_false (has e.active q)) (never (is_round e 2) (exchange_of M past e 2 q))
  second_by to (waiting n) h = rw (h, and_false (has e.active q)) (never (is_round e 2) (exchange_of M past e 2 q))
  second_by to joining h = rw (h, and_false (has e.active q)) (never (is_round e 2) (exchange_of M past e 2 q))

  third_by : (to : ℕ) (m : ModeValue) → mode_in e q Round3 ≡ m → OwesTo Round3 to
  unfolding state_in
  third_by to up h = rw (h, active Round3 h) (when (is_round e 3) _ _ (exchanges 3))
  third_by to down h = rw (h, and_false (has e.active q)) (never (is_round e 3) (exchange_of M past e 3 q))
  third_by to (waiting n) h = rw (h, and_false (has e.active q)) (never (is_round e 3) (exchange_of M past e 3 q))
  third_by to joining h = rw (h, and_false (has e.active q)) (never (is_round e 3) (exchange_of M past e 3 q))

  -- ---- the vote and the switch

  vote_by : (to : ℕ) (m : ModeValue) → mode_in e q Vote ≡ m → OwesTo Vote to
  unfolding state_in
  vote_by to up h = rw (h, active Vote h) refl
  vote_by to down h = rw (h, and_false (has e.active q)) refl
  vote_by to (waiting n) h = rw (h, and_false (has e.active q)) refl
  vote_by to joining h = rw (h, and_false (has e.active q)) refl

  switch_by : (to : ℕ) (m : ModeValue) → mode_in e q Switch ≡ m → OwesTo Switch to
  unfolding state_in
  switch_by to up h = rw (h, active Switch h) refl
  switch_by to down h = rw (h, and_false (has e.active q)) refl
  switch_by to (waiting n) h = rw (h, and_false (has e.active q)) refl
  switch_by to joining h = rw (h, and_false (has e.active q)) refl

  -- ---- the sweep and the final frame

  sweep_up : (to : ℕ) → mode_in e q Sweep ≡ up → (t : Option TransferValue) → e.transfer ≡ t → OwesTo Sweep to
  unfolding state_in control_decided
  sweep_up to h None runs = rw (h, active Sweep h, runs) refl
  sweep_up to h (Some t) runs = rw (h, active Sweep h, runs) refl

  sweep_by : (to : ℕ) (m : ModeValue) → mode_in e q Sweep ≡ m → OwesTo Sweep to
  unfolding state_in
  sweep_by to up h = sweep_up to h e.transfer refl
  sweep_by to down h = rw (h, and_false (has e.active q)) refl
  sweep_by to (waiting n) h = rw (h, and_false (has e.active q)) refl
  sweep_by to joining h = rw (h, and_false (has e.active q)) refl

  final_up : (to : ℕ) → mode_in e q Final ≡ up → (joined : ChannelSet) → e.joined ≡ joined → OwesTo Final to
  unfolding state_in word_of_control
  final_up to h [] joins = rw (h, active Final h, joins) refl
  final_up to h (p ∷ joined) joins = rw (h, active Final h, joins) refl

  final_by : (to : ℕ) (m : ModeValue) → mode_in e q Final ≡ m → OwesTo Final to
  unfolding state_in
  final_by to up h = final_up to h e.joined refl
  final_by to down h = rw (h, and_false (has e.active q)) refl
  final_by to (waiting n) h = rw (h, and_false (has e.active q)) refl
  final_by to joining h = rw (h, and_false (has e.active q)) refl

  -- ---- each slot

  pub owes : (carried_over M.rules.blocks q past (replica_after M q past)).have ≡ held_start q past →
      (slot : Slot) (to : ℕ) → OwesTo slot to
  owes own Request to = request_by to own (mode_in e q Request) refl
  owes own Round1 to = first_by to (mode_in e q Round1) refl
  owes own Round2 to = second_by to (mode_in e q Round2) refl
  owes own Round3 to = third_by to (mode_in e q Round3) refl
  owes own Tasks to = refl
  owes own Vote to = vote_by to (mode_in e q Vote) refl
  owes own Sweep to = sweep_by to (mode_in e q Sweep) refl
  owes own Final to = final_by to (mode_in e q Final) refl
  owes own Switch to = switch_by to (mode_in e q Switch) refl
  owes own Output to = refl

-- a node's tree is made of what it received in the rounds that are done
pub stands : (M : MissionValue) (past : Past) (e : Cycle) (steps : Steps) (slot : Slot) (done : ℕ) (q : Channel) →
    StandsFor (state_in M past e steps slot done q) (received_through M past e done q)
unfolding state_in
stands M past e steps slot done q = by (mode_in e q slot)
  where
    by : (m : ModeValue) → StandsFor
        (state_of_mode (running_value_in M past e steps done q) (joiner_in M past e done q) m)
        (received_through M past e done q)
    by up = refl
    by down = tt
    by (waiting n) = tt
    by joining = tt
