-- The ledger, kept step by step, has the modes and the marks that the facts say; and with it the disturbed channels are
-- those of the facts.
use Rattle.std.proofs.Common.{◌≡◌, ℕ, zero, suc, ◌*◌, ◌<◌, Bool, true, false, cond, not, ◌&&◌, ◌||◌, List, ◌∷◌, length, refl, sym, ap, ◌∙◌}
use Rattle.std.specs.Prelude.{nat_le}
use Rattle.std.specs.List.{list_any}
use Rattle.std.proofs.lemmas.Bool.{leb-true}
use Rattle.guards_model.specs.declared.Slot.{Slot}
use Rattle.guards_model.specs.declared.Slot.TheVariants.{Request, Switch}
use Rattle.guards_model.specs.Slots.{up_to, on_bus}
use Rattle.guards_model.specs.Channels.{Channel, ChannelSet, has, by_channel, channels_where, every_channel}
use Rattle.guards_model.specs.Damages.{is_damage}
use Rattle.guards_model.specs.Frames.{is_channel}
use Rattle.guards_model.specs.Missions.{MissionValue, IsMission}
use Rattle.guards_model.specs.Network.{Log}
use Rattle.guards_model.specs.Modes.{ModeValue, up, down, waiting, joining, is_up, is_joining, is_restart, is_crash_by, mode_at_start, mode_at_end, scripted_mode_at_start, scripted_mode_in_slot}
use Rattle.guards_model.specs.Ledgers.{LedgerValue, mode_of, turned_joining, ledger_at_start, ledger_in_slot, ledger_at_end, disturbed_by, limit_reached}
use Rattle.guards_model.proofs.Tables.{at-by_channel, has-channels_where}
use Rattle.guards_model.proofs.AscendingLists.{member_passes, set_parts}
use Rattle.guards_model.proofs.BoolTests.{both, differ}
use Rattle.guards_model.proofs.Majorities.{any_weaken}
use Rattle.guards_model.proofs.TagSteps.{filter_alike}
use Rattle.guards_runs.specs.Cycles.{Past, Cycle, mode_in, is_damaged, mode_after, was_damaged, is_whole, active_set, next_cycle, cycles_before}
use Rattle.guards_runs.specs.Disturbed.{is_charge, disturbed_channels, halts}
use Rattle.guards_laws.proofs.HeldIdeal.{start-is, slot_mode, damaged-is}
use Rattle.guards_laws.proofs.CycleParts.{by_channel-same, active-is}
use Rattle.guards_laws.proofs.WithinChannels.{active_is_set}
use Rattle.guards_world.specs.NodeFacts.{ledger_at, mode_at_opening}
use Rattle.guards_world.specs.SlotSteps.{begins_to_join}
use Rattle.guards_world.specs.InCycle.{ledger_in}
use Rattle.node_laws.proofs.Ending.{crash_stays, on_before}

channels_where-same : (t u : Channel → Bool) → ((q : Channel) → q < 7 → t q ≡ u q) → channels_where t ≡ channels_where u
unfolding channels_where
channels_where-same t u same =
    filter_alike t u every_channel
    (λ q there. same q (leb-true (suc q) 7 (member_passes is_channel every_channel q refl there)))

abbrev ledger_of : ℕ → List ModeValue → ChannelSet → LedgerValue
ledger_of k modes damaged = record { return_after = k; modes = modes; damaged = damaged }

-- two ledgers that agree at each channel are one
ledgers_same : (k : ℕ) (m n : Channel → ModeValue) (a b : Channel → Bool) → ((q : Channel) → q < 7 → m q ≡ n q) →
    ((q : Channel) → q < 7 → a q ≡ b q) →
    ledger_of k (by_channel m) (channels_where a) ≡ ledger_of k (by_channel n) (channels_where b)
ledgers_same k m n a b modes marks =
    ap (λ x. ledger_of k x (channels_where a)) (by_channel-same m n modes)
    ∙ ap (ledger_of k (by_channel n)) (channels_where-same a b marks)

-- ---- the opening

-- a mark lasts of a channel that was up
opened_mark : (restarted hit was : Bool) (m : ModeValue) →
    (is_up (mode_at_start restarted m) && (hit || (is_up m && was)))
    ≡ (is_up (mode_at_start restarted m) && (hit || was))
opened_mark restarted hit was up = refl
opened_mark true hit was down = refl
opened_mark false hit was down = refl
opened_mark restarted hit was (waiting zero) = refl
opened_mark restarted hit was (waiting (suc n)) = refl
opened_mark restarted hit was joining = refl

-- in a slot
slot_mark : (crashed earlier damaged : Bool) (m : ModeValue) → (earlier ≡ true → crashed ≡ true) →
    (is_up (cond crashed down (cond earlier down m)) && (false || (damaged && is_up (cond earlier down m))))
    ≡ (damaged && is_up (cond crashed down m))
slot_mark true earlier true m h = refl
slot_mark true earlier false m h = refl
slot_mark false true damaged m h = differ (sym (h refl))
slot_mark false false true up h = refl
slot_mark false false false up h = refl
slot_mark false false true down h = refl
slot_mark false false false down h = refl
slot_mark false false true (waiting n) h = refl
slot_mark false false false (waiting n) h = refl
slot_mark false false true joining h = refl
slot_mark false false false joining h = refl

slot_mode_same : (crashed earlier : Bool) (m : ModeValue) → (earlier ≡ true → crashed ≡ true) →
    cond crashed down (cond earlier down m) ≡ cond crashed down m
slot_mode_same true earlier m h = refl
slot_mode_same false true m h = differ (sym (h refl))
slot_mode_same false false m h = refl

-- the first slot, of a channel with this mode and mark at the start
first_mark : (crashed hit was : Bool) (m : ModeValue) →
    (is_up (cond crashed down m) && (false || (is_up m && (hit || was))))
    ≡ ((is_up m && (hit || was)) && is_up (cond crashed down m))
first_mark true true was up = refl
first_mark true false true up = refl
first_mark true false false up = refl
first_mark false true was up = refl
first_mark false false true up = refl
first_mark false false false up = refl
first_mark true hit was down = refl
first_mark false hit was down = refl
first_mark true hit was (waiting n) = refl
first_mark false hit was (waiting n) = refl
first_mark true hit was joining = refl
first_mark false hit was joining = refl

-- at the end
end_mark : (k : ℕ) (on taken : Bool) (damaged : Bool) (m : ModeValue) → (damaged ≡ true → is_joining m ≡ false) →
    (is_up (mode_at_end k on taken m) && (false || (damaged && is_up m)))
    ≡ (is_up (mode_at_end k on taken m) && damaged)
end_mark k true taken true up h = refl
end_mark k true taken false up h = refl
end_mark k false taken damaged up h = refl
end_mark k on taken damaged down h = refl
end_mark k on taken damaged (waiting n) h = refl
end_mark k on taken true joining h = differ (h refl)
end_mark k on true false joining h = refl
end_mark k on false false joining h = refl

taken_same : (k : ℕ) (on a b : Bool) (m : ModeValue) → (is_joining m ≡ true → a ≡ b) →
    mode_at_end k on a m ≡ mode_at_end k on b m
taken_same k on a b up h = refl
taken_same k on a b down h = refl
taken_same k on a b (waiting n) h = refl
taken_same k on a b joining h = ap (λ t. mode_at_end k on t joining) (h refl)

up_not_joining : (crashed : Bool) (m : ModeValue) → is_up m ≡ true → is_joining (cond crashed down m) ≡ false
up_not_joining true m h = refl
up_not_joining false up h = refl
up_not_joining false down h = refl
up_not_joining false (waiting n) h = refl
up_not_joining false joining h = absurd cc

module _ (M : MissionValue) (L : Log) (past : Past) where
  abbrev e : Cycle
  e = next_cycle M L past

  abbrev c : ℕ
  c = length past

  was_mode : (q : Channel) → q < 7 → mode_of (ledger_at M past) q ≡ mode_after M past q
  was_mode q low = at-by_channel (mode_after M past) q down low

  opening_mode : (q : Channel) → q < 7 →
      mode_of (ledger_at_start M.script c (ledger_at M past)) q ≡ mode_at_opening M past q
  opening_mode q low =
      at-by_channel (λ q. scripted_mode_at_start M.script q c (mode_of (ledger_at M past) q)) q down low
      ∙ ap (scripted_mode_at_start M.script q c) (was_mode q low)

  -- who begins to join
  pub begins : (q : Channel) → q < 7 →
      has (turned_joining (ledger_at M past) (ledger_at_start M.script c (ledger_at M past))) q
      ≡ begins_to_join M past q
  begins q low =
      let J : ModeValue → ModeValue → Bool = λ now was. is_joining now && not (is_joining was) in
      has-channels_where (λ q. J (mode_of (ledger_at_start M.script c (ledger_at M past)) q)
      (mode_of (ledger_at M past) q)) q low
      ∙ ap (λ m. J m (mode_of (ledger_at M past) q)) (opening_mode q low)
      ∙ ap (J (mode_at_opening M past q)) (was_mode q low)

  abbrev opening_mark : Channel → Bool
  opening_mark q = is_up (mode_at_opening M past q) && (list_any (is_damage q c) M.script || was_damaged past q)

  -- the ledger at the cycle's start
  pub opens : ledger_at_start M.script c (ledger_at M past)
      ≡ ledger_of M.return_after (by_channel (mode_at_opening M past)) (channels_where opening_mark)
  opens =
      ledgers_same M.return_after (λ q. scripted_mode_at_start M.script q c (mode_of (ledger_at M past) q))
      (mode_at_opening M past)
      (λ q. is_up (scripted_mode_at_start M.script q c (mode_of (ledger_at M past) q))
      && (list_any (is_damage q c) M.script || has (ledger_at M past).damaged q)) opening_mark
      (λ q low. ap (scripted_mode_at_start M.script q c) (was_mode q low))
      (λ q low.
      ap (λ m. is_up (scripted_mode_at_start M.script q c m)
      && (list_any (is_damage q c) M.script || has (ledger_at M past).damaged q)) (was_mode q low)
      ∙ ap (λ b. is_up (mode_at_opening M past q) && (list_any (is_damage q c) M.script || b))
      (has-channels_where (λ q. is_up (mode_after M past q) && was_damaged past q) q low)
      ∙ opened_mark (list_any (is_restart q c) M.script) (list_any (is_damage q c) M.script) (was_damaged past q)
      (mode_after M past q))

  abbrev crashed : Slot → Channel → Bool
  crashed slot q = list_any (is_crash_by q c slot) M.script

  -- what the facts say of a channel in a slot
  mode_is : (q : Channel) (low : q < 7) (slot : Slot) → on_bus slot ≡ true →
      mode_in e q slot ≡ cond (crashed slot q) down (mode_at_opening M past q)
  mode_is q low slot on = slot_mode M L past q low slot on ∙ ap (cond (crashed slot q) down) (start-is M L past q low)

  mark_is : (q : Channel) (low : q < 7) → has e.damaged q ≡ opening_mark q
  mark_is q low =
      damaged-is M L past q low
      ∙ ap (λ m. is_up m && (list_any (is_damage q c) M.script || was_damaged past q)) (start-is M L past q low)

  -- the first slot
  pub enters : ledger_in_slot M.script c Request (ledger_at_start M.script c (ledger_at M past)) ≡ ledger_in M e Request
  enters =
      let K : LedgerValue = ledger_of M.return_after (by_channel (mode_at_opening M past))
      (channels_where opening_mark) in
      ap (ledger_in_slot M.script c Request) opens
      ∙ ledgers_same M.return_after (λ q. scripted_mode_in_slot M.script q c Request (mode_of K q))
      (λ q. mode_in e q Request)
      (λ q. is_up (scripted_mode_in_slot M.script q c Request (mode_of K q)) && (false || has K.damaged q))
      (λ q. is_damaged e q Request)
      (λ q low. ap (cond (crashed Request q) down) (at-by_channel (mode_at_opening M past) q down low)
      ∙ sym (mode_is q low Request refl))
      (λ q low.
      ap (λ m. is_up (cond (crashed Request q) down m) && (false || has K.damaged q))
      (at-by_channel (mode_at_opening M past) q down low)
      ∙ ap (λ b. is_up (cond (crashed Request q) down (mode_at_opening M past q)) && (false || b))
      (has-channels_where opening_mark q low)
      ∙ first_mark (crashed Request q) (list_any (is_damage q c) M.script) (was_damaged past q)
      (mode_at_opening M past q)
      ∙ ap (λ m. opening_mark q && is_up m) (sym (mode_is q low Request refl))
      ∙ ap (λ b. b && is_up (mode_in e q Request)) (sym (mark_is q low)))

  -- a later slot
  pub goes_on : (before slot : Slot) → up_to before slot ≡ true → on_bus slot ≡ true →
      ledger_in_slot M.script c slot (ledger_in M e before) ≡ ledger_in M e slot
  goes_on before slot soon on =
      let K : LedgerValue = ledger_in M e before in
      let was : (q : Channel) (low : q < 7) → mode_of K q ≡ cond (crashed before q) down (mode_at_opening M past q) =
      λ q low. at-by_channel (λ q. mode_in e q before) q down low
      ∙ mode_is q low before (on_before before slot soon on) in
      let stays : (q : Channel) → crashed before q ≡ true → crashed slot q ≡ true =
      λ q. any_weaken (is_crash_by q c before) (is_crash_by q c slot) M.script (crash_stays q c before slot soon) in
      ledgers_same M.return_after (λ q. scripted_mode_in_slot M.script q c slot (mode_of K q)) (λ q. mode_in e q slot)
      (λ q. is_up (scripted_mode_in_slot M.script q c slot (mode_of K q)) && (false || has K.damaged q))
      (λ q. is_damaged e q slot)
      (λ q low.
      ap (cond (crashed slot q) down) (was q low)
      ∙ slot_mode_same (crashed slot q) (crashed before q) (mode_at_opening M past q) (stays q)
      ∙ sym (mode_is q low slot on))
      (λ q low.
      ap (λ m. is_up (cond (crashed slot q) down m) && (false || has K.damaged q)) (was q low)
      ∙ ap (λ b. is_up (cond (crashed slot q) down (cond (crashed before q) down (mode_at_opening M past q)))
      && (false || b))
      (has-channels_where (λ q. is_damaged e q before) q low
      ∙ ap (λ m. has e.damaged q && is_up m) (mode_is q low before (on_before before slot soon on)))
      ∙ slot_mark (crashed slot q) (crashed before q) (has e.damaged q) (mode_at_opening M past q) (stays q)
      ∙ ap (λ m. has e.damaged q && is_up m) (sym (mode_is q low slot on)))

  -- the end, where the channels that are on are those of the next active set, and those that took are the whole ones
  pub ends : (on taken : ChannelSet) → ((q : Channel) → q < 7 → has on q ≡ has (active_set M (e ∷ past)) q) →
      ((q : Channel) → q < 7 → is_joining (mode_in e q Switch) ≡ true → has taken q ≡ is_whole q (e ∷ past)) →
      ledger_at_end on taken (ledger_in M e Switch) ≡ ledger_at M (e ∷ past)
  ends on taken are_on are_taken =
      let K : LedgerValue = ledger_in M e Switch in
      let was : (q : Channel) (low : q < 7) →
      mode_of K q ≡ mode_in e q Switch = λ q low. at-by_channel (λ q. mode_in e q Switch) q down low in
      let is : (q : Channel) (low : q < 7) →
      mode_at_end M.return_after (has on q) (has taken q) (mode_of K q) ≡ mode_after M (e ∷ past) q =
      λ q low.
      ap (mode_at_end M.return_after (has on q) (has taken q)) (was q low)
      ∙ ap (λ b. mode_at_end M.return_after b (has taken q) (mode_in e q Switch)) (are_on q low)
      ∙ taken_same M.return_after (has (active_set M (e ∷ past)) q) (has taken q) (is_whole q (e ∷ past))
      (mode_in e q Switch) (are_taken q low) in
      ledgers_same M.return_after (λ q. mode_at_end M.return_after (has on q) (has taken q) (mode_of K q))
      (mode_after M (e ∷ past))
      (λ q. is_up (mode_at_end M.return_after (has on q) (has taken q) (mode_of K q)) && (false || has K.damaged q))
      (λ q. is_up (mode_after M (e ∷ past) q) && was_damaged (e ∷ past) q) is
      (λ q low.
      ap (λ m. is_up m && (false || has K.damaged q)) (is q low)
      ∙ ap (λ b. is_up (mode_after M (e ∷ past) q) && (false || b))
      (has-channels_where (λ q. is_damaged e q Switch) q low)
      ∙ end_mark M.return_after (has (active_set M (e ∷ past)) q) (is_whole q (e ∷ past)) (has e.damaged q)
      (mode_in e q Switch)
      (λ marked.
      ap is_joining (mode_is q low Switch refl)
      ∙ up_not_joining (crashed Switch q) (mode_at_opening M past q)
      (both (is_up (mode_at_opening M past q)) (list_any (is_damage q c) M.script || was_damaged past q)
      (sym (mark_is q low) ∙ marked)).0))

-- ---- who is disturbed

pub disturbed_are : (M : MissionValue) (L : Log) (n : ℕ) → IsMission M → (slot : Slot) (charged : ChannelSet) →
    ((q : Channel) → q < 7 → has charged q
    ≡ list_any (is_charge n slot q) (next_cycle M L (cycles_before M L n)).entries) →
    disturbed_by (next_cycle M L (cycles_before M L n)).active charged
    (ledger_in M (next_cycle M L (cycles_before M L n)) slot)
    ≡ disturbed_channels n (next_cycle M L (cycles_before M L n)) slot
disturbed_are M L n mission slot charged are_charged =
    let past = cycles_before M L n in
    let e = next_cycle M L past in
    let K : LedgerValue = ledger_in M e slot in
    filter_alike (λ q. (not (is_up (mode_of K q)) || has K.damaged q) || has charged q)
    (λ q. (not (is_up (mode_in e q slot)) || is_damaged e q slot) || list_any (is_charge n slot q) e.entries) e.active
    (λ q there.
    let set = set_parts (active_set M past) (active_is_set M past mission) in
    let low : q < 7 = leb-true (suc q) 7
    (member_passes is_channel (active_set M past) q set.0
    (sym (ap (λ (s : ChannelSet). has s q) (active-is M L past)) ∙ there)) in
    ap (λ m. (not (is_up m) || has K.damaged q) || has charged q) (at-by_channel (λ q. mode_in e q slot) q down low)
    ∙ ap (λ b. (not (is_up (mode_in e q slot)) || b) || has charged q)
    (has-channels_where (λ q. is_damaged e q slot) q low)
    ∙ ap (λ b. (not (is_up (mode_in e q slot)) || is_damaged e q slot) || b) (are_charged q low))

pub stop_is : (M : MissionValue) (L : Log) (n : ℕ) → IsMission M → (slot : Slot) (charged : ChannelSet) →
    ((q : Channel) → q < 7 → has charged q
    ≡ list_any (is_charge n slot q) (next_cycle M L (cycles_before M L n)).entries) →
    limit_reached (next_cycle M L (cycles_before M L n)).active charged
    (ledger_in M (next_cycle M L (cycles_before M L n)) slot)
    ≡ halts n (next_cycle M L (cycles_before M L n)) slot
stop_is M L n mission slot charged are_charged =
    ap (λ (s : ChannelSet). nat_le (length (next_cycle M L (cycles_before M L n)).active) (3 * length s))
    (disturbed_are M L n mission slot charged are_charged)
