-- The record of a cycle, from what its parts left.
use Rattle.std.proofs.Common.{◌≡◌, ℕ, suc, ◌<◌, ◌&&◌, Bool, true, false, cond, List, [], ◌∷◌, Option, map, filter, length, refl, sym, ap, subst, ◌∙◌}
use Rattle.std.specs.List.{list_all, AllByRecursion}
use Rattle.std.proofs.lemmas.Bool.{leb-true}
use Rattle.guards_model.specs.declared.Slot.{Slot}
use Rattle.guards_model.specs.declared.Slot.TheVariants.{Vote, Tasks, Switch}
use Rattle.guards_model.specs.Slots.{slot_index}
use Rattle.guards_model.specs.Channels.{Channel, ChannelSet, place_or}
use Rattle.guards_model.specs.Missions.{MissionValue, IsMission}
use Rattle.guards_model.specs.Frames.{is_channel}
use Rattle.guards_model.specs.Modes.{down, is_up}
use Rattle.guards_model.specs.Network.{Log}
use Rattle.guards_model.specs.Rounds.{Steps, steps_of}
use Rattle.guards_model.specs.Ledgers.{LedgerValue, mode_of}
use Rattle.guards_model.specs.Texts.{LineValue, TraceValue, RecordValue}
use Rattle.guards_model.specs.Transfers.{TransferValue}
use Rattle.guards_model.specs.Records.{shown}
use Rattle.guards_model.proofs.BoolTests.{both}
use Rattle.guards_model.proofs.AscendingLists.{set_parts}
use Rattle.guards_model.proofs.Tables.{at-by_channel}
use Rattle.guards_runs.specs.Cycles.{Cycle, CycleStart, cycles_before, cycle_at, mode_in}
use Rattle.guards_runs.specs.Report.{line_of, channels_running_in, remaining_in, cycle_record}
use Rattle.guards_laws.proofs.CycleParts.{active-is, up_in_slot}
use Rattle.guards_laws.proofs.WithinChannels.{active_is_set}
use Rattle.guards_world.specs.InCycle.{ledger_in}
use Rattle.guards_world.specs.WorldCycle.{IsLinePadded}
use Rattle.icn_world.specs.Told.{shown_of, AreLinesOf, of_channels_up}

-- ---- filters

filters_twice : (t u v : Channel → Bool) → ((q : Channel) → q < 7 → (u q && t q) ≡ v q) → (qs : ChannelSet) →
    list_all is_channel qs ≡ true →
    filter t (filter u qs) ≡ filter v qs
filters_twice t u v same [] low = refl
filters_twice t u v same (q ∷ qs) low =
    let parts = both (is_channel q) (list_all is_channel qs) low in
    step (u q) (t q) (v q) refl (same q (leb-true (suc q) 7 parts.0)) (filters_twice t u v same qs parts.1)
  where
    step : (a b c : Bool) → t q ≡ b → (a && b) ≡ c → filter t (filter u qs) ≡ filter v qs →
        filter t (cond a (q ∷ filter u qs) (filter u qs)) ≡ cond c (q ∷ filter v qs) (filter v qs)
    step true true c is k h =
        rw (sym k) (ap (λ b. cond b (q ∷ filter t (filter u qs)) (filter t (filter u qs))) is ∙ ap (λ xs. q ∷ xs) h)
    step true false c is k h =
        rw (sym k) (ap (λ b. cond b (q ∷ filter t (filter u qs)) (filter t (filter u qs))) is ∙ h)
    step false b c is k h = rw (sym k) h

-- what is shown of a line keeps its channel
filter_shown : (s : LineValue → LineValue) (t : Channel → Bool) → ((l : LineValue) → (s l).channel ≡ l.channel) →
    (ls : List LineValue) →
    map s (filter (λ l. t l.channel) ls) ≡ filter (λ l. t l.channel) (map s ls)
filter_shown s t same [] = refl
filter_shown s t same (l ∷ ls) =
    step (t l.channel) (filter_shown s t same ls)
    ∙ ap (λ b. cond b (s l ∷ filter (λ x. t x.channel) (map s ls)) (filter (λ x. t x.channel) (map s ls)))
    (ap t (sym (same l)))
  where
    step : (b : Bool) → map s (filter (λ x. t x.channel) ls) ≡ filter (λ x. t x.channel) (map s ls) →
        map s (cond b (l ∷ filter (λ x. t x.channel) ls) (filter (λ x. t x.channel) ls))
        ≡ cond b (s l ∷ filter (λ x. t x.channel) (map s ls)) (filter (λ x. t x.channel) (map s ls))
    step true h = ap (λ xs. s l ∷ xs) h
    step false h = h

filter_lines : (h : Channel → LineValue) (t : Channel → Bool) → ((q : Channel) → (h q).channel ≡ q) →
    (qs : ChannelSet) →
    filter (λ l. t l.channel) (map h qs) ≡ map h (filter t qs)
filter_lines h t same [] = refl
filter_lines h t same (q ∷ qs) =
    ap (λ c. cond (t c) (h q ∷ filter (λ l. t l.channel) (map h qs)) (filter (λ l. t l.channel) (map h qs))) (same q)
    ∙ step (t q) (filter_lines h t same qs)
  where
    step : (b : Bool) → filter (λ l. t l.channel) (map h qs) ≡ map h (filter t qs) →
        cond b (h q ∷ filter (λ l. t l.channel) (map h qs)) (filter (λ l. t l.channel) (map h qs))
        ≡ map h (cond b (q ∷ filter t qs) (filter t qs))
    step true k = ap (λ xs. h q ∷ xs) k
    step false k = k

pub all_left : (P : LineValue → Type 0) (t : LineValue → Bool) (ls : List LineValue) → AllByRecursion P ls →
    AllByRecursion P (filter t ls)
all_left P t [] h = tt
all_left P t (l ∷ ls) h = step (t l) (all_left P t ls h.1)
  where
    step : (b : Bool) → AllByRecursion P (filter t ls) → AllByRecursion P (cond b (l ∷ filter t ls) (filter t ls))
    step true k = (h.0, k)
    step false k = k

-- ---- the lines at the end

both_up : (a b : Bool) → (b ≡ true → a ≡ true) → (a && b) ≡ b
both_up true b h = refl
both_up false true h = h refl
both_up false false h = refl

-- of the lines of the vote those remain whose channels still run in the last slot
pub lines_at_end : (M : MissionValue) (L : Log) (n : ℕ) → IsMission M → (lines : List LineValue) →
    AreLinesOf M (cycle_at M L n) Vote lines →
    AreLinesOf M (cycle_at M L n) Switch (of_channels_up (ledger_in M (cycle_at M L n) Switch) lines)
lines_at_end M L n mission lines are =
    let past = cycles_before M L n in
    let e = cycle_at M L n in
    let ledger : LedgerValue = ledger_in M e Switch in
    let t : Channel → Bool = λ q. is_up (mode_of ledger q) in
    let u : Channel → Bool = λ q. is_up (mode_in e q Vote) in
    let v : Channel → Bool = λ q. is_up (mode_in e q Switch) in
    let now : (q : Channel) → q < 7 →
    t q ≡ v q = λ q low. ap is_up (at-by_channel (λ p. mode_in e p Switch) q down low) in
    let low : list_all is_channel e.active ≡ true =
    subst (λ (s : ChannelSet). list_all is_channel s ≡ true) (sym (active-is M L past))
    (set_parts _ (active_is_set M past mission)).0 in (
      filter_shown (shown_of M) t (λ l. refl) lines
          ∙ ap (filter (λ (l : LineValue). t l.channel)) are.0
          ∙ filter_lines (line_of M e) t (λ q. refl) (channels_running_in Vote e)
          ∙ ap (map (line_of M e))
          (filters_twice t u v (λ q small. ap (λ b. u q && b) (now q small)
          ∙ both_up (u q) (v q) (up_in_slot M L past q Vote Switch small refl)) e.active low),
      all_left (IsLinePadded M) (λ l. t l.channel) lines are.1,
    )

-- ---- what stays

running_by : Slot → CycleStart → ChannelSet
running_by slot o = filter (λ p. is_up (place_or (place_or o.modes (slot_index slot) []) p down)) o.active

pub running_stays : (slot : Slot) (e e' : Cycle) → e'.opening ≡ e.opening →
    channels_running_in slot e' ≡ channels_running_in slot e
unfolding running_by
running_stays slot e e' same = ap (running_by slot) same

map_alike : {A : Type 0} (f g : Channel → A) → ((q : Channel) → f q ≡ g q) → (qs : ChannelSet) → map f qs ≡ map g qs
map_alike f g same [] = refl
map_alike f g same (q ∷ qs) = ap (λ x. x ∷ map f qs) (same q) ∙ ap (λ xs. g q ∷ xs) (map_alike f g same qs)

-- the lines of the vote stay those of a longer log, if the votes do
pub lines_stay : (M : MissionValue) (e e' : Cycle) (lines : List LineValue) → e'.opening ≡ e.opening →
    ((q : Channel) → line_of M e' q ≡ line_of M e q) →
    AreLinesOf M e Vote lines → AreLinesOf M e' Vote lines
lines_stay M e e' lines opening same are = (
  are.0 ∙ sym (map_alike (line_of M e') (line_of M e) same (channels_running_in Vote e))
      ∙ ap (map (line_of M e')) (sym (running_stays Vote e e' opening)),
  are.1,
)

-- ---- the record

record_alike : (cycle cycle' : ℕ) (active active' : ChannelSet) (transfer transfer' : Option TransferValue)
    (lines lines' : List LineValue) (traces traces' : List TraceValue)
    (removed removed' joined joined' : ChannelSet) (remaining remaining' : Option ℕ) → cycle ≡ cycle' →
    active ≡ active' → transfer ≡ transfer' → lines ≡ lines' → traces ≡ traces' →
    removed ≡ removed' → joined ≡ joined' → remaining ≡ remaining' →
    let one : RecordValue = record {
      cycle = cycle;
      active = active;
      transfer = transfer;
      lines = lines;
      traces = traces;
      removed = removed;
      joined = joined;
      remaining = remaining;
    } in
    let other : RecordValue =
    record {
      cycle = cycle';
      active = active';
      transfer = transfer';
      lines = lines';
      traces = traces';
      removed = removed';
      joined = joined';
      remaining = remaining';
    } in
    one ≡ other
record_alike c c' a a' t t' l l' tr tr' r r' j j' m m' e1 e2 e3 e4 e5 e6 e7 e8 = cc

-- what is shown of a record of these parts is the record of the cycle
pub record_shown : (M : MissionValue) (steps : Steps) (n : ℕ) (e : Cycle) (active : ChannelSet)
    (transfer : Option TransferValue) (lines : List LineValue) (traces : List TraceValue)
    (removed joined : ChannelSet) (remaining : Option ℕ) → active ≡ e.active → transfer ≡ e.transfer →
    AreLinesOf M e Switch lines →
    traces ≡ map (λ p. record { channel = p; steps = steps_of steps p }) (channels_running_in Tasks e) →
    removed ≡ e.removed → joined ≡ e.joined → remaining ≡ remaining_in e →
    shown M.rules.channels M.width (length M.outputs)
    (record {
      cycle = n;
      active = active;
      transfer = transfer;
      lines = lines;
      traces = traces;
      removed = removed;
      joined = joined;
      remaining = remaining;
    })
    ≡ cycle_record M steps n e
record_shown M steps n e active transfer lines traces removed joined remaining a t l tr r j m =
    record_alike n n active e.active transfer e.transfer (map (shown_of M) lines)
    (map (line_of M e) (channels_running_in Switch e)) traces
    (map (λ p. record { channel = p; steps = steps_of steps p }) (channels_running_in Tasks e)) removed e.removed joined
    e.joined remaining (remaining_in e) refl a t l.0 tr r j m
