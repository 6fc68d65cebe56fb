-- Where the auditor stands, line by line.
use Rattle.std.proofs.Common.{◌≡◌, ℕ, zero, suc, ◌<◌, ◌≤◌, ◌==◌, Bool, true, false, cond, ◌&&◌, ◌||◌, ℤ, List, [], ◌∷◌, length, Option, None, Some, refl, sym, ap, subst, ◌∙◌, arith}
use Rattle.std.specs.Prelude.{slice_index, filter, IsSome, nat_le, nat_lt, take, option_map, bytes_eq}
use Rattle.std.specs.List.{list_all}
use Rattle.std.proofs.lemmas.Bool.{leb-true, eqb-true}
use Rattle.std.proofs.lemmas.Slice.Eq.{bytes_eq-Decides}
use Rattle.guards_model.specs.Channels.{ChannelSet, has, place_or}
use Rattle.guards_model.specs.Contexts.{ContextValue}
use Rattle.guards_model.specs.Decisions.{has_started}
use Rattle.guards_model.specs.Missions.{MissionValue, ActuatorValue, within, written_blocks}
use Rattle.guards_model.specs.Records.{transfer_of_pair}
use Rattle.guards_model.specs.Texts.{LineValue, RecordValue, TraceValue}
use Rattle.guards_model.specs.Transfers.{TransferValue, TransferCycle, cyclic_from, planned_blocks, remains, sweep_cursor}
use Rattle.guards_model.proofs.BoolTests.{both}
use Rattle.guards_audit.specs.Lines.{channel_told, cycle_told, done_told, end_told, head_told, out_told, steps_told, opened_record, is_empty}
use Rattle.guards_audit.specs.Told.{Told, next_cycle_number, active_told, context_told, plan_told, swept_told, with_line, with_steps}
use Rattle.guards_audit.specs.Tests.{continues, cycle_fits, channel_fits, transfer_goes_on, is_passive, are_same_words, steps_fit, end_fits, transfer_fits, words_fit}
use Rattle.guards_audit.specs.Consistency as place
use Rattle.guards_audit.specs.Consistency.{suits_place, following_place}
use Rattle.guards_audit.specs.Verdicts.{is_at_end}
use Rattle.told_cycles.specs.Sweeping.{SweepsFor}
use Rattle.told_cycles.specs.declared.sweeps.Sweeps.{Sweeps}
use Rattle.told_cycles.specs.declared.auditor.Auditor.{Auditor}
use Rattle.told_cycles.specs.declared.auditor.Place.{Place}
use Rattle.told_cycles.specs.declared.auditor.Place.TheVariants as at
use Rattle.told_cycles.specs.Rules.{most_planned}
use Rattle.told_cycles.specs.Standing.{HasStarted, IsAmid, IsBetweenCycles, Knows, StandsAt, SweepsAt, is_amid, is_awaiting, is_between_cycles, is_ended, is_head, shown_in, transfer_told}

pub differ : {A : Type 0} → true ≡ false → A
differ h = absurd (wrong h)
  where
    wrong : true ≡ false → ⊥
    wrong k = cc

-- ---- the places of a line

other_place : (test : Place → Bool) (a b : Place) → a ≡ b → test b ≡ false → test a ≡ true → ⊥
other_place test a b e h k = differ (sym k ∙ ap test e ∙ h)

pub head_no : (M : MissionValue) (p : place.Place) (a : Auditor) (n m : ℕ) → StandsAt M p a →
    (is_head a.place ≡ true → (n == M.rules.channels && m == M.cycles) ≡ false) →
    suits_place M p (head_told n m) ≡ false
head_no M place.at_head a n m h f = f (ap is_head h.0)
head_no M (place.between told) a n m h f = refl
head_no M (place.amid told r) a n m h f = refl
head_no M (place.awaits_out told) a n m h f = refl
head_no M place.at_end a n m h f = refl

pub head_yes : (M : MissionValue) (p : place.Place) (a new : Auditor) (n m : ℕ) → StandsAt M p a →
    is_head a.place ≡ true → (n == M.rules.channels && m == M.cycles) ≡ true →
    (IsBetweenCycles M [] a → StandsAt M (place.between []) new) →
    (suits_place M p (head_told n m) ≡ true) × StandsAt M (following_place M p (head_told n m)) new
head_yes M place.at_head a new n m h is fits f = (fits, f h.1)
head_yes M (place.between told) a new n m h is fits f = absurd (other_place is_head a.place at.Between h.0 refl is)
head_yes M (place.amid told r) a new n m h is fits f = absurd (other_place is_head a.place at.Amid h.0 refl is)
head_yes M (place.awaits_out told) a new n m h is fits f = absurd (other_place is_head a.place at.Awaits h.0 refl is)
head_yes M place.at_end a new n m h is fits f = absurd (other_place is_head a.place at.Over h refl is)

pub done_no : (M : MissionValue) (p : place.Place) (a : Auditor) (m : ℕ) → StandsAt M p a →
    (is_between_cycles a.place ≡ true → (told : Told) → IsBetweenCycles M told a →
    (next_cycle_number told == M.cycles && m == M.cycles) ≡ false) → suits_place M p (done_told m) ≡ false
done_no M place.at_head a m h f = refl
done_no M (place.between told) a m h f = f (ap is_between_cycles h.0) told h.1
done_no M (place.amid told r) a m h f = refl
done_no M (place.awaits_out told) a m h f = refl
done_no M place.at_end a m h f = refl

pub done_yes : (M : MissionValue) (p : place.Place) (a new : Auditor) (m : ℕ) → StandsAt M p a →
    is_between_cycles a.place ≡ true →
    ((told : Told) → IsBetweenCycles M told a → (next_cycle_number told == M.cycles && m == M.cycles) ≡ true) →
    new.place ≡ at.Over →
    (suits_place M p (done_told m) ≡ true) × StandsAt M (following_place M p (done_told m)) new
done_yes M place.at_head a new m h is f over = absurd (other_place is_between_cycles a.place at.Head h.0 refl is)
done_yes M (place.between told) a new m h is f over = (f told h.1, over)
done_yes M (place.amid told r) a new m h is f over = absurd (other_place is_between_cycles a.place at.Amid h.0 refl is)
done_yes M (place.awaits_out told) a new m h is f over =
    absurd (other_place is_between_cycles a.place at.Awaits h.0 refl is)
done_yes M place.at_end a new m h is f over = absurd (other_place is_between_cycles a.place at.Over h refl is)

pub out_no : (M : MissionValue) (p : place.Place) (a : Auditor) (words : List ℤ) → StandsAt M p a →
    (is_awaiting a.place ≡ true → (told : Told) → IsBetweenCycles M told a → IsSome M.actuator →
    words_fit M.actuator told words ≡ false) → suits_place M p (out_told words) ≡ false
out_no M place.at_head a words h f = refl
out_no M (place.between told) a words h f = refl
out_no M (place.amid told r) a words h f = refl
out_no M (place.awaits_out told) a words h f = f (ap is_awaiting h.0) told h.1 h.2
out_no M place.at_end a words h f = refl

pub out_yes : (M : MissionValue) (p : place.Place) (a new : Auditor) (words : List ℤ) → StandsAt M p a →
    is_awaiting a.place ≡ true →
    ((told : Told) → IsBetweenCycles M told a → IsSome M.actuator →
    (words_fit M.actuator told words ≡ true) × StandsAt M (place.between told) new) →
    (suits_place M p (out_told words) ≡ true) × StandsAt M (following_place M p (out_told words)) new
out_yes M place.at_head a new words h is f = absurd (other_place is_awaiting a.place at.Head h.0 refl is)
out_yes M (place.between told) a new words h is f = absurd (other_place is_awaiting a.place at.Between h.0 refl is)
out_yes M (place.amid told r) a new words h is f = absurd (other_place is_awaiting a.place at.Amid h.0 refl is)
out_yes M (place.awaits_out told) a new words h is f = f told h.1 h.2
out_yes M place.at_end a new words h is f = absurd (other_place is_awaiting a.place at.Over h refl is)

-- the trace is told to its end just where no line may follow
pub ended_is : (M : MissionValue) (p : place.Place) (a : Auditor) → StandsAt M p a → is_ended a.place ≡ is_at_end p
ended_is M place.at_head a h = ap is_ended h.0
ended_is M (place.between told) a h = ap is_ended h.0
ended_is M (place.amid told r) a h = ap is_ended h.0
ended_is M (place.awaits_out told) a h = ap is_ended h.0
ended_is M place.at_end a h = ap is_ended h

pub amid_is : (p : Place) → is_amid p ≡ true → p ≡ at.Amid
amid_is at.Head h = differ (sym h)
amid_is at.Between h = differ (sym h)
amid_is at.Amid h = refl
amid_is at.Awaits h = differ (sym h)
amid_is at.Over h = differ (sym h)

-- between two cycles only the place changes
pub between_still : (M : MissionValue) (told : Told) (old : Auditor) (p : Place) → IsBetweenCycles M told old →
    IsBetweenCycles M told (record old { place = p })
between_still M told old p h =
    record {
      knows = record {
        done = h.knows.done;
        active = h.knows.active;
        joined = h.knows.joined;
        transfer = h.knows.transfer;
        started = h.knows.started;
        context = h.knows.context;
        counts = h.knows.counts;
        words = h.knows.words;
      };
      sweeps = h.sweeps;
    }

-- words of an actuator are those that were told
pub words_same : (M : MissionValue) (told : Told) (a : Auditor) (words : List ℤ) (b : Bool) → IsBetweenCycles M told a →
    IsSome M.actuator → b ≡ are_same_words words (take (length M.outputs) a.words) →
    words_fit M.actuator told words ≡ b
words_same M told a words b h some e = by_actuator M.actuator refl some
  where
    by_actuator : (o : Option ActuatorValue) → M.actuator ≡ o → IsSome o → words_fit o told words ≡ b
    by_actuator None k none = differ (sym none)
    by_actuator (Some actuator) k there = ap (are_same_words words) (sym (h.knows.words actuator k)) ∙ sym e

pub cycle_no : (M : MissionValue) (p : place.Place) (a : Auditor) (c : ℕ) (active : ChannelSet)
    (t : Option TransferValue) → StandsAt M p a →
    (is_between_cycles a.place ≡ true → (told : Told) → IsBetweenCycles M told a →
    cycle_fits M told c active t ≡ false) → suits_place M p (cycle_told c active t) ≡ false
cycle_no M place.at_head a c active t h f = refl
cycle_no M (place.between told) a c active t h f = f (ap is_between_cycles h.0) told h.1
cycle_no M (place.amid told r) a c active t h f = refl
cycle_no M (place.awaits_out told) a c active t h f = refl
cycle_no M place.at_end a c active t h f = refl

pub cycle_yes : (M : MissionValue) (p : place.Place) (a new : Auditor) (c : ℕ) (active : ChannelSet)
    (t : Option TransferValue) → StandsAt M p a → is_between_cycles a.place ≡ true →
    ((told : Told) → IsBetweenCycles M told a →
    (cycle_fits M told c active t ≡ true) × StandsAt M (place.amid told (opened_record c active t)) new) →
    (suits_place M p (cycle_told c active t) ≡ true) × StandsAt M (following_place M p (cycle_told c active t)) new
cycle_yes M place.at_head a new c active t h is f = absurd (other_place is_between_cycles a.place at.Head h.0 refl is)
cycle_yes M (place.between told) a new c active t h is f = f told h.1
cycle_yes M (place.amid told r) a new c active t h is f =
    absurd (other_place is_between_cycles a.place at.Amid h.0 refl is)
cycle_yes M (place.awaits_out told) a new c active t h is f =
    absurd (other_place is_between_cycles a.place at.Awaits h.0 refl is)
cycle_yes M place.at_end a new c active t h is f = absurd (other_place is_between_cycles a.place at.Over h refl is)

pub between_somewhere : (M : MissionValue) (p : place.Place) (a : Auditor) → StandsAt M p a →
    is_between_cycles a.place ≡ true → (told : Told) × IsBetweenCycles M told a
between_somewhere M place.at_head a h is = absurd (other_place is_between_cycles a.place at.Head h.0 refl is)
between_somewhere M (place.between told) a h is = (told, h.1)
between_somewhere M (place.amid told r) a h is = absurd (other_place is_between_cycles a.place at.Amid h.0 refl is)
between_somewhere M (place.awaits_out told) a h is =
    absurd (other_place is_between_cycles a.place at.Awaits h.0 refl is)
between_somewhere M place.at_end a h is = absurd (other_place is_between_cycles a.place at.Over h refl is)

pub channel_no : (M : MissionValue) (p : place.Place) (a : Auditor) (l : LineValue) → StandsAt M p a →
    (is_amid a.place ≡ true → (told : Told) (r : RecordValue) → IsAmid M told r a → channel_fits M told r l ≡ false) →
    suits_place M p (channel_told l) ≡ false
channel_no M place.at_head a l h f = refl
channel_no M (place.between told) a l h f = refl
channel_no M (place.amid told r) a l h f = f (ap is_amid h.0) told r h.1
channel_no M (place.awaits_out told) a l h f = refl
channel_no M place.at_end a l h f = refl

pub channel_yes : (M : MissionValue) (p : place.Place) (a new : Auditor) (l : LineValue) → StandsAt M p a →
    is_amid a.place ≡ true →
    ((told : Told) (r : RecordValue) → IsAmid M told r a →
    (channel_fits M told r l ≡ true) × StandsAt M (place.amid told (with_line r l)) new) →
    (suits_place M p (channel_told l) ≡ true) × StandsAt M (following_place M p (channel_told l)) new
channel_yes M place.at_head a new l h is f = absurd (other_place is_amid a.place at.Head h.0 refl is)
channel_yes M (place.between told) a new l h is f = absurd (other_place is_amid a.place at.Between h.0 refl is)
channel_yes M (place.amid told r) a new l h is f = f told r h.1
channel_yes M (place.awaits_out told) a new l h is f = absurd (other_place is_amid a.place at.Awaits h.0 refl is)
channel_yes M place.at_end a new l h is f = absurd (other_place is_amid a.place at.Over h refl is)

pub steps_no : (M : MissionValue) (p : place.Place) (a : Auditor) (t : TraceValue) → StandsAt M p a →
    (is_amid a.place ≡ true → (told : Told) (r : RecordValue) → IsAmid M told r a → steps_fit M told r t ≡ false) →
    suits_place M p (steps_told t) ≡ false
steps_no M place.at_head a t h f = refl
steps_no M (place.between told) a t h f = refl
steps_no M (place.amid told r) a t h f = f (ap is_amid h.0) told r h.1
steps_no M (place.awaits_out told) a t h f = refl
steps_no M place.at_end a t h f = refl

pub steps_yes : (M : MissionValue) (p : place.Place) (a new : Auditor) (t : TraceValue) → StandsAt M p a →
    is_amid a.place ≡ true →
    ((told : Told) (r : RecordValue) → IsAmid M told r a →
    (steps_fit M told r t ≡ true) × StandsAt M (place.amid told (with_steps r t)) new) →
    (suits_place M p (steps_told t) ≡ true) × StandsAt M (following_place M p (steps_told t)) new
steps_yes M place.at_head a new t h is f = absurd (other_place is_amid a.place at.Head h.0 refl is)
steps_yes M (place.between told) a new t h is f = absurd (other_place is_amid a.place at.Between h.0 refl is)
steps_yes M (place.amid told r) a new t h is f = f told r h.1
steps_yes M (place.awaits_out told) a new t h is f = absurd (other_place is_amid a.place at.Awaits h.0 refl is)
steps_yes M place.at_end a new t h is f = absurd (other_place is_amid a.place at.Over h refl is)

pub end_no : (M : MissionValue) (p : place.Place) (a : Auditor) (removed joined : ChannelSet) (left : Option ℕ) →
    StandsAt M p a →
    (is_amid a.place ≡ true → (told : Told) (r : RecordValue) → IsAmid M told r a →
    end_fits M told r removed joined left ≡ false) → suits_place M p (end_told removed joined left) ≡ false
end_no M place.at_head a removed joined left h f = refl
end_no M (place.between told) a removed joined left h f = refl
end_no M (place.amid told r) a removed joined left h f = f (ap is_amid h.0) told r h.1
end_no M (place.awaits_out told) a removed joined left h f = refl
end_no M place.at_end a removed joined left h f = refl

pub end_yes : (M : MissionValue) (p : place.Place) (a new : Auditor) (removed joined : ChannelSet) (left : Option ℕ) →
    StandsAt M p a → is_amid a.place ≡ true →
    ((told : Told) (r : RecordValue) → IsAmid M told r a →
    (end_fits M told r removed joined left ≡ true)
    × StandsAt M (following_place M (place.amid told r) (end_told removed joined left)) new) →
    (suits_place M p (end_told removed joined left) ≡ true)
    × StandsAt M (following_place M p (end_told removed joined left)) new
end_yes M place.at_head a new removed joined left h is f = absurd (other_place is_amid a.place at.Head h.0 refl is)
end_yes M (place.between told) a new removed joined left h is f =
    absurd (other_place is_amid a.place at.Between h.0 refl is)
end_yes M (place.amid told r) a new removed joined left h is f = f told r h.1
end_yes M (place.awaits_out told) a new removed joined left h is f =
    absurd (other_place is_amid a.place at.Awaits h.0 refl is)
end_yes M place.at_end a new removed joined left h is f = absurd (other_place is_amid a.place at.Over h refl is)

pub amid_somewhere : (M : MissionValue) (p : place.Place) (a : Auditor) → StandsAt M p a → is_amid a.place ≡ true →
    (told : Told) × (r : RecordValue) × IsAmid M told r a
amid_somewhere M place.at_head a h is = absurd (other_place is_amid a.place at.Head h.0 refl is)
amid_somewhere M (place.between told) a h is = absurd (other_place is_amid a.place at.Between h.0 refl is)
amid_somewhere M (place.amid told r) a h is = (told, r, h.1)
amid_somewhere M (place.awaits_out told) a h is = absurd (other_place is_amid a.place at.Awaits h.0 refl is)
amid_somewhere M place.at_end a h is = absurd (other_place is_amid a.place at.Over h refl is)

-- ---- a cycle begins

swept_none : (M : MissionValue) (s : ℕ) (told : Told) → next_cycle_number told ≤ s → swept_told M s told ≡ []
swept_none M s [] h = refl
swept_none M s (r ∷ told) h = by_test (nat_le s (next_cycle_number told)) refl
  where
    earlier : TransferCycle
    earlier = record {
      planned = planned_blocks M.rules.blocks M.rules.sweep (swept_told M s told);
      written = written_blocks M (next_cycle_number told);
    }

    by_test : (b : Bool) → nat_le s (next_cycle_number told) ≡ b → cond b (earlier ∷ swept_told M s told) [] ≡ []
    by_test true e = absurd (omega (arith, leb-true s (next_cycle_number told) e, h))
    by_test false e = refl

-- what goes on was there before
went_on : (M : MissionValue) (told : Told) (t : TransferValue) → transfer_goes_on told t ≡ true →
    (b : TransferValue) × (transfer_told told ≡ Some b) × (b.start ≡ t.start)
went_on M [] t h = absurd (differ (sym h))
went_on M (r ∷ told) t h = by_transfer r.transfer (both (is_empty r.joined) (continues r.transfer t) h).1
  where
    by_transfer : (o : Option TransferValue) → continues o t ≡ true →
        (b : TransferValue) × (o ≡ Some b) × (b.start ≡ t.start)
    by_transfer None k = absurd (differ (sym k))
    by_transfer (Some b) k = (
      b,
      refl,
      eqb-true b.start t.start (both (b.start == t.start) (list_all (has b.targets) t.targets) k).0,
    )

starts_or_on : (M : MissionValue) (told : Told) (active : ChannelSet) (t : TransferValue) →
    transfer_fits M told active (Some t) ≡ true → (t.start == next_cycle_number told || transfer_goes_on told t) ≡ true
starts_or_on M told active t h =
    (both (list_all (is_passive M active) t.targets) (t.start == next_cycle_number told || transfer_goes_on told t)
    (both (within 1 M.rules.returning (length t.targets))
    (list_all (is_passive M active) t.targets && (t.start == next_cycle_number told || transfer_goes_on told t))
    h).1).1

pub the_same : {A : Type 0} (x y : A) → Some x ≡ Some y → x ≡ y
the_same x y h = cc

pub no_some : {A B : Type 0} (y : A) → None ≡ Some y → B
no_some y h = absurd (wrong h)
  where
    wrong : None ≡ Some y → ⊥
    wrong k = cc

-- the sweeps of a cycle that begins
pub sweeps_begin : (M : MissionValue) (told : Told) (active : ChannelSet) (transfer : Option TransferValue)
    (s new : Sweeps) → SweepsAt M told None s → transfer_fits M told active transfer ≡ true →
    ((cycles : List TransferCycle) → SweepsFor M.rules.blocks (next_cycle_number told) cycles s →
    SweepsFor M.rules.blocks (next_cycle_number told) (cond (has_started (next_cycle_number told) transfer) [] cycles)
    new) → SweepsAt M told transfer new
sweeps_begin M told active None s new h fits f = record { cycles = h.cycles; stand = f h.cycles h.stand; same = h.same }
sweeps_begin M told active (Some t) s new h fits f =
    by_start (t.start == next_cycle_number told) refl (starts_or_on M told active t fits)
  where
    same_start : (u : TransferValue) → Some t ≡ Some u → t.start ≡ u.start
    same_start u is = ap (λ (x : TransferValue). x.start) (the_same t u is)

    by_start : (b : Bool) → (t.start == next_cycle_number told) ≡ b → (b || transfer_goes_on told t) ≡ true →
        SweepsAt M told (Some t) new
    by_start true e k =
        record {
          cycles = [];
          stand = subst (λ x. SweepsFor M.rules.blocks (next_cycle_number told) (cond x [] h.cycles) new) e
              (f h.cycles h.stand);
          same = λ u is. sym (swept_none M u.start told
              (omega (arith, eqb-true t.start (next_cycle_number told) e, same_start u is)));
        }
    by_start false e k =
        let w = went_on M told t k in
        record {
          cycles = h.cycles;
          stand = subst (λ x. SweepsFor M.rules.blocks (next_cycle_number told) (cond x [] h.cycles) new) e
              (f h.cycles h.stand);
          same = λ u is. h.same w.0 w.1 ∙ ap (λ n. swept_told M n told) (w.2 ∙ same_start u is);
        }

pub started_begin : (M : MissionValue) (told : Told) (active : ChannelSet) (transfer : Option TransferValue) →
    HasStarted told (transfer_told told) → transfer_fits M told active transfer ≡ true → HasStarted told transfer
started_begin M told active None h fits = λ u is. no_some u is
started_begin M told active (Some t) h fits =
    λ u is. subst (λ (x : TransferValue). x.start ≤ next_cycle_number told) (the_same t u is)
    (by_start (t.start == next_cycle_number told) refl (starts_or_on M told active t fits))
  where
    by_start : (b : Bool) → (t.start == next_cycle_number told) ≡ b → (b || transfer_goes_on told t) ≡ true →
        t.start ≤ next_cycle_number told
    by_start true e k = omega (arith, eqb-true t.start (next_cycle_number told) e)
    by_start false e k = let w = went_on M told t k in omega (arith, h w.0 w.1, w.2)

take_zero : {A : Type 0} (xs : List A) → take 0 xs ≡ []
take_zero [] = refl
take_zero (x ∷ xs) = refl

pub plan_begin : (M : MissionValue) (told : Told) (transfer : Option TransferValue) (s : Sweeps) (plan : List ℕ) →
    SweepsAt M told transfer s →
    ((blocks next : ℕ) (cycles : List TransferCycle) → SweepsFor blocks next cycles s →
    plan ≡ planned_blocks blocks (most_planned M transfer) cycles) → plan ≡ plan_told M told transfer
plan_begin M told None s plan h f =
    f M.rules.blocks (next_cycle_number told) h.cycles h.stand
    ∙ take_zero (filter (remains h.cycles) (cyclic_from M.rules.blocks (sweep_cursor M.rules.blocks h.cycles)))
plan_begin M told (Some t) s plan h f =
    f M.rules.blocks (next_cycle_number told) h.cycles h.stand
    ∙ ap (planned_blocks M.rules.blocks M.rules.sweep) (h.same t refl)

-- what a line within a cycle leaves as it was
pub record KeepsTold (old new : Auditor) : Type 0 where
  pub done : new.done ≡ old.done
  pub active : new.active ≡ old.active
  pub joined : new.joined ≡ old.joined
  pub transfer : new.transfer ≡ old.transfer
  pub counts : new.counts ≡ old.counts
  pub words : new.words ≡ old.words

pub knows_still : (M : MissionValue) (told : Told) (context later : ContextValue) (old new : Auditor) →
    Knows M told context old → KeepsTold old new → new.context ≡ later → Knows M told later new
knows_still M told context later old new h k e =
    record {
      done = k.done ∙ h.done;
      active = k.active ∙ h.active;
      joined = k.joined ∙ h.joined;
      transfer = ap transfer_of_pair k.transfer ∙ h.transfer;
      started = h.started;
      context = e;
      counts = λ q low. ap (λ cs. slice_index cs q) k.counts ∙ h.counts q low;
      words = λ actuator is. ap (take (length M.outputs)) k.words ∙ h.words actuator is;
    }

pub cycle_parts : (M : MissionValue) (told : Told) (cycle : ℕ) (active : ChannelSet) (t : Option TransferValue) →
    cycle_fits M told cycle active t ≡ true →
    (cycle < M.cycles) × (cycle ≡ next_cycle_number told) × (active ≡ active_told M told)
    × (transfer_fits M told active t ≡ true)
cycle_parts M told cycle active t h =
    let a = both (nat_lt cycle M.cycles && cycle == next_cycle_number told)
    (bytes_eq active (active_told M told) && transfer_fits M told active t) h in
    let b = both (nat_lt cycle M.cycles) (cycle == next_cycle_number told) a.0 in
    let d = both (bytes_eq active (active_told M told)) (transfer_fits M told active t) a.1 in (
      leb-true (suc cycle) M.cycles b.0,
      eqb-true cycle (next_cycle_number told) b.1,
      (bytes_eq-Decides active (active_told M told)).0 d.0,
      d.1,
    )

pub opens : (M : MissionValue) (told : Told) (cycle : ℕ) (active : ChannelSet) (t : Option TransferValue)
    (old new : Auditor) → IsBetweenCycles M told old → cycle_fits M told cycle active t ≡ true →
    new.place ≡ at.Amid → KeepsTold old new → new.context ≡ old.context → transfer_of_pair new.part.transfer ≡ t →
    new.part.first ≡ None → new.part.lined ≡ [] → new.part.traced ≡ [] →
    ((cycles : List TransferCycle) → SweepsFor M.rules.blocks (next_cycle_number told) cycles old.sweeps →
    SweepsFor M.rules.blocks (next_cycle_number told) (cond (has_started (next_cycle_number told) t) [] cycles)
    new.sweeps) →
    ((blocks next : ℕ) (cycles : List TransferCycle) → SweepsFor blocks next cycles new.sweeps →
    new.part.plan.items ≡ planned_blocks blocks (most_planned M t) cycles) →
    StandsAt M (place.amid told (opened_record cycle active t)) new
opens M told cycle active t old new h fits place keeps context transfer first lined traced sweeps plan =
    let parts = cycle_parts M told cycle active t fits in
    let kept : SweepsAt M told t new.sweeps =
    sweeps_begin M told active t old.sweeps new.sweeps h.sweeps parts.3 sweeps in (
      place,
      record {
        knows = knows_still M told (context_told M told) (context_told M told) old new h.knows keeps
            (context ∙ h.knows.context);
        part = record {
          early = omega (arith, parts.0, parts.1);
          active = parts.2;
          transfer = transfer;
          started = started_begin M told active t h.knows.started parts.3;
          plan = plan_begin M told t new.sweeps new.part.plan.items kept plan;
          first = ap (option_map (shown_in M)) first;
          sized = λ l is. no_some l is;
          voted = λ some. differ some;
          lined = λ q. ap (λ s. has s q) lined;
          lined_low = λ q there. differ (sym there ∙ ap (λ s. has s q) lined);
          traced = λ q. ap (λ s. has s q) traced;
          traced_low = λ q there. differ (sym there ∙ ap (λ s. has s q) traced);
        };
        sweeps = kept;
      },
    )

pub zero_at : (q : ℕ) → q < 7 → slice_index (0 ∷ 0 ∷ 0 ∷ 0 ∷ 0 ∷ 0 ∷ 0 ∷ []) q ≡ place_or [] q 0
zero_at zero h = refl
zero_at (suc zero) h = refl
zero_at (suc (suc zero)) h = refl
zero_at (suc (suc (suc zero))) h = refl
zero_at (suc (suc (suc (suc zero)))) h = refl
zero_at (suc (suc (suc (suc (suc zero))))) h = refl
zero_at (suc (suc (suc (suc (suc (suc zero)))))) h = refl
zero_at (suc (suc (suc (suc (suc (suc (suc q))))))) h = absurd (omega arith)
