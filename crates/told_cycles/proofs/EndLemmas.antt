-- The line with which a cycle ends.
use Rattle.std.proofs.Common.{rules, ◌≡◌, ℕ, suc, ◌+◌, ◌<◌, ◌≤◌, ◌==◌, Bool, true, false, cond, ◌&&◌, ℤ, List, [], ◌∷◌, length, map, Option, None, Some, refl, sym, ap, subst, ◌∙◌, arith}
use Rattle.std.specs.Prelude.{slice_index, IsSome, nat_le, take, slice_get, option_map, unwrap_or}
use Rattle.std.specs.List.{list_all, list_any}
use Rattle.std.proofs.lemmas.Bool.{leb-true, le-leb, eqb-true}
use Rattle.guards_model.specs.Actuators.{words_towards}
use Rattle.guards_model.specs.Channels.{ChannelSet, has, place_or, union, without}
use Rattle.guards_model.specs.Decisions.{joined_of}
use Rattle.guards_model.specs.Missions.{MissionValue, ActuatorValue, IsMission, output_words, written_blocks}
use Rattle.guards_model.specs.Texts.{LineValue, RecordValue}
use Rattle.guards_model.specs.Transfers.{TransferValue, TransferCycle, remaining_blocks}
use Rattle.guards_model.specs.Voting.{present}
use Rattle.guards_model.proofs.NumbersBelow.{below_there}
use Rattle.guards_model.proofs.TagSteps.{kept_test}
use Rattle.context_blocks.specs.BlockSets.{blocks_where, numbers_where}
use Rattle.task_table.specs.Tables.{TableValue, table_writes}
use Rattle.guards_model.proofs.BoolTests.{both}
use Rattle.guards_model.proofs.ListTests.{any-map}
use Rattle.guards_audit.specs.Lines.{closed_record, is_empty}
use Rattle.guards_audit.specs.Consistency.{after_cycle}
use Rattle.guards_audit.specs.Told.{Told, next_cycle_number, blank_line, first_line, context_told, plan_told, swept_told, words_told, number_remaining, rest_told}
use Rattle.guards_audit.specs.Tests.{all_traced, same_number}
use Rattle.told_cycles.specs.Sweeping.{SweepsFor}
use Rattle.told_cycles.specs.declared.sweeps.Sweeps.{Sweeps}
use Rattle.told_cycles.specs.declared.auditor.Auditor.{Auditor}
use Rattle.told_cycles.specs.declared.auditor.Place.{Place}
use Rattle.told_cycles.specs.declared.auditor.Place.TheVariants as at
use Rattle.told_cycles.specs.Standing.{EndsAmid, IsAmid, IsBetweenCycles, StandsAt, SweepsAt, SweepsClosed, context_amid, kept_transfer, shown_in}
use Rattle.told_cycles.proofs.SetLemmas.{same_members}
use Rattle.told_cycles.proofs.StandLemmas.{differ, no_some, the_same}

-- ---- who has a line has one of steps

pub all_alike : {A : Type 0} (P Q : A → Bool) (xs : List A) → ((x : A) → P x ≡ Q x) → list_all P xs ≡ list_all Q xs
all_alike P Q [] h = refl
all_alike P Q (x ∷ xs) h = (let a = h x in let b = all_alike P Q xs h in λ i. a i && b i)

all_mapped : {A : Type 0} (P : ℕ → Bool) (f : A → ℕ) (xs : List A) → list_all P (map f xs) ≡ list_all (λ x. P (f x)) xs
all_mapped P f [] = refl
all_mapped P f (x ∷ xs) = ap (λ b. P (f x) && b) (all_mapped P f xs)

pub traced_all : (r : RecordValue) (lined traced : ChannelSet) →
    ((q : ℕ) → has lined q ≡ list_any (λ l. l.channel == q) r.lines) →
    ((q : ℕ) → has traced q ≡ list_any (λ t. t.channel == q) r.traces) →
    list_all (has traced) lined ≡ all_traced r
traced_all r lined traced a b =
    same_members (has traced) lined (map (λ (l : LineValue). l.channel) r.lines)
    (λ q. a q ∙ sym (any-map (λ p. p == q) (λ (l : LineValue). l.channel) r.lines))
    ∙ all_mapped (has traced) (λ (l : LineValue). l.channel) r.lines
    ∙ all_alike (λ (l : LineValue). has traced l.channel) (λ l. list_any (λ t. t.channel == l.channel) r.traces) r.lines
    (λ l. b l.channel)

-- the first line, where there is one
pub first_is : (M : MissionValue) (r : RecordValue) (o : Option LineValue) (f : LineValue) →
    option_map (shown_in M) o ≡ slice_get r.lines 0 → o ≡ Some f →
    (is_empty r.lines ≡ false) × (first_line r ≡ shown_in M f)
first_is M r o f h e = by_lines r.lines (sym (ap (option_map (shown_in M)) e) ∙ h)
  where
    by_lines : (lines : List LineValue) → Some (shown_in M f) ≡ slice_get lines 0 →
        (is_empty lines ≡ false) × (unwrap_or (slice_get lines 0) blank_line ≡ shown_in M f)
    by_lines [] k = no_some (shown_in M f) (sym k)
    by_lines (x ∷ lines) k = (refl, sym (the_same (shown_in M f) x k))

pub first_there : (M : MissionValue) (r : RecordValue) (o : Option LineValue) →
    option_map (shown_in M) o ≡ slice_get r.lines 0 → is_empty r.lines ≡ false → (f : LineValue) × (o ≡ Some f)
first_there M r None h some = by_lines r.lines h some
  where
    by_lines : (lines : List LineValue) → None ≡ slice_get lines 0 → is_empty lines ≡ false →
        (f : LineValue) × (None ≡ Some f)
    by_lines [] k e = differ e
    by_lines (x ∷ lines) k e = no_some x k
first_there M r (Some f) h some = (f, refl)

-- ---- what remains

pub number_is : (a b : Option ℕ) → same_number a b ≡ true → a ≡ b
number_is None None h = refl
number_is None (Some b) h = differ (sym h)
number_is (Some a) None h = differ (sym h)
number_is (Some a) (Some b) h = ap (λ n. Some n) (eqb-true a b h)

pub closed_rest : (M : MissionValue) (told : Told) (r : RecordValue) (t : TransferValue) (cycles : List TransferCycle) →
    r.transfer ≡ Some t →
    cycles ≡ record { planned = plan_told M told r.transfer; written = written_blocks M (next_cycle_number told) }
    ∷ swept_told M t.start told →
    cycles ≡ record { planned = plan_told M told (Some t); written = written_blocks M (next_cycle_number told) }
    ∷ swept_told M t.start told
closed_rest M told r t cycles is e =
    e ∙ ap (λ o. record { planned = plan_told M told o; written = written_blocks M (next_cycle_number told) }
    ∷ swept_told M t.start told) is

-- what remains of the transfer that ran
pub number_same : (M : MissionValue) (told : Told) (r : RecordValue) {s : Sweeps}
    (closed_record : SweepsClosed M told r s) (rest : ℕ) →
    rest ≡ length (remaining_blocks M.rules.blocks closed_record.cycles) →
    option_map (λ (t : TransferValue). rest) r.transfer ≡ number_remaining M told r.transfer
number_same M told r closed_record rest e = by_transfer r.transfer refl
  where
    by_transfer : (o : Option TransferValue) → r.transfer ≡ o →
        option_map (λ (t : TransferValue). rest) o ≡ number_remaining M told o
    by_transfer None k = refl
    by_transfer (Some t) k = ap (λ n. Some n)
        (e ∙ ap (λ cycles. length (remaining_blocks M.rules.blocks cycles))
        (closed_rest M told r t closed_record.cycles k (closed_record.same t k)))

pub joined_same : (M : MissionValue) (told : Told) (r : RecordValue) {s : Sweeps}
    (closed_record : SweepsClosed M told r s) →
    joined_of M.rules.last r.transfer (remaining_blocks M.rules.blocks closed_record.cycles)
    ≡ joined_of M.rules.last r.transfer (rest_told M told r.transfer)
joined_same M told r closed_record = by_transfer r.transfer refl
  where
    by_transfer : (o : Option TransferValue) → r.transfer ≡ o →
        joined_of M.rules.last o (remaining_blocks M.rules.blocks closed_record.cycles)
        ≡ joined_of M.rules.last o (rest_told M told o)
    by_transfer None k = refl
    by_transfer (Some t) k =
        ap (λ cycles. joined_of M.rules.last (Some t) (remaining_blocks M.rules.blocks cycles))
        (closed_rest M told r t closed_record.cycles k (closed_record.same t k))

-- ---- where the auditor stands after it

present_words : (words : List ℤ) → present (map (λ w. Some w) words) ≡ words
present_words [] = refl
present_words (w ∷ words) = ap (λ ws. w ∷ ws) (present_words words)

swept_more : (M : MissionValue) (s : ℕ) (told : Told) (r : RecordValue) → s ≤ next_cycle_number told →
    swept_told M s (r ∷ told)
    ≡ record {
      planned = plan_told M told (Some (record { targets = []; start = s }));
      written = written_blocks M (next_cycle_number told);
    } ∷ swept_told M s told
swept_more M s told r h =
    ap (λ b. cond b (record {
      planned = plan_told M told (Some (record { targets = []; start = s }));
      written = written_blocks M (next_cycle_number told);
    } ∷ swept_told M s told) [])
    (le-leb s (next_cycle_number told) h)

module _ (M : MissionValue) (told : Told) (r : RecordValue) (removed joined : ChannelSet) (left : Option ℕ)
    (old : Auditor) (h : EndsAmid M told r old) (some : is_empty r.lines ≡ false) where
  ended : RecordValue
  ended = closed_record r removed joined left

  sweeps_end : SweepsAt M (ended ∷ told) None old.sweeps
  unfolding ended
  sweeps_end =
      let next : next_cycle_number told + 1 ≡ suc (next_cycle_number told) = omega arith in
      record {
        cycles = h.sweeps.cycles;
        stand = subst (λ n. SweepsFor M.rules.blocks n h.sweeps.cycles old.sweeps) next h.sweeps.stand;
        same = λ t is. closed_rest M told r t h.sweeps.cycles is (h.sweeps.same t is)
            ∙ sym (swept_more M t.start told ended (h.part.started t is));
      }

  context_end : context_amid M told r ≡ context_told M (ended ∷ told)
  unfolding ended
  context_end = ap (λ b. cond b (context_told M told) (context_told M (ended ∷ told))) some

  words_end : (words : List ℤ) → ((actuator : ActuatorValue) → M.actuator ≡ Some actuator →
      take (length M.outputs) words
      ≡ words_towards actuator.steps (take (length M.outputs) old.words) (output_words M old.context)) →
      (actuator : ActuatorValue) → M.actuator ≡ Some actuator →
      take (length M.outputs) words ≡ words_told actuator (ended ∷ told)
  unfolding ended
  words_end words f actuator is =
      f actuator is
      ∙ ap (λ last. words_towards actuator.steps last (output_words M old.context)) (h.knows.words actuator is)
      ∙ ap (λ c. words_towards actuator.steps (words_told actuator told) (output_words M c)) h.knows.context
      ∙ ap (words_towards actuator.steps (words_told actuator told))
      (sym (ap present (h.part.voted some) ∙ present_words (output_words M (context_amid M told r))))

  pub ends : (where_to : Place) (active : ChannelSet) (counts : List ℕ) (words : List ℤ) →
      active ≡ union (without old.active removed) joined →
      ((q : ℕ) → q < 7 → slice_index counts q ≡ place_or (first_line r).counts q 0) →
      ((actuator : ActuatorValue) → M.actuator ≡ Some actuator →
      take (length M.outputs) words
      ≡ words_towards actuator.steps (take (length M.outputs) old.words) (output_words M old.context)) →
      IsBetweenCycles M (closed_record r removed joined left ∷ told)
      (record old {
        place = where_to;
        done = old.done + 1;
        active = active;
        joined = joined;
        counts = counts;
        transfer = old.part.transfer;
        words = words;
      })
  unfolding ended
  ends where_to active counts words is_active is_counts is_words =
      record {
        knows = record {
          done = omega (arith, h.knows.done);
          active = is_active ∙ ap (λ a. union (without a removed) joined) (h.knows.active ∙ sym h.part.active);
          joined = refl;
          transfer = h.part.transfer;
          started = λ t is. omega (arith, h.part.started t is);
          context = h.knows.context ∙ context_end;
          counts = is_counts;
          words = words_end words is_words;
        };
        sweeps = sweeps_end;
      }

pub stands_after : (M : MissionValue) (told : Told) (new : Auditor) → IsBetweenCycles M told new →
    (M.actuator ≡ None → new.place ≡ at.Between) → ((a : ActuatorValue) → M.actuator ≡ Some a → new.place ≡ at.Awaits) →
    StandsAt M (after_cycle M.actuator told) new
stands_after M told new h none some = by_actuator M.actuator refl
  where
    by_actuator : (o : Option ActuatorValue) → M.actuator ≡ o → StandsAt M (after_cycle o told) new
    by_actuator None e = (none e, h)
    by_actuator (Some a) e = (some a e, h, is_there e)
      where
        is_there : M.actuator ≡ Some a → IsSome M.actuator
        is_there k = subst (λ (o : Option ActuatorValue). IsSome o) (sym k) (search rules)

pub ends_amid : (M : MissionValue) (told : Told) (r : RecordValue) (old : Auditor) (sweeps : Sweeps) →
    IsAmid M told r old → SweepsClosed M told r sweeps → EndsAmid M told r (record old { sweeps = sweeps })
ends_amid M told r old sweeps h closed_record =
    record {
      knows = record {
        done = h.knows.done;
        active = h.knows.active;
        joined = h.knows.joined;
        transfer = h.knows.transfer;
        started = h.knows.started;
        context = h.knows.context;
        counts = h.knows.counts;
        words = h.knows.words;
      };
      part = record {
        early = h.part.early;
        active = h.part.active;
        transfer = h.part.transfer;
        started = h.part.started;
        plan = h.part.plan;
        first = h.part.first;
        sized = h.part.sized;
        voted = h.part.voted;
        lined = h.part.lined;
        lined_low = h.part.lined_low;
        traced = h.part.traced;
        traced_low = h.part.traced_low;
      };
      sweeps = closed_record;
    }

pub cycles_few : (M : MissionValue) → IsMission M → M.cycles ≤ 2000
cycles_few M mission = leb-true M.cycles 2000 (both (nat_le 1 M.cycles) (nat_le M.cycles 2000) mission.cycles).1

-- ---- what a cycle wrote

has_where : (test : ℕ → Bool) (b : ℕ) → b < 256 → has (blocks_where test) b ≡ test b
unfolding numbers_where
has_where test b low = kept_test test 256 b (below_there 256 b low)

pub written_are : (M : MissionValue) (n done : ℕ) (table : TableValue) (written : List ℕ) →
    table ≡ record { rows = M.table; blocks = M.rules.blocks; width = M.width } → done ≡ n →
    written ≡ blocks_where (has (map (λ w. w.block) (table_writes table done))) → (b : ℕ) → b < 256 →
    has written b ≡ has (written_blocks M n) b
written_are M n done table written t d e b low =
    ap (λ ws. has ws b) e ∙ has_where (has (map (λ w. w.block) (table_writes table done))) b low
    ∙ ap (λ (x : TableValue). has (map (λ w. w.block) (table_writes x done)) b) t
    ∙ ap (λ k. has (written_blocks M k) b) d

pub closes : (M : MissionValue) (told : Told) (r : RecordValue) (old : Auditor) (new : Sweeps) (plan written : List ℕ) →
    IsAmid M told r old → plan ≡ old.part.plan.items →
    ((b : ℕ) → b < 256 → has written b ≡ has (written_blocks M (next_cycle_number told)) b) →
    ((blocks : ℕ) (cycles : List TransferCycle) (list : List ℕ) → ((b : ℕ) → b < 256 → has written b ≡ has list b) →
    SweepsFor blocks old.done cycles old.sweeps →
    SweepsFor blocks (old.done + 1) (record { planned = plan; written = list } ∷ cycles) new) →
    SweepsClosed M told r new
closes M told r old new plan written h e alike f =
    let W : List ℕ = written_blocks M (next_cycle_number told) in
    let before : SweepsFor M.rules.blocks old.done h.sweeps.cycles old.sweeps =
    subst (λ n. SweepsFor M.rules.blocks n h.sweeps.cycles old.sweeps) (sym h.knows.done) h.sweeps.stand in
    record {
      cycles = record { planned = plan; written = W } ∷ h.sweeps.cycles;
      stand = subst (λ n. SweepsFor M.rules.blocks (n + 1) (record { planned = plan; written = W } ∷ h.sweeps.cycles)
          new) h.knows.done (f M.rules.blocks h.sweeps.cycles W alike before);
      same = λ t is. let a = e ∙ h.part.plan in let b = h.sweeps.same t (ap (kept_transfer told) is) in
          λ i. record { planned = a i; written = W } ∷ b i;
    }
