-- Tests of lines, by what the auditor keeps.
use Rattle.std.proofs.Common.{◌≡◌, ℕ, suc, ◌<◌, ◌==◌, Bool, true, false, not, ◌&&◌, ◌||◌, List, [], ◌∷◌, length, Option, None, Some, refl, sym, ap, ◌∙◌}
use Rattle.std.specs.Prelude.{nat_lt, slice_get, option_map, is_some}
use Rattle.std.specs.List.{list_all, list_any}
use Rattle.std.proofs.Math.Dec.{eqb-suc-zero}
use Rattle.std.proofs.lemmas.Bool.{eq-eqb, le-leb, leb-true}
use Rattle.guards_model.specs.Channels.{ChannelSet, has, numbers_below, without}
use Rattle.guards_model.specs.Missions.{MissionValue, channels_of}
use Rattle.guards_model.specs.Transfers.{TransferValue}
use Rattle.guards_model.specs.Texts.{LineValue, RecordValue, TraceValue}
use Rattle.guards_audit.specs.Lines.{is_empty}
use Rattle.guards_model.proofs.NumbersBelow.{below_there}
use Rattle.guards_model.proofs.Tables.{has-filter}
use Rattle.dirty_tags.proofs.MarkedLists.{below_of}
use Rattle.guards_model.proofs.BoolTests.{second_false}
use Rattle.guards_audit.specs.Tests.{continues, transfer_goes_on, is_passive}
use Rattle.guards_audit.specs.Told.{Told}
use Rattle.told_cycles.proofs.SetLemmas.{same_bool}
use Rattle.told_cycles.proofs.EndLemmas.{all_alike}
use Rattle.guards_model.proofs.Counting.{has-head}
use Rattle.told_cycles.specs.Standing.{joined_told, shown_in, transfer_told}
use Rattle.told_cycles.proofs.StandLemmas.{differ, no_some}

-- the set of those who have a line of steps is empty just where no line is
pub none_traced : (r : RecordValue) (set : ChannelSet) →
    ((q : ℕ) → has set q ≡ list_any (λ t. t.channel == q) r.traces) → ((q : ℕ) → has set q ≡ true → q < 7) →
    (length set == 0) ≡ is_empty r.traces
none_traced r set same low = by_both set r.traces same
  where
    by_both : (s : ChannelSet) (traces : List TraceValue) →
        ((q : ℕ) → has s q ≡ list_any (λ (t : TraceValue). t.channel == q) traces) → (length s == 0) ≡ is_empty traces
    by_both [] [] h = refl
    by_both [] (t ∷ traces) h =
        differ (sym (h t.channel ∙ ap (λ b. b || list_any (λ (x : TraceValue). x.channel == t.channel) traces)
        (eq-eqb t.channel t.channel refl)))
    by_both (q ∷ s) [] h = differ (sym (has-head q s) ∙ h q)
    by_both (q ∷ s) (t ∷ traces) h = eqb-suc-zero (length s)

-- a first line is kept just where one was told
pub some_lined : (M : MissionValue) (r : RecordValue) (o : Option LineValue) →
    option_map (shown_in M) o ≡ slice_get r.lines 0 → is_some o ≡ not (is_empty r.lines)
some_lined M r o h = by_both o r.lines h
  where
    by_both : (o : Option LineValue) (lines : List LineValue) → option_map (shown_in M) o ≡ slice_get lines 0 →
        is_some o ≡ not (is_empty lines)
    by_both None [] k = refl
    by_both None (x ∷ lines) k = no_some x k
    by_both (Some f) [] k = no_some (shown_in M f) (sym k)
    by_both (Some f) (x ∷ lines) k = refl

pub and_given : (a x y : Bool) → (a ≡ true → x ≡ y) → (a && x) ≡ (a && y)
and_given true x y h = h refl
and_given false x y h = refl

swapped : (a b : Bool) → (not a && b) ≡ (b && not a)
swapped true true = refl
swapped true false = refl
swapped false true = refl
swapped false false = refl

has_below : (n q : ℕ) → has (numbers_below n) q ≡ nat_lt q n
has_below n q =
    same_bool (has (numbers_below n) q) (nat_lt q n) (λ h. le-leb (suc q) n (below_of n q h))
    (λ h. below_there n q (leb-true (suc q) n h))

-- who may be restored
pub passive_are : (M : MissionValue) (active targets : ChannelSet) →
    list_all (has (without (channels_of M) active)) targets ≡ list_all (is_passive M active) targets
passive_are M active targets =
    all_alike (has (without (channels_of M) active)) (is_passive M active) targets
    (λ q. has-filter (λ p. not (has active p)) (channels_of M) q
    ∙ ap (λ b. not (has active q) && b) (has_below M.rules.channels q)
    ∙ swapped (has active q) (nat_lt q M.rules.channels))

-- ---- whether a transfer goes on

none_in : (set : ChannelSet) → (length set == 0) ≡ is_empty set
none_in [] = refl
none_in (q ∷ set) = eqb-suc-zero (length set)

pub none_goes_on : (told : Told) (t : TransferValue) → None ≡ transfer_told told → false ≡ transfer_goes_on told t
none_goes_on [] t h = refl
none_goes_on (r ∷ told) t h =
    sym (second_false (is_empty r.joined) (continues r.transfer t) (ap (λ o. continues o t) (sym h)))

pub one_goes_on : (told : Told) (joined : ChannelSet) (before t : TransferValue) → joined ≡ joined_told told →
    Some before ≡ transfer_told told →
    (length joined == 0 && (before.start == t.start && list_all (has before.targets) t.targets))
    ≡ transfer_goes_on told t
one_goes_on [] joined before t e h = no_some before (sym h)
one_goes_on (r ∷ told) joined before t e h =
    (let none = ap (λ (s : ChannelSet). length s == 0) e ∙ none_in r.joined in λ i. none i && continues (h i) t)
