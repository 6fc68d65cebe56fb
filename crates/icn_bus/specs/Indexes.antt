-- How rules are found by cycle and slot: each rule is in a bucket, and from each rule a link leads to the next of its
-- bucket.
use Rattle.std.specs.Prelude.{◌≡◌, ◌≢◌, ℕ, ◌+◌, ◌*◌, ◌%◌, ◌<◌, ◌≤◌, List, length, map, slice_index}
use Rattle.guards_model.specs.declared.Slot.{Slot}
use Rattle.guards_model.specs.Slots.{slot_index}
use Rattle.guards_model.specs.BusRules.{RuleValue}

-- of so many buckets, the one of a cycle and a slot
unfoldable pub bucket : ℕ → ℕ → Slot → ℕ
bucket count cycle slot = (cycle * 10 + slot_index slot) % count

abbrev pub buckets_of : ℕ → List RuleValue → List ℕ
buckets_of count rules = map (λ r. bucket count r.cycle r.slot) rules

-- from a place on, the first with this bucket is here; or there is none, and this is the end
pub record LeadsTo (buckets : List ℕ) (wanted from here : ℕ) : Type 0 where
  pub low : from ≤ here
  pub high : here ≤ length buckets
  pub passed : (j : ℕ) → from ≤ j → j < here → slice_index buckets j ≢ wanted
  pub found : here < length buckets → slice_index buckets here ≡ wanted

-- heads and links lead right from this place on
pub record LeadsFrom (place : ℕ) (buckets heads nexts : List ℕ) : Type 0 where
  pub first : (b : ℕ) → b < length heads → LeadsTo buckets b place (slice_index heads b)
  pub next : (i : ℕ) → place ≤ i → i < length buckets →
      LeadsTo buckets (slice_index buckets i) (i + 1) (slice_index nexts i)

-- the rules are found by these heads and links
pub record IsIndex (rules : List RuleValue) (heads nexts : List ℕ) : Type 0 where
  pub some : 0 < length rules → 0 < length heads
  pub places : length nexts ≡ length rules
  pub leads : LeadsFrom 0 (buckets_of (length heads) rules) heads nexts
