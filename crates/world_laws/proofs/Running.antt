-- While fewer than a third of the active channels are disturbed, some active channel is up.
use Rattle.std.proofs.Common.{◌≡◌, ℕ, ◌*◌, ◌<◌, ◌==◌, Bool, true, false, cond, not, ◌||◌, List, [], ◌∷◌, ◌++◌, length, refl, ap, ◌∙◌, arith}
use Rattle.std.specs.Prelude.{filter}
use Rattle.std.specs.List.{list_any}
use Rattle.std.proofs.lemmas.Bool.{leb-false}
use Rattle.guards_model.specs.declared.Slot.{Slot}
use Rattle.guards_model.specs.Slots.{slot_index}
use Rattle.guards_model.specs.Channels.{Channel, has}
use Rattle.guards_model.specs.Missions.{MissionValue}
use Rattle.guards_model.specs.Frames.{is_set}
use Rattle.guards_model.specs.Modes.{up, is_up}
use Rattle.guards_model.specs.Network.{Log}
use Rattle.guards_model.specs.Rounds.{Steps}
use Rattle.guards_model.proofs.AscendingLists.{member-channel}
use Rattle.guards_model.proofs.BoolTests.{no_first, not_false, or_true}
use Rattle.guards_model.proofs.Counting.{has-head}
use Rattle.guards_runs.specs.Cycles.{cycles_before, cycle_at, mode_in, is_damaged}
use Rattle.guards_runs.specs.Disturbed.{is_charge, disturbed_channels}
use Rattle.guards_laws.proofs.CycleParts.{active-is, up-is}
use Rattle.guards_laws.proofs.WithinChannels.{active_is_set}
use Rattle.guards_world.specs.InCycle.{InCycle}
use Rattle.guards_world.specs.Worlds.{WorldValue}

-- where a filter takes fewer, there is one that it leaves
one_left : (P : ℕ → Bool) (xs : List ℕ) → length (filter P xs) < length xs → (q : ℕ) × (has xs q ≡ true) × (P q ≡ false)
one_left P [] h = absurd (omega (arith, h))
one_left P (x ∷ xs) h = by_first (P x) refl h (λ k. one_left P xs k)
  where
    by_first : (b : Bool) → P x ≡ b → length (cond b (x ∷ filter P xs) (filter P xs)) < length (x ∷ xs) →
        (length (filter P xs) < length xs → (q : ℕ) × (has xs q ≡ true) × (P q ≡ false)) →
        (q : ℕ) × (has (x ∷ xs) q ≡ true) × (P q ≡ false)
    by_first true is k more =
        let found = more (omega (arith, k)) in
        (found.0, or_true (x == found.0) (has xs found.0) found.1, found.2)
    by_first false is k more = (x, has-head x xs, is)

pub one_runs : (M : MissionValue) (earlier current : Log) (steps : Steps) (slot last : Slot) (carried handed : ℕ)
    (w : WorldValue) → InCycle M earlier current steps last carried handed w → slot_index slot < carried →
    (q : Channel) × (q < 7) × (mode_in (cycle_at M (earlier ++ current) w.done) q slot ≡ up)
    × (has (cycle_at M (earlier ++ current) w.done).active q ≡ true)
one_runs M earlier current steps slot last carried handed w inside early =
    let n = w.done in
    let past = cycles_before M (earlier ++ current) n in
    let e = cycle_at M (earlier ++ current) n in
    let few : 3 * length (disturbed_channels n e slot) < length e.active =
    leb-false (length e.active) (3 * length (disturbed_channels n e slot)) (inside.unhalted slot early) in
    let found = one_left (λ q. (not (is_up (mode_in e q slot)) || is_damaged e q slot)
    || list_any (is_charge n slot q) e.entries) e.active (omega (arith, few)) in
    let q = found.0 in
    let calm = no_first (not (is_up (mode_in e q slot)) || is_damaged e q slot)
    (list_any (is_charge n slot q) e.entries) found.2 in
    let is = not_false (is_up (mode_in e q slot))
    (no_first (not (is_up (mode_in e q slot))) (is_damaged e q slot) calm.0).0 in
    let set : is_set e.active ≡ true =
    ap is_set (active-is M (earlier ++ current) past) ∙ active_is_set M past inside.ranges in
    (q, member-channel e.active q set found.1, up-is (mode_in e q slot) is, found.1)
