-- Which carries a cycle has whose entries are the due ones up to the end of a slot, and the entry of each.
use Rattle.std.proofs.Common.{◌≡◌, ℕ, suc, ◌<◌, ◌==◌, Bool, true, false, cond, not, ◌&&◌, ◌||◌, List, [], ◌∷◌, length, map, None, Some, refl, sym, ap, ◌∙◌, eq-eqb}
use Rattle.std.specs.Prelude.{nat_lt, filter, find, flat_map}
use Rattle.std.specs.List.{AllByRecursion, AllZip}
use Rattle.std.proofs.lemmas.Bool.{le-leb, leb-true}
use Rattle.std.proofs.lemmas.List.{append-nil}
use Rattle.guards_model.specs.declared.Slot.{Slot}
use Rattle.guards_model.specs.Slots.{every_slot, up_to}
use Rattle.guards_model.specs.Channels.{has, channels_where, without}
use Rattle.guards_model.specs.Missions.{MissionValue}
use Rattle.guards_model.specs.Network.{EntryValue, Log, is_carry}
use Rattle.guards_runs.specs.Cycles.{Cycle, Past}
use Rattle.guards_runs.specs.Due.{Carry, IsDue, carries_frames, is_sender, receivers, slot_carries, carries_through}
use Rattle.guards_model.proofs.BoolTests.{both, and_true, or_true, not_true, differ}
use Rattle.guards_model.proofs.Tables.{has-filter, has-channels_where}
use Rattle.guards_model.proofs.AscendingLists.{member-channel, set-where}
use Rattle.guards_model.proofs.Membership.{All-append, All-flat_map}
use Rattle.guards_laws.proofs.CarriedEntries.{Found, fields, carried_so_far}

-- ---- which carries there are

-- whether a cycle has a carry in a slot between these two
abbrev pub is_sent : Cycle → Slot → ℕ → ℕ → Bool
is_sent e slot from to = carries_frames e slot
    && ((nat_lt from 7 && is_sender e slot from) && (has (receivers e slot) to && not (from == to)))

abbrev pub IsSentAt : Cycle → Carry → Type 0
IsSentAt e k = is_sent e k.slot k.from k.to ≡ true

row_sent : (c : ℕ) (e : Cycle) (slot : Slot) (q : ℕ) (targets : List ℕ) → carries_frames e slot ≡ true → q < 7 →
    is_sender e slot q ≡ true →
    ((r : ℕ) → has targets r ≡ true → (has (receivers e slot) r && not (q == r)) ≡ true) →
    AllByRecursion (IsSentAt e) (map (λ (r : ℕ). record { cycle = c; slot = slot; from = q; to = r }) targets)
row_sent c e slot q [] carries low sends h = tt
row_sent c e slot q (r ∷ targets) carries low sends h = (
  and_true (carries_frames e slot) _ carries
      (and_true (nat_lt q 7 && is_sender e slot q) _
      (and_true (nat_lt q 7) (is_sender e slot q) (le-leb (suc q) 7 low) sends)
      (h r (ap (λ b. b || has targets r) (eq-eqb r r refl)))),
  row_sent c e slot q targets carries low sends (λ x k. h x (or_true (r == x) (has targets x) k)),
)

swap : (a b : Bool) → (not (a || false) && b) ≡ true → (b && not a) ≡ true
swap true b h = absurd cc
swap false true h = refl
swap false false h = absurd cc

abbrev row : ℕ → Cycle → Slot → ℕ → List Carry
row c e slot q = map (λ (r : ℕ). record { cycle = c; slot = slot; from = q; to = r })
    (without (receivers e slot) (q ∷ []))

rows_sent : (c : ℕ) (e : Cycle) (slot : Slot) (senders : List ℕ) → carries_frames e slot ≡ true →
    ((q : ℕ) → has senders q ≡ true → has (channels_where (is_sender e slot)) q ≡ true) →
    AllByRecursion (IsSentAt e) (flat_map (row c e slot) senders)
rows_sent c e slot [] carries h = tt
rows_sent c e slot (q ∷ senders) carries h =
    let there = h q (ap (λ b. b || has senders q) (eq-eqb q q refl)) in
    let low : q < 7 = member-channel (channels_where (is_sender e slot)) q (set-where (is_sender e slot)) there in
    All-append (IsSentAt e) (row c e slot q) (flat_map (row c e slot) senders)
    (row_sent c e slot q (without (receivers e slot) (q ∷ [])) carries low
    (sym (has-channels_where (is_sender e slot) q low) ∙ there)
    (λ r k. swap (q == r) (has (receivers e slot) r)
    (sym (has-filter (λ x. not (has (q ∷ []) x)) (receivers e slot) r) ∙ k)))
    (rows_sent c e slot senders carries (λ r k. h r (or_true (q == r) (has senders r) k)))

slot_sent : (c : ℕ) (e : Cycle) (slot : Slot) → AllByRecursion (IsSentAt e) (slot_carries c e slot)
slot_sent c e slot = if_carried (carries_frames e slot) refl
  where
    if_carried : (b : Bool) → carries_frames e slot ≡ b →
        AllByRecursion (IsSentAt e) (cond b (flat_map (row c e slot) (channels_where (is_sender e slot))) [])
    if_carried true carries = rows_sent c e slot (channels_where (is_sender e slot)) carries (λ q h. h)
    if_carried false carries = tt

pub all_sent : (c : ℕ) (e : Cycle) (last : Slot) → AllByRecursion (IsSentAt e) (carries_through c e last)
all_sent c e last = All-flat_map (IsSentAt e) (slot_carries c e) (filter (λ s. up_to s last) every_slot) (slot_sent c e)

-- ---- the entry of a carry

-- the entries of a cycle are the due ones up to the end of a slot
abbrev pub IsDueThrough : MissionValue → Past → Cycle → Slot → Type 0
IsDueThrough M past e last = AllZip (IsDue M past e) (carries_through (length past) e last) e.entries

module _ (M : MissionValue) (past : Past) (e : Cycle) (slot : Slot) (from to : ℕ) where
  abbrev pub carry : Carry
  carry = record { cycle = length past; slot = slot; from = from; to = to }

  not_of : is_sent e slot from to ≡ false → (k : Carry) (y : EntryValue) (b : Bool) →
      is_carry (length past) slot from to y ≡ b → IsDue M past e k y → IsSentAt e k → b ≡ false
  not_of silent k y true test due sent =
      let f = fields carry y test in
      let same : is_sent e k.slot k.from k.to ≡ is_sent e slot from to =
      ap (λ (s : Slot). is_sent e s k.from k.to) (sym due.slot ∙ f.slot)
      ∙ ap (λ q. is_sent e slot q k.to) (sym due.from ∙ f.from) ∙ ap (is_sent e slot from) (sym due.to ∙ f.to) in
      differ (sym sent ∙ same ∙ silent)
  not_of silent k y false test due sent = refl

  none_sent : is_sent e slot from to ≡ false → (carries : List Carry) (now : Log) →
      AllByRecursion (IsSentAt e) carries → AllZip (IsDue M past e) carries now →
      find (is_carry (length past) slot from to) now ≡ None
  none_sent silent [] [] all zip = refl
  none_sent silent [] (y ∷ now) all zip = absurd zip
  none_sent silent (k ∷ carries) [] all zip = absurd zip
  none_sent silent (k ∷ carries) (y ∷ now) all zip =
      ap (λ b. cond b (Some y) (find (is_carry (length past) slot from to) now))
      (not_of silent k y (is_carry (length past) slot from to y) refl zip.0 all.0)
      ∙ none_sent silent carries now all.1 zip.1

  -- a carry that there is not has no entry
  pub nothing_if : (last : Slot) → IsDueThrough M past e last → is_sent e slot from to ≡ false →
      find (is_carry (length past) slot from to) e.entries ≡ None
  nothing_if last due silent =
      none_sent silent (carries_through (length past) e last) e.entries (all_sent (length past) e last) due

  -- and each that there is, up to the end of the slot, has its own
  pub found_if : (last : Slot) → IsDueThrough M past e last → up_to slot last ≡ true → is_sent e slot from to ≡ true →
      Found M past e carry
  found_if last due soon sent =
      let a = both (carries_frames e slot) _ sent in
      let b = both (nat_lt from 7 && is_sender e slot from) (has (receivers e slot) to && not (from == to)) a.1 in
      let s = both (nat_lt from 7) (is_sender e slot from) b.0 in
      let r = both (has (receivers e slot) to) (not (from == to)) b.1 in
      carried_so_far M past e last e.entries [] (sym (append-nil e.entries)) due slot from to soon a.0
      (leb-true (suc from) 7 s.0) s.1 r.0 (not_true (from == to) r.1)
