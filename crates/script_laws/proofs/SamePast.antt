-- What the facts of the earlier cycles say does not look at their entries.
use Rattle.std.proofs.Common.{◌≡◌, ℕ, ◌==◌, Bool, true, ◌&&◌, ◌||◌, List, [], ◌∷◌, length, Option, None, Some, refl, sym, ap, ◌∙◌, map}
use Rattle.std.specs.Prelude.{nat_lt, nat_le, find, option_map, if◌then◌else◌}
use Rattle.std.specs.List.{list_any}
use Rattle.std.proofs.lemmas.List.{length-map}
use Rattle.std.proofs.Math.Path.{fun_ext}
use Rattle.guards_model.specs.declared.Slot.TheVariants.{Request, Sweep, Switch}
use Rattle.guards_model.specs.Slots.{every_slot}
use Rattle.guards_model.specs.Channels.{Channel, ChannelSet, has, place_or, by_channel, channels_where}
use Rattle.guards_model.specs.Contexts.{ContextValue}
use Rattle.guards_model.specs.Missions.{MissionValue, written_blocks, sensor}
use Rattle.guards_model.specs.Frames.{SourceValue}
use Rattle.guards_model.specs.Transfers.{TransferValue, TransferCycle, start_of, remaining_blocks, planned_blocks}
use Rattle.guards_model.specs.Modes.{ModeValue, down, is_up, scripted_mode_at_start, scripted_mode_in_slot, mode_at_end}
use Rattle.guards_model.specs.Damages.{is_damage, damaged_by}
use Rattle.guards_runs.specs.Cycles.{CycleStart, Past, mode_in, joins_from, joins_since, is_whole, starts_to, starts_of, held_start, active_set, fresh_set, base_counts, running_transfer, mode_after, context_after, was_damaged, ideal_after, cycle_start_of, accused_before, heard_before, source_word, swept_since, plan_of, remaining_of}
use Rattle.guards_runs.specs.SameFacts.{without_entries, HaveSameFacts}

abbrev pub bare : Past → Past
bare P = map without_entries P

pub size_bare : (P : Past) → length (bare P) ≡ length P
size_bare P = length-map P without_entries

joins_bare : (q : Channel) (s : ℕ) (P : Past) → joins_since q s (bare P) ≡ joins_since q s P
joins_bare q s [] = refl
joins_bare q s (e ∷ P) =
    let J : ℕ → Bool → Bool =
    λ k rest. if nat_lt k s then true else if k == s then joins_from Sweep e q
    else joins_from Request e q && rest in
    ap (λ k. J k (joins_since q s (bare P))) (size_bare P) ∙ ap (J (length P)) (joins_bare q s P)

whole_bare : (q : Channel) (P : Past) → is_whole q (bare P) ≡ is_whole q P
whole_bare q [] = refl
whole_bare q (e ∷ P) = ap (λ b. has e.joined q && b) (joins_bare q (start_of e.transfer) (e ∷ P))

starts_bare : (q : Channel) (P : Past) → starts_of q (bare P) ≡ starts_of q P
starts_bare q [] = refl
starts_bare q (e ∷ P) =
    let S : ℕ → List ℕ → List ℕ = λ k rest. if starts_to q k e.transfer then k ∷ rest else rest in
    ap (λ k. S k (starts_of q (bare P))) (size_bare P) ∙ ap (S (length P)) (starts_bare q P)

held_bare : (q : Channel) (P : Past) → held_start q (bare P) ≡ held_start q P
held_bare q P =
    ap (λ (t : ℕ → Bool). find t (starts_of q (bare P))) (fun_ext (λ s. joins_bare q s P))
    ∙ ap (find (λ s. joins_since q s P)) (starts_bare q P)

swept_bare : (M : MissionValue) (s : ℕ) (P : Past) → swept_since M s (bare P) ≡ swept_since M s P
swept_bare M s [] = refl
swept_bare M s (e ∷ P) =
    let W : ℕ → List TransferCycle → List TransferCycle =
    λ k rest. if nat_le s k then record { planned = e.planned; written = written_blocks M k } ∷ rest else [] in
    ap (λ k. W k (swept_since M s (bare P))) (size_bare P) ∙ ap (W (length P)) (swept_bare M s P)

active_bare : (M : MissionValue) (P : Past) → active_set M (bare P) ≡ active_set M P
active_bare M [] = refl
active_bare M (e ∷ P) = refl

fresh_bare : (P : Past) → fresh_set (bare P) ≡ fresh_set P
fresh_bare [] = refl
fresh_bare (e ∷ P) = refl

counts_bare : (M : MissionValue) (P : Past) → base_counts M (bare P) ≡ base_counts M P
counts_bare M [] = refl
counts_bare M (e ∷ P) = refl

running_bare : (P : Past) → running_transfer (bare P) ≡ running_transfer P
running_bare [] = refl
running_bare (e ∷ P) = refl

damaged_bare : (P : Past) (q : Channel) → was_damaged (bare P) q ≡ was_damaged P q
damaged_bare [] q = refl
damaged_bare (e ∷ P) q = refl

ideal_bare : (M : MissionValue) (P : Past) → ideal_after M (bare P) ≡ ideal_after M P
ideal_bare M [] = refl
ideal_bare M (e ∷ P) = refl

mode_bare : (M : MissionValue) (P : Past) (q : Channel) → mode_after M (bare P) q ≡ mode_after M P q
mode_bare M [] q = refl
mode_bare M (e ∷ P) q = ap (λ w. mode_at_end M.return_after (has (active_set M (e ∷ P)) q) w (mode_in e q Switch))
    (whole_bare q (e ∷ P))

context_bare : (M : MissionValue) (P : Past) (q : Channel) → context_after M (bare P) q ≡ context_after M P q
context_bare M [] q = refl
context_bare M (e ∷ P) q =
    ap (λ (w : Bool). if w then Some e.ideal_context else place_or e.contexts_after q None) (whole_bare q (e ∷ P))

source_bare : (M : MissionValue) (P : Past) (q : Channel) → source_word M (bare P) q ≡ source_word M P q
source_bare M [] q = refl
source_bare M (e ∷ P) q =
    let S : ℕ → SourceValue =
    λ k. record { words = sensor M q k; accuse = accused_before (e ∷ P) q; heard = heard_before (e ∷ P) q } in
    ap S (size_bare (e ∷ P))

-- ---- the opening

abbrev opening_with : MissionValue → ℕ → ChannelSet → ChannelSet → List ℕ → Option TransferValue →
    (Channel → ModeValue) → (Channel → Bool) → (Channel → Option ContextValue) → CycleStart
opening_with M c active fresh counts running mode marked context =
    let started : List ModeValue = by_channel (λ q. scripted_mode_at_start M.script q c (mode q)) in
    record {
      active = active;
      fresh = fresh;
      counts_before = counts;
      running = running;
      modes = map (λ slot. by_channel (λ q. scripted_mode_in_slot M.script q c slot (place_or started q down)))
          every_slot;
      damaged = channels_where (λ q. is_up (place_or started q down)
          && (list_any (is_damage q c) M.script || marked q));
      contexts_before = by_channel
          (λ q. if is_up (place_or started q down) then option_map (damaged_by M.script q c) (context q) else None);
    }

opening_is : (M : MissionValue) (P : Past) →
    cycle_start_of M P ≡ opening_with M (length P) (active_set M P) (fresh_set P) (base_counts M P) (running_transfer P)
    (mode_after M P) (was_damaged P) (context_after M P)
unfolding cycle_start_of
opening_is M P = refl

opening_bare : (M : MissionValue) (P : Past) → cycle_start_of M (bare P) ≡ cycle_start_of M P
opening_bare M P =
    let B : Past = bare P in
    opening_is M B
    ∙ ap (λ k. opening_with M k (active_set M B) (fresh_set B) (base_counts M B) (running_transfer B) (mode_after M B)
    (was_damaged B) (context_after M B)) (size_bare P)
    ∙ ap (λ s. opening_with M (length P) s (fresh_set B) (base_counts M B) (running_transfer B) (mode_after M B)
    (was_damaged B) (context_after M B)) (active_bare M P)
    ∙ ap (λ s. opening_with M (length P) (active_set M P) s (base_counts M B) (running_transfer B) (mode_after M B)
    (was_damaged B) (context_after M B)) (fresh_bare P)
    ∙ ap (λ s. opening_with M (length P) (active_set M P) (fresh_set P) s (running_transfer B) (mode_after M B)
    (was_damaged B) (context_after M B)) (counts_bare M P)
    ∙ ap (λ s. opening_with M (length P) (active_set M P) (fresh_set P) (base_counts M P) s (mode_after M B)
    (was_damaged B) (context_after M B)) (running_bare P)
    ∙ ap (λ (f : Channel → ModeValue).
    opening_with M (length P) (active_set M P) (fresh_set P) (base_counts M P) (running_transfer P) f
    (was_damaged B) (context_after M B)) (fun_ext (mode_bare M P))
    ∙ ap (λ (f : Channel → Bool).
    opening_with M (length P) (active_set M P) (fresh_set P) (base_counts M P) (running_transfer P) (mode_after M P)
    f (context_after M B)) (fun_ext (damaged_bare P))
    ∙ ap (λ (f : Channel → Option ContextValue).
    opening_with M (length P) (active_set M P) (fresh_set P) (base_counts M P) (running_transfer P) (mode_after M P)
    (was_damaged P) f) (fun_ext (context_bare M P))
    ∙ sym (opening_is M P)

plan_bare : (M : MissionValue) (P : Past) (o : Option TransferValue) → plan_of M (bare P) o ≡ plan_of M P o
plan_bare M P None = refl
plan_bare M P (Some t) = ap (planned_blocks M.rules.blocks M.rules.sweep) (swept_bare M t.start P)

remaining_bare : (M : MissionValue) (P : Past) (o : Option TransferValue) (planned : List ℕ) →
    remaining_of M (bare P) o planned ≡ remaining_of M P o planned
remaining_bare M P None planned = refl
remaining_bare M P (Some t) planned =
    let R : ℕ → List TransferCycle →
    List ℕ = λ k cycles. remaining_blocks M.rules.blocks
    (record { planned = planned; written = written_blocks M k } ∷ cycles) in
    ap (λ k. R k (swept_since M t.start (bare P))) (size_bare P) ∙ ap (R (length P)) (swept_bare M t.start P)

-- ---- what two pasts with the same facts say

module _ (P R : Past) (same : HaveSameFacts P R) where
  pub same_of : {A : Type 0} (f : Past → A) → ((Q : Past) → f (bare Q) ≡ f Q) → f P ≡ f R
  same_of f bare_is = sym (bare_is P) ∙ ap f same ∙ bare_is R

  pub same_size : length P ≡ length R
  same_size = same_of length size_bare

  pub same_opening : (M : MissionValue) → cycle_start_of M P ≡ cycle_start_of M R
  same_opening M = same_of (cycle_start_of M) (opening_bare M)

  pub same_held : (q : Channel) → held_start q P ≡ held_start q R
  same_held q = same_of (held_start q) (held_bare q)

  pub same_source : (M : MissionValue) (q : Channel) → source_word M P q ≡ source_word M R q
  same_source M q = same_of (λ Q. source_word M Q q) (λ Q. source_bare M Q q)

  pub same_plan : (M : MissionValue) (o : Option TransferValue) → plan_of M P o ≡ plan_of M R o
  same_plan M o = same_of (λ Q. plan_of M Q o) (λ Q. plan_bare M Q o)

  pub same_ideal : (M : MissionValue) → ideal_after M P ≡ ideal_after M R
  same_ideal M = same_of (ideal_after M) (ideal_bare M)

  pub same_remaining : (M : MissionValue) (o : Option TransferValue) (planned : List ℕ) →
      remaining_of M P o planned ≡ remaining_of M R o planned
  same_remaining M o planned = same_of (λ Q. remaining_of M Q o planned) (λ Q. remaining_bare M Q o planned)
