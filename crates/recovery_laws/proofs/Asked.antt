-- A request that arrives stands in the next cycle.
use Rattle.std.proofs.Common.{◌≡◌, ℕ, zero, suc, ◌<◌, ◌≤◌, ◌==◌, Bool, true, false, cond, not, ◌&&◌, [], ◌∷◌, length, Option, None, Some, refl, sym, ap, subst, ◌∙◌, arith, eq-eqb}
use Rattle.std.specs.Prelude.{nat_le}
use Rattle.std.specs.List.{list_all}
use Rattle.std.proofs.lemmas.Bool.{eqb-true}
use Rattle.guards_model.specs.declared.Slot.{Slot}
use Rattle.guards_model.specs.declared.Slot.TheVariants.{Request, Round1, Round2, Round3, Tasks, Vote, Sweep, Final, Switch}
use Rattle.guards_model.specs.Slots.{slots_from}
use Rattle.guards_model.specs.Channels.{Channel, has, place_or, by_channel}
use Rattle.guards_model.specs.Missions.{MissionValue, IsMission}
use Rattle.guards_model.specs.Frames.{SourceValue}
use Rattle.guards_model.specs.Network.{Log, have_of}
use Rattle.guards_model.specs.Decisions.{request_code, is_start_of, joined_of}
use Rattle.guards_model.specs.Diagnosis.{enough_heard, asks}
use Rattle.guards_model.specs.Modes.{ModeValue, up, down, waiting, joining, is_up, is_joining}
use Rattle.guards_model.specs.Transfers.{TransferValue}
use Rattle.guards_runs.specs.Cycles.{Past, Cycle, mode_in, held_start, joins_from, source_word, received_body, work_of, cycle_from, next_cycle, cycles_before}
use Rattle.guards_runs.specs.Disturbed.{disturbed_channels}
use Rattle.guards_runs.specs.Due.{targets_of}
use Rattle.guards_runs.specs.Promises.{HasRun}
use Rattle.guards_model.proofs.BoolTests.{both, and_true, clear, second_true}
use Rattle.guards_model.proofs.SettledWords.{many_do_tell}
use Rattle.guards_model.proofs.Tables.{at-by_channel}
use Rattle.guards_laws.proofs.Agreement.{run_cycles}
use Rattle.guards_laws.proofs.AgreedWords.{settled_now}
use Rattle.guards_laws.proofs.CycleParts.{active-is, heard-is}
use Rattle.guards_laws.proofs.Received.{not_disturbed}
use Rattle.guards_laws.proofs.Restoring.{target_joined}
use Rattle.guards_laws.proofs.StayActive.{joined_passive}
use Rattle.recovery_laws.proofs.JudgedCounts.{low_now}
use Rattle.recovery_laws.proofs.Judgement.{fresh-is}
use Rattle.recovery_laws.proofs.ActiveBefore.{active_if_old}
use Rattle.recovery_laws.specs.Returning.{IsHeardByAll, IsAlone}

not_both : (m : ModeValue) → is_up m ≡ true → is_joining m ≡ true → ⊥
not_both up h k = cc
not_both down h k = cc
not_both (waiting n) h k = cc
not_both joining h k = cc

pub from_sweep : (f : Slot → Bool) → list_all f (slots_from Request) ≡ true → list_all f (slots_from Sweep) ≡ true
from_sweep f h =
    second_true (f Vote) (list_all f (slots_from Sweep))
    (second_true (f Tasks) (f Vote && list_all f (slots_from Sweep))
    (second_true (f Round3) (f Tasks && (f Vote && list_all f (slots_from Sweep)))
    (second_true (f Round2) (f Round3 && (f Tasks && (f Vote && list_all f (slots_from Sweep))))
    (second_true (f Round1) (f Round2 && (f Round3 && (f Tasks && (f Vote && list_all f (slots_from Sweep)))))
    (second_true (f Request) (f Round1
    && (f Round2 && (f Round3 && (f Tasks && (f Vote && list_all f (slots_from Sweep)))))) h)))))

in_switch : (f : Slot → Bool) → list_all f (slots_from Request) ≡ true → f Switch ≡ true
in_switch f h = (both (f Switch) true
    (second_true (f Final) (f Switch && true)
    (second_true (f Sweep) (f Final && (f Switch && true)) (from_sweep f h)))).0

-- ---- codes

code_one : (o : Option TransferValue) (q : Channel) (h : Option ℕ) → nat_le 1 (request_code o q (Some h)) ≡ true
code_one o q None = refl
code_one o q (Some s) = by (is_start_of o q s)
  where
    by : (b : Bool) → nat_le 1 (cond b 2 1) ≡ true
    by true = refl
    by false = refl

pub code_two : (o : Option TransferValue) (t : TransferValue) (q : Channel) (s : ℕ) → o ≡ Some t →
    has t.targets q ≡ true → t.start ≡ s → request_code o q (Some (Some s)) ≡ 2
code_two o t q s e there start =
    ap (λ o. request_code o q (Some (Some s))) e
    ∙ ap (λ b. cond b 2 1) (and_true (has t.targets q) (t.start == s) there (eq-eqb t.start s start))

module _ (M : MissionValue) (L : Log) (n : ℕ) (mission : IsMission M) (early : n ≤ M.cycles) (run : HasRun M L n)
    (q : Channel) where
  abbrev past : ℕ → Past
  past m = cycles_before M L m

  abbrev now : ℕ → Cycle
  now m = next_cycle M L (cycles_before M L m)

  joined-is : (m : ℕ) → (now m).joined ≡ joined_of M.rules.last (now m).transfer (now m).remaining
  unfolding cycle_from work_of
  joined-is m = refl

  -- who is up is another channel than the one that joins
  up_other : (m : ℕ) (j : Channel) → joins_from Request (now m) q ≡ true → is_up (mode_in (now m) j Switch) ≡ true →
      (j == q) ≡ false
  up_other m j joins is_on = by (j == q) refl
    where
      by : (b : Bool) → (j == q) ≡ b → b ≡ false
      by true e =
          absurd (not_both (mode_in (now m) q Switch)
          (subst (λ k. is_up (mode_in (now m) k Switch) ≡ true) (eqb-true j q e) is_on)
          (in_switch (λ slot. is_joining (mode_in (now m) q slot)) joins))
      by false e = refl

  -- nobody else joins
  unjoined : (m : ℕ) (j : Channel) → IsAlone (now m) q → (j == q) ≡ false → has (now m).joined j ≡ false
  unjoined m j alone other =
      clear (has (now m).joined j)
      (λ joined.
      let tr = target_joined M.rules (now m).transfer (now m).remaining j
      (sym (ap (λ s. has s j) (joined-is m)) ∙ joined) in
      sym (ap (λ o. has (targets_of o) j) tr.runs ∙ tr.target) ∙ (alone j other).1)

  -- nor does a channel that is active
  pub own_unjoined : (m : ℕ) → has (now m).active q ≡ true → has (now m).joined q ≡ false
  own_unjoined m there = clear (has (now m).joined q) (λ joined. sym there ∙ joined_passive M L m q joined)

  -- a code that every other active channel has is told by many in the next cycle
  pub told_next : (m code : ℕ) → suc m < n → joins_from Request (now (suc m)) q ≡ true → IsAlone (now m) q →
      ((j : Channel) → has (now m).active j ≡ true → (j == q) ≡ false →
      nat_le code (place_or (place_or (now m).request_codes j []) q 0) ≡ true) →
      enough_heard (now (suc m)).active (now (suc m)).agreed code q ≡ true
  told_next m code soon joins alone codes =
      many_do_tell (now (suc m)).active (disturbed_channels (length (past (suc m))) (now (suc m)) Switch)
      (source_word M (past (suc m))) (now (suc m)).agreed
      (settled_now M L (suc m) Switch (run_cycles M L n mission early run (suc m) soon))
      (λ (w : SourceValue). nat_le code (place_or w.heard q 0))
      (λ j there good.
      let u = not_disturbed (length (past (suc m))) (now (suc m)) Switch j there good in
      let other : (j == q) ≡ false = up_other (suc m) j joins u.up in
      let old : has (now m).joined j ≡ false = unjoined m j alone other in
      let was : has (now m).active j ≡ true =
      active_if_old M (past m) (now m) j (low_now M L mission (suc m) j there)
      (subst (λ s. has s j ≡ true) (active-is M L (past (suc m))) there) old in
      ap (λ b. nat_le code (place_or (cond b (by_channel (λ q. 0)) (place_or (now m).request_codes j [])) q 0)) old
      ∙ codes j was other)

  pub heard_code : (m : ℕ) → q < 7 → IsHeardByAll M (past m) (now m) q → (j : Channel) → has (now m).active j ≡ true →
      (j == q) ≡ false →
      place_or (place_or (now m).request_codes j []) q 0 ≡ request_code (now m).running q (Some (held_start q (past m)))
  heard_code m low heard j there other =
      ap (λ t. place_or t q 0) (heard-is M L (past m) j (low_now M L mission m j there))
      ∙ at-by_channel (λ q. request_code (now m).running q
      (have_of (received_body M (now m).entries (length (past m)) Request q j))) q 0 low
      ∙ ap (request_code (now m).running q) (heard j there other)

  pub asked_next : (m : ℕ) → suc m < n → q < 7 → joins_from Request (now (suc m)) q ≡ true → IsAlone (now m) q →
      IsHeardByAll M (past m) (now m) q →
      enough_heard (now (suc m)).active (now (suc m)).agreed 1 q ≡ true
  asked_next m soon low joins alone heard =
      told_next m 1 soon joins alone
      (λ j there other. ap (nat_le 1) (heard_code m low heard j there other)
      ∙ code_one (now m).running q (held_start q (past m)))

  pub asks_next : (m : ℕ) → suc m < n → q < 7 → joins_from Request (now (suc m)) q ≡ true → IsAlone (now m) q →
      IsHeardByAll M (past m) (now m) q → has (now m).joined q ≡ false →
      asks (now (suc m)).active (now (suc m)).fresh (now (suc m)).agreed q ≡ true
  asks_next m soon low joins alone heard new =
      and_true (enough_heard (now (suc m)).active (now (suc m)).agreed 1 q) (not (has (now (suc m)).fresh q))
      (asked_next m soon low joins alone heard)
      (ap (λ s. not (has s q)) (fresh-is M L (past (suc m))) ∙ ap not new)
