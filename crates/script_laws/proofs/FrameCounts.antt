-- Two runs of one mission over the scripted bus that came to their end carried equally many frames.
use Rattle.std.proofs.Common.{◌≡◌, ℕ, ◌+◌, ◌-◌, ◌⊎◌, inl, inr, Bool, true, false, cond, List, [], ◌∷◌, ◌++◌, length, Some, refl, sym, ap, subst, ◌∙◌, arith, length-append}
use Rattle.std.specs.Prelude.{filter, flat_map}
use Rattle.std.proofs.lemmas.Slice.Zip.{AllZip-long}
use Rattle.guards_model.specs.declared.Slot.{Slot}
use Rattle.guards_model.specs.declared.Slot.TheVariants.{Request, Round1, Round2, Round3, Tasks, Vote, Sweep, Final, Switch, Output}
use Rattle.guards_model.specs.Slots.{up_to, every_slot}
use Rattle.guards_model.specs.Missions.{MissionValue, bus_rules}
use Rattle.guards_model.specs.Network.{Log}
use Rattle.guards_model.specs.Texts.{StopValue}
use Rattle.guards_runs.specs.Cycles.{Cycle, CycleStart, Past, next_cycle, cycles_before, cycle_at}
use Rattle.guards_runs.specs.Disturbed.{stop_of}
use Rattle.guards_runs.specs.Due.{Carry, IsDue, AreDue, slot_carries, cycle_carries, carries_through}
use Rattle.guards_runs.specs.Promises.{IsRun}
use Rattle.guards_runs.specs.SameFacts.{HaveSameFacts}
use Rattle.guards_laws.proofs.FirstStop.{stop_stays}
use Rattle.script_laws.specs.Scripts.{ForgesNoSweep, StopsAt, IsScriptedRun}
use Rattle.script_laws.proofs.SamePast.{bare, size_bare, same_of, same_size}
use Rattle.script_laws.proofs.SlotsAlike.{InBoth, AreBesides, same_start, cycle_same, earlier}
use Rattle.script_laws.proofs.FirstStops.{same_slot_first}
use Rattle.script_laws.proofs.RunEnds.{entries_through, stop_clash}
use Rattle.script_laws.proofs.Reports.{script_now, same_before, stops_alike}

-- ---- whole cycles

-- how many frames are due in some cycles
abbrev frames_due : Past → ℕ
frames_due [] = 0
frames_due (e ∷ past) = frames_due past + length (cycle_carries (length past) e)

frames_bare : (P : Past) → frames_due (bare P) ≡ frames_due P
frames_bare [] = refl
frames_bare (e ∷ P) =
    ap (λ c. frames_due (bare P) + length (cycle_carries c e)) (size_bare P)
    ∙ ap (λ k. k + length (cycle_carries (length P) e)) (frames_bare P)

frames_same : (P R : Past) → HaveSameFacts P R → frames_due P ≡ frames_due R
frames_same P R same = same_of P R same frames_due frames_bare

-- so many are carried
frames_carried : (M : MissionValue) (P : Past) (entries : Log) → AreDue M P entries → length entries ≡ frames_due P
frames_carried M [] entries due = ap length due
frames_carried M (e ∷ P) entries due =
    ap length due.2 ∙ length-append due.0 due.1
    ∙ ap (λ k. k + length due.1) (frames_carried M P due.0 due.3)
    ∙ ap (λ k. frames_due P + k) (AllZip-long (IsDue M P e) (cycle_carries (length P) e) due.1 due.4)

-- ---- a cycle up to a slot

each_same : (f g : Slot → List Carry) (p : Slot → Bool) (slots : List Slot) → ((x : Slot) → p x ≡ true → f x ≡ g x) →
    flat_map f (filter p slots) ≡ flat_map g (filter p slots)
each_same f g p [] same = refl
each_same f g p (x ∷ slots) same = by_test (p x) refl (each_same f g p slots same)
  where
    by_test : (b : Bool) → p x ≡ b → flat_map f (filter p slots) ≡ flat_map g (filter p slots) →
        flat_map f (cond b (x ∷ filter p slots) (filter p slots))
        ≡ flat_map g (cond b (x ∷ filter p slots) (filter p slots))
    by_test true h rest = ap (λ xs. xs ++ flat_map f (filter p slots)) (same x h) ∙ ap (λ xs. g x ++ xs) rest
    by_test false h rest = rest

module _ (M : MissionValue) (L K : Log) (P R : Past) (last other : Slot) (two : AreBesides M L K P R last other) where
  abbrev e : Cycle
  e = next_cycle M L P

  abbrev d : Cycle
  d = next_cycle M K R

  -- up to the vote the opening alone says who sends to whom
  abbrev opened : CycleStart → Cycle
  opened o = record { entries = []; opening = o; agreement = e.agreement; decision = e.decision; work = e.work }

  slot_same : (c : ℕ) (slot : Slot) → InBoth last other slot → slot_carries c e slot ≡ slot_carries c d slot
  slot_same c Request h = ap (λ o. slot_carries c (opened o) Request) (same_start M L K P R last other two)
  slot_same c Round1 h = ap (λ o. slot_carries c (opened o) Round1) (same_start M L K P R last other two)
  slot_same c Round2 h = ap (λ o. slot_carries c (opened o) Round2) (same_start M L K P R last other two)
  slot_same c Round3 h = ap (λ o. slot_carries c (opened o) Round3) (same_start M L K P R last other two)
  slot_same c Tasks h = refl
  slot_same c Vote h = ap (λ o. slot_carries c (opened o) Vote) (same_start M L K P R last other two)
  slot_same c Sweep h = ap (λ x. slot_carries c x Sweep)
      (cycle_same M L K P R last other two (earlier last other Vote Sweep refl h))
  slot_same c Final h = ap (λ x. slot_carries c x Final)
      (cycle_same M L K P R last other two (earlier last other Vote Final refl h))
  slot_same c Switch h = ap (λ x. slot_carries c x Switch)
      (cycle_same M L K P R last other two (earlier last other Vote Switch refl h))
  slot_same c Output h = refl

  through_same : (slot : Slot) → InBoth last other slot →
      carries_through (length P) e slot ≡ carries_through (length R) d slot
  through_same slot h =
      ap (λ c. carries_through c e slot) (same_size P R two.same)
      ∙ each_same (slot_carries (length R) e) (slot_carries (length R) d) (λ x. up_to x slot) every_slot
      (λ x before. slot_same (length R) x (earlier last other x slot before h))

-- ---- whole runs

-- the stop of a run that stopped
stop_is : (M : MissionValue) (L : Log) (stop : StopValue) → StopsAt M L stop →
    stop_of (cycles_before M L M.cycles) ≡ Some stop
stop_is M L stop s = stop_stays M L stop.cycle stop s.unstopped s.stopped (M.cycles - stop.cycle - 1) M.cycles
    (omega (arith, s.within))

module _ (M : MissionValue) (L K : Log) (none : ForgesNoSweep (bus_rules M)) (run_l : IsScriptedRun M L)
    (run_k : IsScriptedRun M K) where
  whole_alike : IsRun M L M.cycles → IsRun M K M.cycles → length L ≡ length K
  whole_alike l k =
      let P = cycles_before M L M.cycles in
      let R = cycles_before M K M.cycles in
      frames_carried M P L l.due
      ∙ frames_same P R (same_before M L K none run_l run_k M.cycles (omega arith) l.unstopped)
      ∙ sym (frames_carried M R K k.due)

  stopped_alike : (stop : StopValue) → StopsAt M L stop → StopsAt M K stop → length L ≡ length K
  stopped_alike stop l k =
      let P = cycles_before M L stop.cycle in
      let R = cycles_before M K stop.cycle in
      let same : HaveSameFacts P R =
      same_before M L K none run_l run_k stop.cycle (omega (arith, l.within)) l.unstopped in
      let two : AreBesides M L K P R stop.slot stop.slot =
      record {
        same = same;
        due_first = entries_through M L stop.cycle stop.slot l.due;
        due_second = entries_through M K stop.cycle stop.slot k.due;
        script_first = script_now (bus_rules M) M L P run_l.0;
        script_second = script_now (bus_rules M) M K R run_k.0;
      } in
      let carries_l = carries_through (length P) (cycle_at M L stop.cycle) stop.slot in
      let carries_k = carries_through (length R) (cycle_at M K stop.cycle) stop.slot in
      let in_both : InBoth stop.slot stop.slot stop.slot =
      record { first = same_slot_first stop.slot; second = same_slot_first stop.slot } in
      let now : length l.due.1 ≡ length k.due.1 =
      AllZip-long (IsDue M P (cycle_at M L stop.cycle)) carries_l l.due.1 l.due.4
      ∙ ap length (through_same M L K P R stop.slot stop.slot two stop.slot in_both)
      ∙ sym (AllZip-long (IsDue M R (cycle_at M K stop.cycle)) carries_k k.due.1 k.due.4) in
      let before : length l.due.0 ≡ length k.due.0 =
      frames_carried M P l.due.0 l.due.3 ∙ frames_same P R same ∙ sym (frames_carried M R k.due.0 k.due.3) in
      ap length l.due.2 ∙ length-append l.due.0 l.due.1 ∙ ap (λ n. n + length l.due.1) before
      ∙ ap (λ n. length k.due.0 + n) now
      ∙ sym (length-append k.due.0 k.due.1) ∙ sym (ap length k.due.2)

  same_stop : stop_of (cycles_before M L M.cycles) ≡ stop_of (cycles_before M K M.cycles)
  same_stop = stops_alike M L K none run_l run_k

  pub frames_alike : length L ≡ length K
  frames_alike = by_ends run_l.1 run_k.1
    where
      by_ends : IsRun M L M.cycles ⊎ ((stop : StopValue) × StopsAt M L stop) → IsRun M K M.cycles
          ⊎ ((stop : StopValue) × StopsAt M K stop) → length L ≡ length K
      by_ends (inl l) (inl k) = whole_alike l k
      by_ends (inl l) (inr (stop, k)) =
          absurd (stop_clash stop (stop_of (cycles_before M K M.cycles)) (sym same_stop ∙ l.unstopped)
          (stop_is M K stop k))
      by_ends (inr (stop, l)) (inl k) =
          absurd (stop_clash stop (stop_of (cycles_before M L M.cycles)) (same_stop ∙ k.unstopped) (stop_is M L stop l))
      by_ends (inr (stop, l)) (inr (other, k)) =
          let both : Some other ≡ Some stop = sym (stop_is M K other k) ∙ sym same_stop ∙ stop_is M L stop l in
          let same : other ≡ stop = cc in
          stopped_alike stop l (subst (StopsAt M K) same k)
