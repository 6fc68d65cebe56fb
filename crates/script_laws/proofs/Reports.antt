-- Two runs of one mission over the scripted bus that came to their end stop alike, and tell the same.
use Rattle.std.proofs.Common.{◌≡◌, ℕ, zero, suc, ◌<◌, ◌≤◌, ◌==◌, inl, inr, Bool, true, false, cond, length, List, [], ◌∷◌, ◌++◌, map, Option, None, Some, refl, sym, ap, subst, ◌∙◌, arith}
use Rattle.std.specs.Prelude.{is_some, option_map, if◌then◌else◌}
use Rattle.std.specs.List.{AllByRecursion}
use Rattle.guards_model.specs.declared.Slot.{Slot}
use Rattle.guards_model.specs.declared.Slot.TheVariants.{Vote}
use Rattle.guards_model.specs.Slots.{up_to}
use Rattle.guards_model.specs.Missions.{MissionValue, bus_rules}
use Rattle.guards_model.specs.BusRules.{RuleValue}
use Rattle.guards_model.specs.Network.{EntryValue, Log}
use Rattle.guards_model.specs.ScriptedBus.{IsScripted}
use Rattle.guards_model.specs.Texts.{Part, StopValue, text_of_parts, cycle_part, head_line, last_line}
use Rattle.guards_runs.specs.Cycles.{Cycle, Past, next_cycle, cycles_before, cycle_at}
use Rattle.guards_runs.specs.Disturbed.{disturbed_channels, stop_in, stop_of, first_of_two}
use Rattle.guards_runs.specs.Report.{cycle_record, cycle_parts, parts_of, told_cycles, told_histories, run_parts, report_parts, report}
use Rattle.guards_runs.specs.SameFacts.{without_entries, HaveSameFacts}
use Rattle.guards_laws.proofs.DueEntries.{entries_now}
use Rattle.guards_laws.proofs.FirstStop.{told_whole}
use Rattle.script_laws.proofs.SamePast.{bare, size_bare}
use Rattle.guards_laws.proofs.Unsent.{All-filter}
use Rattle.script_laws.specs.Scripts.{ForgesNoSweep, IsScriptedRun}
use Rattle.script_laws.proofs.SlotsAlike.{AreBesides, cycle_same}
use Rattle.script_laws.proofs.FirstStops.{ComesTo, stops_same}
use Rattle.script_laws.proofs.RunEnds.{Reaches, reaches}

-- ---- what is told

told_stopped : (P : Past) (e : Cycle) (stop : StopValue) → stop_of (e ∷ P) ≡ Some stop →
    told_cycles (e ∷ P) ≡ told_cycles P
told_stopped P e stop h = ap (λ o. if is_some o then told_cycles P else e ∷ P) h

no_histories : (P : Past) → told_histories P [] ≡ []
no_histories [] = refl
no_histories (e ∷ P) = by_stop (is_some (stop_of (e ∷ P))) (no_histories P)
  where
    by_stop : (b : Bool) → told_histories P [] ≡ [] → cond b (told_histories P []) [] ≡ []
    by_stop true h = h
    by_stop false h = refl

parts_bare : (M : MissionValue) (P : Past) → cycle_parts false M [] (bare P) ≡ cycle_parts false M [] P
parts_bare M [] = refl
parts_bare M (e ∷ P) =
    ap (λ (xs : List Part). xs ++ cycle_part false (cycle_record M [] (length (bare P)) (without_entries e)) ∷ [])
    (parts_bare M P)
    ∙ ap (λ k. cycle_parts false M [] P ++ cycle_part false (cycle_record M [] k e) ∷ []) (size_bare P)

-- what two runs have in common after some cycles: the stop, or that there was none, and the facts of the cycles before
-- it
pub record AreAlike (P R : Past) : Type 0 where
  pub stops : stop_of P ≡ stop_of R
  pub facts : HaveSameFacts (told_cycles P) (told_cycles R)

facts_unstopped : (P R : Past) → AreAlike P R → stop_of P ≡ None → HaveSameFacts P R
facts_unstopped P R h no_stop =
    ap (map without_entries) (sym (told_whole P no_stop)) ∙ h.facts
    ∙ ap (map without_entries) (told_whole R (sym h.stops ∙ no_stop))

pub same_parts : (M : MissionValue) (P R : Past) → AreAlike P R → run_parts false M [] P ≡ run_parts false M [] R
same_parts M P R h =
    ap (λ hs. parts_of false M hs (told_cycles P) (stop_of P)) (no_histories P)
    ∙ ap (parts_of false M [] (told_cycles P)) h.stops
    ∙ ap (λ (xs : List Part). (head_line M.rules.channels M.cycles ∷ [])
    ∷ (xs ++ (last_line M.cycles (stop_of R) ∷ []) ∷ []))
    (sym (parts_bare M (told_cycles P)) ∙ ap (cycle_parts false M []) h.facts ∙ parts_bare M (told_cycles R))
    ∙ sym (ap (λ hs. parts_of false M hs (told_cycles R) (stop_of R)) (no_histories R))

-- ---- one more cycle

pub script_now : (rules : List RuleValue) (M : MissionValue) (L : Log) (past : Past) →
    AllByRecursion (IsScripted rules) L → AllByRecursion (IsScripted rules) (next_cycle M L past).entries
script_now rules M L past h =
    subst (AllByRecursion (IsScripted rules)) (sym (entries_now M L past))
    (All-filter (IsScripted rules) (λ (y : EntryValue). y.cycle == length past) L h)

-- a run that a cycle does not stop came to its end
came_to_end : (c : ℕ) (e : Cycle) (last : Slot) → ComesTo c e last → stop_in c e ≡ None → up_to Vote last ≡ true
came_to_end c e last (inl h) none =
    absurd (clash (sym none ∙ ap
    (option_map (λ (slot : Slot).
    record { cycle = c; slot = slot; set = disturbed_channels c e slot; active = e.active })) h))
  where
    clash : {s : StopValue} → None ≡ Some s → ⊥
    clash h = cc
came_to_end c e last (inr (is, h)) none = ap (up_to Vote) is

module _ (M : MissionValue) (L K : Log) (forges_none : ForgesNoSweep (bus_rules M)) (run_l : IsScriptedRun M L)
    (run_k : IsScriptedRun M K) where
  module _ (n : ℕ) (low : n < M.cycles) (before : AreAlike (cycles_before M L n) (cycles_before M K n)) where
    abbrev P : Past
    P = cycles_before M L n

    abbrev R : Past
    R = cycles_before M K n

    -- after a stop nothing is told
    stays : (stop : StopValue) → stop_of P ≡ Some stop →
        AreAlike (cycles_before M L (suc n)) (cycles_before M K (suc n))
    stays stop h =
        let first : stop_of (cycles_before M L (suc n)) ≡ Some stop =
        ap (λ o. first_of_two o (stop_in (length P) (cycle_at M L n))) h in
        let second : stop_of (cycles_before M K (suc n)) ≡ Some stop =
        ap (λ o. first_of_two o (stop_in (length R) (cycle_at M K n))) (sym before.stops ∙ h) in
        record {
          stops = first ∙ sym second;
          facts = ap (map without_entries) (told_stopped P (cycle_at M L n) stop first) ∙ before.facts
              ∙ sym (ap (map without_entries) (told_stopped R (cycle_at M K n) stop second));
        }

    module _ (no_stop : stop_of P ≡ None) where
      no_stop_too : stop_of R ≡ None
      no_stop_too = sym before.stops ∙ no_stop

      same_past : HaveSameFacts P R
      same_past = facts_unstopped P R before no_stop

      reach_l : Reaches M L n
      reach_l = reaches M L n run_l.1 low no_stop

      reach_k : Reaches M K n
      reach_k = reaches M K n run_k.1 low no_stop_too

      two : AreBesides M L K P R reach_l.last reach_k.last
      two =
          record {
            same = same_past;
            due_first = reach_l.due;
            due_second = reach_k.due;
            script_first = script_now (bus_rules M) M L P run_l.0;
            script_second = script_now (bus_rules M) M K R run_k.0;
          }

      same_stop : stop_in (length P) (cycle_at M L n) ≡ stop_in (length R) (cycle_at M K n)
      same_stop = stops_same M L K P R reach_l.last reach_k.last two forges_none reach_l.comes reach_k.comes

      stop_l : stop_of (cycles_before M L (suc n)) ≡ stop_in (length P) (cycle_at M L n)
      stop_l = ap (λ o. first_of_two o (stop_in (length P) (cycle_at M L n))) no_stop

      stop_k : stop_of (cycles_before M K (suc n)) ≡ stop_in (length R) (cycle_at M K n)
      stop_k = ap (λ o. first_of_two o (stop_in (length R) (cycle_at M K n))) no_stop_too

      goes_on : (o : Option StopValue) → stop_in (length P) (cycle_at M L n) ≡ o →
          AreAlike (cycles_before M L (suc n)) (cycles_before M K (suc n))
      goes_on (Some stop) h =
          let second : stop_of (cycles_before M K (suc n)) ≡ Some stop = stop_k ∙ sym same_stop ∙ h in
          record {
            stops = stop_l ∙ h ∙ sym second;
            facts = ap (map without_entries) (told_stopped P (cycle_at M L n) stop (stop_l ∙ h)) ∙ before.facts
                ∙ sym (ap (map without_entries) (told_stopped R (cycle_at M K n) stop second));
          }
      goes_on None h =
          let second : stop_of (cycles_before M K (suc n)) ≡ None = stop_k ∙ sym same_stop ∙ h in
          let over_l = came_to_end (length P) (cycle_at M L n) reach_l.last reach_l.comes h in
          let over_k = came_to_end (length R) (cycle_at M K n) reach_k.last reach_k.comes (sym same_stop ∙ h) in
          record {
            stops = stop_l ∙ h ∙ sym second;
            facts = ap (map without_entries) (told_whole (cycles_before M L (suc n)) (stop_l ∙ h))
                ∙ ap (λ x. x ∷ map without_entries P)
                (cycle_same M L K P R reach_l.last reach_k.last two (record { first = over_l; second = over_k }))
                ∙ ap (λ xs. without_entries (cycle_at M K n) ∷ xs) same_past
                ∙ sym (ap (map without_entries) (told_whole (cycles_before M K (suc n)) second));
          }

    one_more : (o : Option StopValue) → stop_of P ≡ o → AreAlike (cycles_before M L (suc n)) (cycles_before M K (suc n))
    one_more (Some stop) h = stays stop h
    one_more None h = goes_on h (stop_in (length P) (cycle_at M L n)) refl

  alike : (n : ℕ) → n ≤ M.cycles → AreAlike (cycles_before M L n) (cycles_before M K n)
  alike zero low = record { stops = refl; facts = refl }
  alike (suc n) low = one_more n low (alike n (omega (arith, low))) (stop_of (cycles_before M L n)) refl

  -- the facts of cycles that did not stop
  pub same_before : (n : ℕ) → n ≤ M.cycles → stop_of (cycles_before M L n) ≡ None →
      HaveSameFacts (cycles_before M L n) (cycles_before M K n)
  same_before n low no_stop = facts_unstopped (cycles_before M L n) (cycles_before M K n) (alike n low) no_stop

  pub stops_alike : stop_of (cycles_before M L M.cycles) ≡ stop_of (cycles_before M K M.cycles)
  stops_alike = (alike M.cycles (omega arith)).stops

  pub facts_alike : HaveSameFacts (told_cycles (cycles_before M L M.cycles)) (told_cycles (cycles_before M K M.cycles))
  facts_alike = (alike M.cycles (omega arith)).facts

  pub parts_alike : report_parts M L ≡ report_parts M K
  unfolding report_parts
  parts_alike = same_parts M (cycles_before M L M.cycles) (cycles_before M K M.cycles) (alike M.cycles (omega arith))

  pub reports_alike : report M L ≡ report M K
  unfolding report
  reports_alike = ap text_of_parts parts_alike
